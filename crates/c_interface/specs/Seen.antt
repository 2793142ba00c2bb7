-- What the C side sees of an answer of the engine: the number that a function returns, and what then stands behind its pointers. One definition for all
-- of them: an answer comes to an outcome, and the outcome settles both.
use Rattle.std.specs.Prelude.{◌≡◌, cond, List, [], ◌∷◌, map, ℕ, ◌+◌, ◌*◌, ◌-◌, ◌^◌, ◌/◌, ◌%◌, min, pos, length, Option, Some, None, Result, Ok, Err}
use Rattle.literals.specs.Literal.{Literal}
use Rattle.literals.specs.declared.LiteralSet.{LiteralSet}
use Rattle.dates.specs.declared.Moment.{Moment}
use Rattle.dates.specs.declared.Applies.{Applies}
use Rattle.records.specs.declared.Book.{Book}
use Rattle.records.specs.Limits.{max_rules}
use Rattle.records.specs.Format.{Read, value, refused}
use Rattle.records.specs.Refusals.{number_of}
use Rattle.records.specs.declared.Rule.{Rule}
use Rattle.records.specs.declared.refusal.Refusal.{Refusal}
use Rattle.book.specs.Answer.{padded}
use Rattle.problem.specs.Problem.{Problem, given}
use Rattle.consequence.specs.Meaning.{consequence_of}
use Rattle.step.specs.Meaning.{question_of, step_of}
use Rattle.log_form.specs.Format.{log_bytes}
use Rattle.log_form.specs.declared.Step.{Step}
use Rattle.log_writer.specs.declared.Written.{Written}
use Rattle.engine.specs.Calls.{ModelAnswer, ConsequenceAnswer, StepAnswer, LogAnswer, between, step_says, LogOutcome, logged, refused_with}

-- ---- a refusal as one number

-- The largest place that 64 bits have room for beside a number of 8. No memory has so many bytes; a larger place would be given as this one.
abbrev pub max_place : ℕ
max_place = 2 ^ 56 - 1

-- The number in the lowest byte, the place above it.
unfoldable pub code : ℕ → ℕ → ℕ
code number place = number + 256 * min place max_place

-- What C reads off it.
unfoldable pub number_in : ℕ → ℕ
number_in r = r % 256

unfoldable pub place_in : ℕ → ℕ
place_in r = r / 256

-- ---- what a call comes to

-- What it puts behind the pointers, or the refusal's number and place.
pub data Outcome (B : Type 0) : Type 0 where
  done : B → Outcome B
  refusal : ℕ → ℕ → Outcome B

module _ {B : Type 0} where
  -- What is returned: 0 for done.
  unfoldable pub returned : Outcome B → ℕ
  returned (done b) = 0
  returned (refusal number place) = code number place

  -- What stands behind the pointers then; a refusal leaves what stood there.
  unfoldable pub behind : Outcome B → B → B
  behind (done b) before = b
  behind (refusal number place) before = before

-- A function for C: the engine's contract of its answer, that the C side sees this answer, and that what is seen is what the bytes mean, where a refusal has
-- document 01's number itself.
pub record Seen {A B : Type 0} (Call : A → Type 0) (answer : A) (seen : A → Outcome B) (meant : Outcome B) (before after : B) (r : ℕ) : Type 0 where
  pub called : Call answer
  pub as_meant : seen answer ≡ meant
  pub returns : r ≡ returned (seen answer)
  pub leaves : after ≡ behind (seen answer) before

-- ---- what is handed over

-- The moment of a call.
abbrev pub as_moment : ℕ → ℕ → ℕ → ℕ → Moment
as_moment year month day minute = record { date = record { year = year; month = month; day = day }; minute = minute }

-- ---- what stands behind the pointers of a function, in their order

abbrev pub as_literals : ℕ → ℕ → LiteralSet
as_literals on off = record { yes = on; no = off }

-- A book: as it is kept, and a row of nine numbers for the window of each rule.
pub record BookShown : Type 0 where
  pub variables : ℕ
  pub choices : ℕ
  pub rules : ℕ
  pub on : List ℕ
  pub off : List ℕ
  pub windows : List (List ℕ)
  pub facts_on : ℕ
  pub facts_off : ℕ

abbrev pub as_book : ℕ → ℕ → ℕ → List ℕ → List ℕ → List (List ℕ) → ℕ → ℕ → BookShown
as_book variables choices rules on off windows facts_on facts_off =
    record { variables = variables; choices = choices; rules = rules; on = on; off = off; windows = windows; facts_on = facts_on; facts_off = facts_off }

abbrev pub as_step : Literal → ℕ → ℕ → ℕ → ℕ → ℕ → Step
as_step goal reasons_on reasons_off new_on new_off cost =
    record { goal = goal; reasons = as_literals reasons_on reasons_off; new = as_literals new_on new_off; cost = cost }

-- A log's length, its number of steps and its total.
pub record LogShown : Type 0 where
  pub size : ℕ
  pub steps : ℕ
  pub total : ℕ

abbrev pub as_log : ℕ → ℕ → ℕ → LogShown
as_log size steps total = record { size = size; steps = steps; total = total }

-- ---- each answer of the engine as an outcome

-- What is shown of an answer, or its refusal's number and place.
abbrev pub seen_as : {A B : Type 0} → (A → B) → Result A Refusal → Outcome B
seen_as show (Ok a) = done (show a)
seen_as show (Err r) = refusal (number_of r.kind) r.place

-- When a rule applies: the fields of WN in their order, first day, end day, weekdays, first minute, end minute; zeros where it has none.
unfoldable pub window_row : Applies → List ℕ
window_row Applies.Always = 0 ∷ 0 ∷ 0 ∷ 0 ∷ 0 ∷ 0 ∷ 0 ∷ 0 ∷ 0 ∷ []
window_row (Applies.During w) =
    w.first_day.year ∷ w.first_day.month ∷ w.first_day.day ∷ w.end_day.year ∷ w.end_day.month ∷ w.end_day.day ∷ w.weekdays
    ∷ w.first_minute ∷ w.end_minute ∷ []

-- The masks of the rules that say yes, of those that say no, and the rows of their windows; zeros after the last rule.
abbrev pub rules_yes : List Rule → List ℕ
rules_yes rs = padded 0 max_rules (map (λ (r : Rule). r.literals.yes) rs)

abbrev pub rules_no : List Rule → List ℕ
rules_no rs = padded 0 max_rules (map (λ (r : Rule). r.literals.no) rs)

abbrev pub rules_windows : List Rule → List (List ℕ)
rules_windows rs = padded (window_row Applies.Always) max_rules (map (λ (r : Rule). window_row r.applies) rs)

-- The book: every field of it.
abbrev pub shown_book : Book → BookShown
shown_book b =
    as_book b.variables b.choices (length b.rules) (rules_yes b.rules) (rules_no b.rules) (rules_windows b.rules) b.facts.yes b.facts.no

abbrev pub seen_book : Result Book Refusal → Outcome BookShown
seen_book r = seen_as shown_book r

-- The costs, a row of two for each choice that a book can have.
abbrev pub seen_costs : List (List ℕ) → Result Book Refusal → Outcome (List (List ℕ))
seen_costs costs r = seen_as (λ b. costs) r

-- The length of the book that was made of a text.
abbrev pub seen_imported : Result ℕ Refusal → Outcome ℕ
seen_imported r = seen_as (λ size. size) r

-- The mask of a model's yes.
abbrev pub seen_model : ModelAnswer → Outcome ℕ
seen_model r = seen_as (λ m. m) r

-- What is filled in, as two masks.
abbrev pub seen_consequence : ConsequenceAnswer → Outcome LiteralSet
seen_consequence r = seen_as (λ two. two) r

-- A step: its goal, its reasons, its new literals, its cost. Where nothing is left all of them are 0, the goal too, which no literal is.
abbrev pub shown_step : Option Step → Step
shown_step (Some s) = s
shown_step None = as_step (pos 0) 0 0 0 0 0

abbrev pub seen_step : StepAnswer → Outcome Step
seen_step r = seen_as shown_step r

-- A log: its length, its number of steps and its total.
abbrev pub seen_log : LogAnswer → Outcome LogShown
seen_log r = seen_as (λ (w : Written). as_log w.size w.steps w.total) r

-- ---- what the bytes mean as an outcome: a refusal has document 01's number itself

-- What is shown of what is read, or the refusal.
abbrev pub read_as : {A B : Type 0} → (A → B) → Read A → Outcome B
read_as show (value a end) = done (show a)
read_as show (refused number place) = refusal number place

-- The step of a problem from a known set, nothing left, or 10.
abbrev pub step_as : LiteralSet → Problem → Outcome Step
step_as known p = cond (between (given p) known (consequence_of p)) (seen_step (step_says (step_of (question_of p known)))) (refusal 10 0)

-- The log, or the refusal.
abbrev pub log_as : LogOutcome → Outcome LogShown
log_as (logged l) = done (as_log (length (log_bytes l)) l.steps l.total)
log_as (refused_with number place) = refusal number place
