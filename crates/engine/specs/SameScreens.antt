-- Rules typed in another order (document 02, E1 and, with one moment for both books, E7): which books have the same screens at a moment, and what is claimed
-- of the calls, for any bytes that read as two such books and by the contracts of the calls alone. `same_screens` (proofs/SameScreens) shows it.
use Rattle.std.specs.Prelude.{◌≡◌, true, ◌⊎◌, ℕ, ◌≤◌, ◌<◌, length, drop, Ok}
use mathlib.Core.List.{List, ◌++◌, Memᴰ}
use Rattle.sets.specs.Sets.{inter}
use Rattle.dates.specs.Windows.{is_moment}
use Rattle.dates.specs.declared.Moment.{Moment}
use Rattle.literals.specs.Literal.{Literal}
use Rattle.records.specs.Limits.{max_log}
use Rattle.records.specs.Format.{Read, value, refused, OrderBook, read_book}
use Rattle.problem.specs.Problem.{Problem, rules_in_force, problem_of}
use Rattle.consequence.specs.Meaning.{theory_of}
use Rattle.consequence.specs.SameFillings.{SameFillings}
use Rattle.records.specs.Refusals.{refuses}
use Rattle.engine.specs.Calls.{ModelAnswer, ConsequenceAnswer, StepAnswer, LogAnswer, log_written}
use Rattle.engine.specs.Calls.{posed, NoModelIn, ModelCall, ConsequenceCall, StepCall, LogCall}

-- ---- which books

-- Document 02: "two accepted books with the same U, costs and facts, where the fillings that obey the rules, facts left aside, give the same set when
-- restricted to the choices", of the rules in force at one moment. Nothing is said of V, R, the rules and the helpers: they may all differ. Given facts rise
-- in an accepted book, so that the same facts are the same list; `Retyped` says accepted.
pub record SameScreens (moment : Moment) (b c : OrderBook) : Type 0 where
  pub same_choices : b.header.choices ≡ c.header.choices
  pub same_costs : b.costs ≡ c.costs
  pub same_facts : b.facts ≡ c.facts
  pub same_fillings : SameFillings (theory_of (problem_of moment b)) (theory_of (problem_of moment c))

-- The plainest case, that of the request's name: over the same variables the rules in force of each are rules in force of the other, in any order and any
-- number of times. With the same U, costs and facts such books have the same screens (`reordered_same`, proofs/SameScreens).
pub record Reordered (moment : Moment) (b c : OrderBook) : Type 0 where
  pub same_variables : b.header.variables ≡ c.header.variables
  pub rules_there : (r : List Literal) → Memᴰ r (rules_in_force moment b.rules) → Memᴰ r (rules_in_force moment c.rules)
  pub rules_back : (r : List Literal) → Memᴰ r (rules_in_force moment c.rules) → Memᴰ r (rules_in_force moment b.rules)

-- The bytes s and t read as two books that are related.
pub record BothRead (related : OrderBook → OrderBook → Type 0) (s t : List ℕ) : Type 0 where
  pub book : OrderBook
  pub end : ℕ
  pub accepted : read_book s ≡ value book end
  pub other : OrderBook
  pub other_end : ℕ
  pub other_accepted : read_book t ≡ value other other_end
  pub same : related book other

-- They read as two books with the same screens at a moment that can be.
pub record Retyped (moment : Moment) (s t : List ℕ) : Type 0 where
  pub possible : is_moment moment ≡ true
  pub books : BothRead (SameScreens moment) s t

-- ---- what is claimed

-- Both calls refuse with 9 at 0.
abbrev pub BothNine : {A : Type 0} → (ℕ → ℕ → A) → A → A → Type 0
BothNine refuse r o = (r ≡ refuse 9 0) × (o ≡ refuse 9 0)

-- Both calls write, and the logs are equal: length, steps, total and every byte. After its log each buffer is as it was.
pub record EqualLogs (before after : List ℕ) (r : LogAnswer) (other_before other_after : List ℕ) (o : LogAnswer) : Type 0 where
  pub bytes : List ℕ
  pub steps : ℕ
  pub total : ℕ
  pub written : r ≡ log_written (length bytes) steps total
  pub other_written : o ≡ log_written (length bytes) steps total
  pub buffer : after ≡ bytes ++ drop (length bytes) before
  pub other_buffer : other_after ≡ bytes ++ drop (length bytes) other_before

-- With buffers long enough the logs are equal, or both calls refuse with 9. A call with a short buffer gives 8, whatever the other does.
pub record SameLogs (moment : Moment) (s t : List ℕ) : Type 0 where
  pub equal : {before after other_before other_after : List ℕ} {r o : LogAnswer} → LogCall s moment before after r → LogCall t moment other_before other_after o
      → max_log ≤ length before → max_log ≤ length other_before → EqualLogs before after r other_before other_after o ⊎ BothNine refuses r o
  pub short : {before after : List ℕ} {r : LogAnswer} → LogCall s moment before after r → length before < max_log → (r ≡ refuses 8 0) ×
      (after ≡ before)
  pub other_short : {before after : List ℕ} {o : LogAnswer} → LogCall t moment before after o → length before < max_log
      → (o ≡ refuses 8 0) × (after ≡ before)
  -- where neither has a model, both give 9 if their buffers are long enough
  pub nine : {before after other_before other_after : List ℕ} {r o : LogAnswer} → LogCall s moment before after r → LogCall t moment other_before other_after o
      → max_log ≤ length before → max_log ≤ length other_before → NoModelIn (posed moment s) → NoModelIn (posed moment t) → BothNine refuses r o

-- The choices of the problem that bytes pose.
abbrev pub choices_in : Read Problem → ℕ
choices_in (refused number place) = 0
choices_in (value p end) = p.choices

-- Both calls answer a model, and the two are the same over the choices.
pub record SameChosen (choices : ℕ) (r o : ModelAnswer) : Type 0 where
  pub filling : ℕ
  pub answered : r ≡ Ok filling
  pub other_filling : ℕ
  pub other_answered : o ≡ Ok other_filling
  pub same_chosen : inter filling choices ≡ inter other_filling choices

-- One has a model exactly where the other has, and since the choices are the weightiest variables the first models choose the same. Their helpers may differ.
pub record SameModels (moment : Moment) (s t : List ℕ) : Type 0 where
  pub none_there : NoModelIn (posed moment s) → NoModelIn (posed moment t)
  pub none_back : NoModelIn (posed moment t) → NoModelIn (posed moment s)
  pub both : {r o : ModelAnswer} → ModelCall s moment r → ModelCall t moment o → SameChosen (choices_in (posed moment s)) r o ⊎ BothNine refuses r o

-- The same screens: the same is filled in, the next step from the same known set is the same, refusals included, and the logs have equal bytes.
-- Ruled out: helpers counted among the choices; the first contradiction that is found taken for the cheapest.
pub record SameAnswers (moment : Moment) (s t : List ℕ) : Type 0 where
  pub models : SameModels moment s t
  pub consequence : {r o : ConsequenceAnswer} → ConsequenceCall s moment r → ConsequenceCall t moment o → r ≡ o
  pub next_step : {on off : ℕ} {r o : StepAnswer} → StepCall s moment on off r → StepCall t moment on off o → r ≡ o
  pub logs : SameLogs moment s t
