-- What the public calls mean, for any bytes and any moment: the answer of each, by equation, and the demands in the words of document 01, of the rules in
-- force (document 02, E7). The contracts in src/lib.rt unfold to what stands here. Document 01's number and values are given for each case of an answer.
use Rattle.std.specs.Prelude.{◌≡◌, Bool, true, cond, ◌&&◌, List, ◌++◌, ℕ, ◌+◌, ◌^◌, ◌≤◌, ◌<◌, ltb, length, take, drop, Option, Some, None, Result, Ok, Err}
use Rattle.sets.specs.Sets.{subset, count}
use Rattle.dates.specs.Windows.{is_moment}
use Rattle.dates.specs.declared.Moment.{Moment}
use Rattle.literals.specs.declared.LiteralSet.{LiteralSet}
use Rattle.records.specs.Limits.{max_log}
use Rattle.records.specs.Format.{Read, value, refused, and_then, OrderBook, read_book}
use Rattle.records.specs.Refusals.{refuses}
use Rattle.records.specs.declared.refusal.Refusal.{Refusal}
use Rattle.problem.specs.Problem.{Problem, problem_of, given}
use Rattle.first_model.specs.Meaning.{first_filling}
use Rattle.consequence.specs.Meaning.{models, has_model, consequence_of}
use Rattle.consequence.specs.Demand2.{Demand2, NoFilling}
use Rattle.consequence.specs.Algorithm2.{ModelFilling, Narrowed}
use Rattle.step.specs.Meaning.{question_of, Answer, nothing_left, step, step_of}
use Rattle.step.specs.IsStep.{Between, IsStep}
use Rattle.log_form.specs.Format.{Log, log_bytes}
use Rattle.log_form.specs.Restarts.{is_begun, Begun}
use Rattle.log_form.specs.declared.Step as shown
use Rattle.log_writer.specs.Meaning.{run_for, log_of}
use Rattle.log_writer.specs.Demand3.{Explained}
use Rattle.log_writer.specs.declared.Written.{Written}

-- ---- the answers: what is asked for, or the refusal

abbrev pub ModelAnswer : Type 0
ModelAnswer = Result ℕ Refusal

abbrev pub ConsequenceAnswer : Type 0
ConsequenceAnswer = Result LiteralSet Refusal

-- No step where nothing is left.
abbrev pub StepAnswer : Type 0
StepAnswer = Result (Option shown.Step) Refusal

-- The log's length, its number of steps and its total.
abbrev pub LogAnswer : Type 0
LogAnswer = Result Written Refusal

abbrev pub log_written : ℕ → ℕ → ℕ → LogAnswer
log_written size steps total = Ok (record { size = size; steps = steps; total = total })

-- ---- every call but the readers

-- The book at a moment. A moment that cannot be is refused with 14 at 0, before the book is read.
unfoldable pub read_at : Moment → List ℕ → Read OrderBook
read_at moment s = cond (is_moment moment) (read_book s) (refused 14 0)

-- The problem that the bytes pose at a moment: that of the book's rules then in force, or the refusal.
unfoldable pub posed : Moment → List ℕ → Read Problem
posed moment s = and_then (read_at moment s) (λ b end. value (problem_of moment b) end)

module _ {A : Type 0} (answer : Problem → A) (refuse : ℕ → ℕ → A) where
  -- Bytes that pose no problem are refused as the reader refuses them, a problem without a model with 9 at 0; otherwise the problem is answered.
  unfoldable pub with_model : Read Problem → A
  with_model (refused number place) = refuse number place
  with_model (value p end) = cond (has_model p) (answer p) (refuse 9 0)

-- A problem is posed that no filling is a model of.
abbrev pub NoModelIn : Read Problem → Type 0
NoModelIn (refused number place) = ⊥
NoModelIn (value p end) = NoFilling p

-- 9 is answered exactly for a problem without a model, wherever nothing that is checked before 9 refuses. One law shows it for each call that gives
-- it by `with_model` (proofs/NineLaws).
pub record NineExactly {A : Type 0} (refuse : ℕ → ℕ → A) (due : Type 0) (m : Read Problem) (r : A) : Type 0 where
  pub nine_none : (place : ℕ) → r ≡ refuse 9 place → NoModelIn m
  pub none_nine : due → NoModelIn m → r ≡ refuse 9 0

-- ---- one model

-- The model is the first in the order with variable 1 weightiest and no before yes (E5).
unfoldable pub first_model : Problem → ℕ
first_model p = first_filling p.variables (models p)

-- The answer: that model, or the refusal.
unfoldable pub model_answer : Read Problem → ModelAnswer
unfolding with_model
model_answer m = with_model (λ p. Ok (first_model p)) refuses m

-- The contract of `model`. That it is a model, and before every other, is shown of `first_model` (FirstModel).
pub record ModelCall (s : List ℕ) (moment : Moment) (r : ModelAnswer) : Type 0 where
  pub said : r ≡ model_answer (posed moment s)
  pub nine : NineExactly refuses (Unit {0}) (posed moment s) r

-- ---- the consequence

unfoldable pub consequence_answer : Read Problem → ConsequenceAnswer
unfolding with_model
consequence_answer m = with_model (λ p. Ok (consequence_of p)) refuses m

-- Demand 2, of what is filled in.
abbrev pub FillsIn : Read Problem → ConsequenceAnswer → Type 0
FillsIn (value p end) (Ok two) = Demand2 p two
FillsIn (value p end) (Err refusal) = NoFilling p
FillsIn (refused number place) r = r ≡ refuses number place

-- Algorithm 2 of what is filled in (E3): so many models of the problem were found, at most one more than there are choices, and what is filled in is what
-- they have in common over choices.
pub record FoundModels (p : Problem) (two : LiteralSet) : Type 0 where
  pub number : ℕ
  pub narrowed : Narrowed p.variables p.choices (ModelFilling p) number two
  pub at_most : number ≤ count p.choices + 1

-- The same of every answer: where there is none to be found, no filling is a model.
abbrev pub FoundFor : Read Problem → ConsequenceAnswer → Type 0
FoundFor (value p end) (Ok two) = FoundModels p two
FoundFor (value p end) (Err refusal) = NoFilling p
FoundFor (refused number place) r = r ≡ refuses number place

-- The contract of `consequence`.
pub record ConsequenceCall (s : List ℕ) (moment : Moment) (r : ConsequenceAnswer) : Type 0 where
  pub said : r ≡ consequence_answer (posed moment s)
  pub demand_2 : FillsIn (posed moment s) r
  pub found : FoundFor (posed moment s) r
  pub nine : NineExactly refuses (Unit {0}) (posed moment s) r

-- ---- the next step

-- The answer on a step: none where nothing is left.
unfoldable pub step_says : Answer → StepAnswer
step_says nothing_left = Ok None
step_says (step s) =
    Ok (Some
    (record {
      goal = s.goal;
      reasons = record { yes = s.reasons_on; no = s.reasons_off };
      new = record { yes = s.new_on; no = s.new_off };
      cost = s.cost;
    }))

-- A known set lies between the given facts and the consequence.
unfoldable pub between : LiteralSet → LiteralSet → LiteralSet → Bool
between facts known forced =
    subset facts.yes known.yes && subset facts.no known.no && subset known.yes forced.yes && subset known.no forced.no

-- The step from a known set, or 10.
unfoldable pub step_for : LiteralSet → Problem → StepAnswer
step_for known p = cond (between (given p) known (consequence_of p)) (step_says (step_of (question_of p known))) (refuses 10 0)

-- After the moment and the book come 9 and 10 in that order.
unfoldable pub step_answer : ℕ → ℕ → Read Problem → StepAnswer
unfolding with_model
step_answer on off m = with_model (step_for (record { yes = on; no = off })) refuses m

-- The step for every filling and every candidate: what is answered is the step, nothing is left only where the known set is the consequence, and a problem
-- is refused only where no filling is a model or the known set does not lie between the given facts and the consequence.
abbrev pub IsNext : Read Problem → LiteralSet → StepAnswer → Type 0
IsNext (value p end) known (Ok (Some s)) =
    IsStep (question_of p known)
    (record { goal = s.goal; reasons_on = s.reasons.yes; reasons_off = s.reasons.no; new_on = s.new.yes; new_off = s.new.no; cost = s.cost })
IsNext (value p end) known (Ok None) = known ≡ consequence_of p
IsNext (value p end) known (Err refusal) =
    (f : ℕ) → f < 2 ^ p.variables → models p f ≡ true → Between (given p) known (consequence_of p) → ⊥
IsNext (refused number place) known r = r ≡ refuses number place

-- The contract of `next_step`.
pub record StepCall (s : List ℕ) (moment : Moment) (on off : ℕ) (r : StepAnswer) : Type 0 where
  pub said : r ≡ step_answer on off (posed moment s)
  pub is_next : IsNext (posed moment s) (record { yes = on; no = off }) r
  pub nine : NineExactly refuses (Unit {0}) (posed moment s) r

-- ---- the log

-- What the call comes to: the log, or the refusal's number and place.
pub data LogOutcome : Type 0 where
  logged : Log → LogOutcome
  refused_with : ℕ → ℕ → LogOutcome

-- After the moment and the book come 8 and 9 in that order.
unfoldable pub log_outcome : ℕ → Read Problem → LogOutcome
unfolding with_model
log_outcome room (refused number place) = refused_with number place
log_outcome room (value p end) = cond (ltb room max_log) (refused_with 8 0) (with_model (λ p. logged (log_of (run_for p))) refused_with (value p end))

-- The answer: the log's length, its number of steps and its total, or the refusal.
unfoldable pub log_answer : LogOutcome → LogAnswer
log_answer (logged l) = log_written (length (log_bytes l)) l.steps l.total
log_answer (refused_with number place) = refuses number place

-- The buffer at exit: the log and then the old bytes, or as it was.
unfoldable pub buffer_after : LogOutcome → List ℕ → List ℕ
buffer_after (logged l) before = log_bytes l ++ drop (length (log_bytes l)) before
buffer_after (refused_with number place) before = before

pub record LoggedAs (o : LogOutcome) (before after : List ℕ) (r : LogAnswer) : Type 0 where
  pub answered : r ≡ log_answer o
  pub buffer : after ≡ buffer_after o before

-- Demand 3: what stands in the buffer at exit is such a log; and where some filling is a model and the buffer is long enough, a log is written.
abbrev pub Explains : Read Problem → List ℕ → List ℕ → LogAnswer → Type 0
Explains (value p end) before after (Ok w) = Explained p (take w.size after) w.steps w.total
Explains (value p end) before after (Err refusal) =
    (f : ℕ) → f < 2 ^ p.variables → models p f ≡ true → max_log ≤ length before → ⊥
Explains (refused number place) before after r = r ≡ refuses number place

-- The contract of `log`.
pub record LogCall (s : List ℕ) (moment : Moment) (before after : List ℕ) (r : LogAnswer) : Type 0 where
  pub said : LoggedAs (log_outcome (length before) (posed moment s)) before after r
  pub demand_3 : Explains (posed moment s) before after r
  pub nine : NineExactly refuses (max_log ≤ length before) (posed moment s) r

-- ---- the log, carried on after a restart (E8)

-- What the call comes to where so many first bytes of the buffer are to be the beginning of the log: 15 where they are not, or are more than the buffer has.
unfoldable pub resumed : ℕ → List ℕ → LogOutcome → LogOutcome
resumed written before (logged l) = cond (is_begun written before (log_bytes l)) (logged l) (refused_with 15 0)
resumed written before (refused_with number place) = refused_with number place

-- It is the log's outcome, with 15 after the moment, the book, 8 and 9.
unfoldable pub resumed_outcome : ℕ → List ℕ → Read Problem → LogOutcome
resumed_outcome written before m = resumed written before (log_outcome (length before) m)

-- Demand 3 of the log that is carried on, and that what was found begins it; a problem is refused only where no filling is a model, the buffer is too short, or
-- what was found does not begin its log.
abbrev pub Resumes : Read Problem → ℕ → List ℕ → List ℕ → LogAnswer → Type 0
Resumes (value p end) written before after (Ok w) =
    Explained p (take w.size after) w.steps w.total × Begun written before (take w.size after)
Resumes (value p end) written before after (Err refusal) =
    (f : ℕ) → f < 2 ^ p.variables → models p f ≡ true → max_log ≤ length before → Begun written before (log_bytes (log_of (run_for p))) → ⊥
Resumes (refused number place) written before after r = r ≡ refuses number place

-- The contract of `resume_log`.
pub record ResumeCall (s : List ℕ) (moment : Moment) (written : ℕ) (before after : List ℕ) (r : LogAnswer) : Type 0 where
  pub said : LoggedAs (resumed_outcome written before (posed moment s)) before after r
  pub demand_3 : Resumes (posed moment s) written before after r
  pub nine : NineExactly refuses (max_log ≤ length before) (posed moment s) r
