-- The moment of a call (document 02, E7): what is claimed of the calls, for any bytes and by their contracts alone. proofs/Moments shows it.
use Rattle.std.specs.Prelude.{◌≡◌, List, [], ◌∷◌, map, ℕ, length}
use Rattle.sets.specs.Sets.{full}
use Rattle.dates.specs.declared.Moment.{Moment}
use Rattle.dates.specs.declared.Applies.TheVariants as Applies
use Rattle.records.specs.Format.{Read, value, refused, Rule, OrderBook}
use Rattle.book.specs.Answer.{table}
use Rattle.problem.specs.Problem.{Problem}
use Rattle.engine.specs.Calls.{model_answer, ModelCall, consequence_answer, ConsequenceCall, step_answer, StepCall, log_outcome, LoggedAs, LogCall}
use Rattle.engine.specs.Calls.{resumed_outcome, ResumeCall}
use Rattle.engine.specs.Calls.{ModelAnswer, ConsequenceAnswer, StepAnswer, LogAnswer}

-- Every call at a moment answers as if the bytes posed m.
pub record AnswersAs (m : Read Problem) (s : List ℕ) (moment : Moment) : Type 0 where
  pub model : {r : ModelAnswer} → ModelCall s moment r → r ≡ model_answer m
  pub consequence : {r : ConsequenceAnswer} → ConsequenceCall s moment r → r ≡ consequence_answer m
  pub next_step : {on off : ℕ} {r : StepAnswer} → StepCall s moment on off r → r ≡ step_answer on off m
  pub log : {before after : List ℕ} {r : LogAnswer} → LogCall s moment before after r → LoggedAs (log_outcome (length before) m) before after r

-- The call that carries a log on (E8) answers at a moment as if the bytes posed m.
pub record ResumesAs (m : Read Problem) (s : List ℕ) (moment : Moment) : Type 0 where
  pub resume_log : {written : ℕ} {before after : List ℕ} {r : LogAnswer} → ResumeCall s moment written before after r
      → LoggedAs (resumed_outcome written before m) before after r

-- At a moment that cannot be every call refuses with 14 at 0, whatever the bytes are, and leaves the buffer. `impossible_moment` shows it, and
-- `impossible_resumed` the same of `resume_log` (`ResumesAs (refused 14 0)`).
abbrev pub RefusesMoment : List ℕ → Moment → Type 0
RefusesMoment s moment = AnswersAs (refused 14 0) s moment

-- No rule has a window.
abbrev pub AllAlways : List Rule → Type 0
AllAlways [] = Unit {0}
AllAlways (r ∷ rs) = (r.applies ≡ Applies.Always) × AllAlways rs

-- The problem of all rules of a book, as document 01 has it.
unfoldable pub all_rules : OrderBook → Problem
all_rules b =
    record {
      variables = b.header.variables;
      rules = map (λ (r : Rule). r.literals) b.rules;
      choices = full b.header.choices;
      facts = b.facts;
      costs = table b.costs;
    }

-- A book all of whose rules have no WN gives the same answers as before at every moment: those to the problem of all its rules. `as_before` shows it, and
-- `resumed_as_before` the same of `resume_log`.
abbrev pub AnswersAsBefore : OrderBook → ℕ → List ℕ → Moment → Type 0
AnswersAsBefore b end s moment = AnswersAs (value (all_rules b) end) s moment
