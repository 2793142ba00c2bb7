-- What the inner functions of the calls ask and say.
use Rattle.std.specs.Prelude.{◌≡◌, true, false, cond, List, ◌++◌, ℕ, ◌^◌, ◌≤◌, ◌<◌, length, drop, Result, Ok, Err}
use Rattle.sets.specs.Sets.{Within}
use Rattle.literals.specs.declared.LiteralSet.{LiteralSet}
use Rattle.records.specs.Limits.{max_variables, max_choices, max_cost}
use Rattle.sat.specs.Meaning.{Model, NoModel}
use Rattle.first_model.specs.Meaning.{First}
use Rattle.problem.specs.Problem.{cost_of}
use Rattle.dates.specs.declared.Moment.{Moment}
use Rattle.records.specs.Format.{Read, OrderBook}
use Rattle.records.specs.Promises.{read_answer}
use Rattle.records.specs.Refusals.{refusal_of, refuses}
use Rattle.records.specs.declared.refusal.Refusal.{Refusal}
use Rattle.book.specs.Answer.{masked_book}
use Rattle.problem.specs.Masked.{masked_from, yes_in, no_in, Searchable}
use Rattle.problem.specs.declared.MaskedProblem.{MaskedProblem}
use Rattle.consequence.specs.Meaning.{Theory, contradicts, yes_forced, no_forced, ModelOf}
use Rattle.consequence.specs.Algorithm2.{Narrowed}
use Rattle.consequence.specs.Promises.{mask_theory}
use Rattle.step.specs.Meaning.{Question, asking, Answer, step_of}
use Rattle.log_form.specs.Restarts.{is_begun}
use Rattle.log_writer.specs.Meaning.{run_of, log_of}
use Rattle.log_writer.specs.declared.Written.{Written}
use Rattle.engine.specs.Calls.{ModelAnswer, ConsequenceAnswer, StepAnswer, LogAnswer, between, step_says, LogOutcome, logged, refused_with}

-- ---- the arguments

-- The theory that the arguments are, and what the given facts force.
abbrev pub theory_in : MaskedProblem → Theory
theory_in p = mask_theory p.variables (yes_in p) (no_in p) p.choices

abbrev pub forced_in : MaskedProblem → LiteralSet
forced_in p = record { yes = yes_forced (theory_in p) p.facts.yes p.facts.no; no = no_forced (theory_in p) p.facts.yes p.facts.no }

-- What the code makes of a book that was read at a moment: the problem as it is kept, or the refusal.
unfoldable pub problem_answer : Moment → Read OrderBook → Result MaskedProblem Refusal
problem_answer moment m = read_answer (λ b end. masked_from moment (masked_book b)) m

-- ---- the first model, and the consequence

abbrev pub ModelSaid : MaskedProblem → ModelAnswer → Type 0
ModelSaid p (Ok m) = First (Model p.variables (yes_in p) (no_in p) p.facts.yes p.facts.no) m
ModelSaid p (Err refusal) = (refusal ≡ refusal_of 9 0) × NoModel p.variables (yes_in p) (no_in p) p.facts.yes p.facts.no

pub record FoundModel (p : MaskedProblem) (r : ModelAnswer) : Type 0 where
  pub said : ModelSaid p r

-- What the given facts force, and that it was worked out by Algorithm 2, of so many models.
pub record ForcedFound (p : MaskedProblem) (r : LiteralSet) : Type 0 where
  pub some_model : contradicts (theory_in p) p.facts.yes p.facts.no ≡ false
  pub forced : r ≡ forced_in p
  pub number : ℕ
  pub narrowed : Narrowed p.variables p.choices (ModelOf (theory_in p) p.facts.yes p.facts.no) number r

abbrev pub ForcedSaid : MaskedProblem → ConsequenceAnswer → Type 0
ForcedSaid p (Ok r) = ForcedFound p r
ForcedSaid p (Err refusal) = (refusal ≡ refusal_of 9 0) × (contradicts (theory_in p) p.facts.yes p.facts.no ≡ true)

pub record FoundForced (p : MaskedProblem) (r : ConsequenceAnswer) : Type 0 where
  pub said : ForcedSaid p r

-- ---- the next step

-- The step that is asked for.
abbrev pub step_question : MaskedProblem → LiteralSet → LiteralSet → Answer
step_question p forced known = step_of (asking (theory_in p) p.costs forced known)

-- 9 where the given facts contradict the rules, then 10 where the known set is not between them and what they force, then the step.
unfoldable pub step_in : MaskedProblem → LiteralSet → StepAnswer
step_in p known =
    cond (contradicts (theory_in p) p.facts.yes p.facts.no) (refuses 9 0)
    (cond (between p.facts known (forced_in p)) (step_says (step_question p (forced_in p) known)) (refuses 10 0))

-- A problem that a step can be taken of.
pub record Steppable (p : MaskedProblem) : Type 0 where
  pub searchable : Searchable p
  pub few : p.variables ≤ max_variables
  pub rows : p.choices < 2 ^ max_choices
  pub cheap : (v column : ℕ) → cost_of p.costs v column ≤ max_cost

-- ---- the log

-- What the first step of the log asks.
abbrev pub log_question : MaskedProblem → LiteralSet → Question
log_question p forced = asking (theory_in p) p.costs forced p.facts

-- 9 where the given facts contradict the rules, then the log.
unfoldable pub log_in : MaskedProblem → LogOutcome
log_in p = cond (contradicts (theory_in p) p.facts.yes p.facts.no) (refused_with 9 0) (logged (log_of (run_of (log_question p (forced_in p)))))

-- A problem that a log can be made of: the given facts are over choices.
pub record Loggable (p : MaskedProblem) : Type 0 where
  pub steppable : Steppable p
  pub yes_facts : Within p.facts.yes p.choices
  pub no_facts : Within p.facts.no p.choices

-- The log with these bytes and this answer is put into a buffer, or 15.
pub record PutLog (log : List ℕ) (answer : Written) (written : ℕ) (before after : List ℕ) (r : LogAnswer) : Type 0 where
  pub answered : r ≡ cond (is_begun written before log) (Ok answer) (refuses 15 0)
  pub buffer : after ≡ cond (is_begun written before log) (log ++ drop (length log) before) before
