-- Fewer reasons (document 02, E6): what it changes at the next step of a book, from any known set that `next_step` does not refuse. proofs/FewerReasons
-- shows it.
use Rattle.std.specs.Prelude.{◌≡◌, true}
use Rattle.literals.specs.declared.LiteralSet.{LiteralSet}
use Rattle.records.specs.Format.{Read, value, refused}
use Rattle.problem.specs.Problem.{Problem, given}
use Rattle.consequence.specs.Meaning.{has_model, consequence_of}
use Rattle.step.specs.Meaning.{question_of}
use Rattle.step.specs.IsStep.{Between}
use Rattle.step.specs.LowerGoalFirst.{ChangesExactly}

-- Of a problem with a model and a known set between the given facts and the consequence: the step changes exactly where some candidate of least cost has
-- fewer facts than the step of the order before E6, and both cost the same. `step_changes` shows it for any bytes.
abbrev pub StepChanges : Read Problem → LiteralSet → Type 0
StepChanges (refused number place) known = Unit {0}
StepChanges (value p end) known = has_model p ≡ true → Between (given p) known (consequence_of p) → ChangesExactly (question_of p known)
