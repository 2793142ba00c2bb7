-- `log_writer::write` meets its contract. Assumes nothing.
use Rattle.sets.specs.Sets.{count}
use Rattle.problem.specs.Masked.{yes_in, no_in}
use Rattle.step.specs.Meaning.{goals}
use Rattle.step.specs.Promises.{question_in}
use Rattle.log_writer.specs.Promises.{LogAsked}
use Rattle.log_writer.proofs.RunLaws.{Logging}
use Rattle.log_writer.proofs.write.Given as goal

abbrev pub invariant-loop-step : goal.invariant-loop-step
invariant-loop-step l =
    (lg : LogAsked l.problem.variables (yes_in l.problem) (no_in l.problem) l.problem.choices l.problem.costs l.consequence l.problem.facts)
    × Logging lg l.initial.buffer l.buffer l.at l.known l.steps l.total

abbrev pub decreases-loop-step : goal.decreases-loop-step
decreases-loop-step l = count (goals (question_in l.problem l.consequence l.known))
