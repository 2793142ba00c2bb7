-- Fewer reasons (E6): the law of the step, for the problems that are posed. Assumes nothing.
use mathlib.Core.Path.{◌≡◌, refl}
use mathlib.Core.List.{List}
use Prim.Native.Nat.{ℕ}
use Rattle.dates.specs.declared.Moment.{Moment}
use Rattle.literals.specs.declared.LiteralSet.{LiteralSet}
use Rattle.records.specs.Format.{Read, value, refused}
use Rattle.problem.specs.Problem.{Problem}
use Rattle.step.proofs.Theorems.{changes_exactly}
use Rattle.log_writer.specs.Laws.OneStep.{choices_below, forced}
use Rattle.log_writer.specs.Laws.Explains.{consistent}
use Rattle.engine.specs.Calls.{posed}
use Rattle.engine.specs.FewerReasons.{StepChanges}
use Rattle.engine.proofs.PosedLaws.{posed_proper}

pub step_changes : (moment : Moment) (s : List ℕ) (known : LiteralSet) → StepChanges (posed moment s) known
step_changes moment s known = go (posed moment s) refl
  where
    go : (m : Read Problem) → posed moment s ≡ m → StepChanges m known
    go (refused number place) e = tt
    go (value p end) e = λ some lies.
        let w = posed_proper moment s e in
        changes_exactly _ _ _ _ _ (forced w) lies (choices_below w) (consistent w some)
