-- The theorem about the step and the order before E6, over any number of variables (the others: specs/Theorems). Its proof is in LowerGoalFirst.
use Rattle.std.specs.Prelude.{◌≡◌, false, List, ℕ, ◌^◌, ◌<◌}
use Rattle.literals.specs.declared.LiteralSet.{LiteralSet}
use Rattle.consequence.specs.Meaning.{Theory, contradicts}
use Rattle.step.specs.Meaning.{asking}
use Rattle.step.specs.IsStep.{ForcedBy, Between}
use Rattle.step.specs.LowerGoalFirst.{ChangesExactly}
use Rattle.step.specs.Theorems.{between_sound}
use Rattle.step.proofs.LowerGoalFirst as lower-goal

module _ (t : Theory) (table : List (List ℕ)) (c facts known : LiteralSet) (forced : ForcedBy t c facts) (between : Between facts known c) where
  module _ (below : t.choices < 2 ^ t.variables) (some : contradicts t facts.yes facts.no ≡ false) where
    -- From such a known set the step changes exactly where some candidate of least cost has fewer facts than the step of the order before E6, and both
    -- cost the same.
    pub changes_exactly : ChangesExactly (asking t table c known)
    changes_exactly = lower-goal.changes_exactly (asking t table c known) (between_sound t table c facts known forced between below some)
