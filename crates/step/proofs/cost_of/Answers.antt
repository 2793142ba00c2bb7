-- `step::cost_of` meets its contract. Assumes nothing.
use Rattle.std.proofs.Common.{◌≡◌, true, false}
use mir.Facts.{to_z-of_z}
use Rattle.literals.specs.Literal.{variable}
use Rattle.step.proofs.Signed.{read_cost}
use Rattle.step.proofs.cost_of.Goals as goal

pub returns-then-l-gt0 : goal.returns-then-l-gt0
returns-then-l-gt0 c =
    let row : c.variable.result ≡ variable c.args.l = rw (to_z-of_z c.ranges.l) at c.variable.ensures in
    read_cost true _ _ _ row c.requires.l_nonzero (rw (to_z-of_z c.ranges.l) at c.if-l-gt0.true)

pub returns-else-l-gt0 : goal.returns-else-l-gt0
returns-else-l-gt0 c =
    let row : c.variable.result ≡ variable c.args.l = rw (to_z-of_z c.ranges.l) at c.variable.ensures in
    read_cost false _ _ _ row c.requires.l_nonzero (rw (to_z-of_z c.ranges.l) at c.if-l-gt0.false)
