-- `literals::LiteralSet::with` meets its contract: the sign of the literal says in which mask its variable goes. Assumes nothing.
use Rattle.std.proofs.Common.{◌≡◌, true, false, arith}
use mir.Facts.{to_z-of_z}
use Rattle.literals.specs.Literal.{variable}
use Rattle.literals.proofs.WithLaws.{with_literal}
use Rattle.literals.proofs.LiteralSet.with.Goals as goal

pub returns-then-l-gt0 : goal.returns-then-l-gt0
returns-then-l-gt0 c =
    let told : c.variable.result ≡ variable c.args.l = rw (to_z-of_z c.ranges.l) at c.variable.ensures in
    with_literal _ _ _ true _ c.ranges.l c.requires.l_nonzero c.if-l-gt0.true told c.insert.ensures

pub returns-else-l-gt0 : goal.returns-else-l-gt0
returns-else-l-gt0 c =
    let told : c.variable.result ≡ variable c.args.l = rw (to_z-of_z c.ranges.l) at c.variable.ensures in
    with_literal _ _ _ false _ c.ranges.l c.requires.l_nonzero c.if-l-gt0.false told c.insert-else-l-gt0.ensures
