-- `step::price` meets its contract. Assumes nothing.
use Rattle.std.proofs.Common.{◌≡◌, arith}
use mir.Syntax.{w8}
use mir.Val.{to_z, of_z}
use Rattle.literals.specs.Literal.{literal_of}
use Rattle.step.proofs.Signed.{same_literal, literal_row}
use Rattle.step.proofs.price.Goals as goal

pub cost_of-requires : goal.cost_of-requires
cost_of-requires c =
    let handed : to_z w8 (of_z w8 c.literal.result) ≡ literal_of c.args.v c.args.says = same_literal c.args.v c.args.says _ c.literal.ensures (omega arith) in
    let w = literal_row c.args.v c.args.says c.requires in
    rw handed (record { l_nonzero = w.0; l_bound = w.1 })
