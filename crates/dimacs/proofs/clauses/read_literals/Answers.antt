-- `dimacs::clauses::read_literals` meets its contract. Assumes nothing.
use Rattle.std.proofs.Common.{refl, ap, arith, rules, Ok}
use mir.Syntax.{w8}
use mir.Val.{SFits}
use mir.Facts.{to_z-of_z}
use Rattle.records.specs.Promises.{read_answer}
use Rattle.records.proofs.LiteralLaws.{masks_none, masks_more}
use Rattle.records.proofs.RowLaws.{stopped_whole, so_far_none, so_far_more, so_far_refused, so_far_all}
use Rattle.dimacs.specs.Promises.{clause_read}
use Rattle.dimacs.proofs.ReadLaws.{literal_ok}
use Rattle.dimacs.proofs.ClauseLaws.{next_numbered, zero_literal, above_zero, literals_wrong, literals_closed, literals_more}
use Rattle.dimacs.proofs.clauses.read_literals.Goals as goal

pub loop-read-init : goal.loop-read-init
loop-read-init c = so_far_none refl masks_none

pub returns-in_err-read : goal.returns-in_err-read
returns-in_err-read c = stopped_whole _ _ clause_read c.in_err-read.ensures c.from_residual.ensures.1 _
    (λ n p e. so_far_refused c.loop-read.invariant (literals_wrong _ _ _ e))

pub returns-then-read-eq0 : goal.returns-then-read-eq0
unfolding read_answer
returns-then-read-eq0 c =
    let fits : SFits w8 c.in_ok-read.read.literal = search rules in
    let g = c.loop-read.invariant in
    rw (so_far_all g (literals_closed _ _ _ (literal_ok _ c.in_ok-read.ensures) (zero_literal _ fits c.if-read-eq0.true)))
    (ap (λ t. Ok (record { set = t; next = c.in_ok-read.read.next })) g.kept)

pub with-set-requires : goal.with-set-requires
with-set-requires c =
    let fits : SFits w8 c.in_ok-read.read.literal = search rules in
    let w = next_numbered _ _ _ (literal_ok _ c.in_ok-read.ensures) in
    rw (to_z-of_z {w = w8} fits) (record { l_nonzero = above_zero c.in_ok-read.read.literal c.if-read-eq0.false; l_bound = omega (arith, w.over, c.requires) })

pub loop-read-smaller : goal.loop-read-smaller
loop-read-smaller c =
    let w = (next_numbered _ _ _ (literal_ok _ c.in_ok-read.ensures)).further in
    omega (arith, w.onward, w.within)

pub loop-read-preserved : goal.loop-read-preserved
loop-read-preserved c =
    let fits : SFits w8 c.in_ok-read.read.literal = search rules in
    so_far_more c.in_ok-read.read.literal c.loop-read.invariant
    (literals_more _ _ _ (literal_ok _ c.in_ok-read.ensures) (above_zero c.in_ok-read.read.literal c.if-read-eq0.false))
    (λ done k. masks_more done k (rw (to_z-of_z {w = w8} fits) at c.with-set.ensures))
