-- `dimacs::clauses::read_clauses` meets its contract. Assumes nothing.
use Rattle.std.proofs.Common.{ap, arith, Ok}
use Rattle.records.specs.Promises.{read_answer}
use Rattle.records.proofs.RowLaws.{stopped_whole}
use Rattle.dimacs.specs.Promises.{clauses_read}
use Rattle.dimacs.proofs.KeptLaws.{clauses_none, clauses_all, clauses_refused, clauses_drop, clauses_keep, kept_upto}
use Rattle.dimacs.proofs.clauses.read_clauses.Goals as goal
use Rattle.dimacs.proofs.clauses.read_clauses.Goals.{then-not-is_dropped, else-not-is_dropped}

pub loop-init : goal.loop-init
loop-init c = rw c.new-kept.ensures (clauses_none _ _ _ _)

pub returns-in_err-clause : goal.returns-in_err-clause
returns-in_err-clause c = stopped_whole _ _ clauses_read c.in_err-clause.ensures c.from_residual.ensures.1 _
    (λ n p e. clauses_refused _ _ _ _ _ c.loop.invariant c.loop-test.true e)

pub push-requires : goal.push-requires
push-requires c = omega (arith, kept_upto c.loop.invariant.kept, c.loop-test.true, c.requires.count_le_max_rules)

pub loop-preserved : goal.loop-preserved
loop-preserved c =
    let g = c.loop.invariant in
    elim c.if-not-is_dropped.branch [
      | then-not-is_dropped w ↦ rw (w.kept-is, w.push.ensures.items)
          (clauses_keep _ _ _ _ _ g c.loop-test.true c.in_ok-clause.ensures c.is_dropped.ensures w.if-not-is_dropped.true)
      | else-not-is_dropped w ↦ rw w.kept-is
          (clauses_drop _ _ _ _ _ g c.loop-test.true c.in_ok-clause.ensures c.is_dropped.ensures w.if-not-is_dropped.false)
    ]

pub returns : goal.returns
unfolding read_answer
returns c =
    let g = c.loop.invariant in
    rw (clauses_all _ _ _ _ _ g c.loop-test.false) (ap (λ sets. Ok (record { kept = record { items = sets }; next = c.loop.next })) g.kept.stored)
