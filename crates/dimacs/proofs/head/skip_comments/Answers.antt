-- `dimacs::head::skip_comments` meets its contract. Assumes nothing.
use Rattle.std.proofs.Common.{sym, ap, ◌∙◌, arith}
use Rattle.records.specs.Promises.{place_after, read_answer}
use Rattle.records.proofs.RowLaws.{stopped_whole, passed_ok}
use Rattle.dimacs.proofs.HeadLaws.{line_next, skipped_all, skipped_wrong, skipped_more}
use Rattle.dimacs.proofs.head.skip_comments.Goals as goal

pub returns-in_err-at : goal.returns-in_err-at
returns-in_err-at c = stopped_whole _ _ place_after c.in_err-at.ensures c.from_residual.ensures.1 _
    (λ n p e. skipped_wrong _ c.loop-at.invariant (sym c.stands.ensures ∙ c.loop-at-test.true) e)

pub loop-at-smaller : goal.loop-at-smaller
loop-at-smaller c =
    let w = line_next _ _ (passed_ok _ c.in_ok-at.ensures) in
    omega (arith, w.0, w.1)

pub loop-at-preserved : goal.loop-at-preserved
loop-at-preserved c = skipped_more _ c.loop-at.invariant (sym c.stands.ensures ∙ c.loop-at-test.true) (passed_ok _ c.in_ok-at.ensures)

pub returns : goal.returns
unfolding read_answer
returns c = sym (ap (read_answer place_after) (skipped_all _ c.loop-at.invariant (sym c.stands.ensures ∙ c.loop-at-test.false)))
