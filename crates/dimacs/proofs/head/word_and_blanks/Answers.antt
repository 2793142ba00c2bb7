-- `dimacs::head::word_and_blanks` meets its contract. Assumes nothing.
use Rattle.records.specs.Promises.{place_after}
use Rattle.records.proofs.RowLaws.{stopped, passed_ok}
use Rattle.dimacs.specs.Text.{word_and_blanks}
use Rattle.dimacs.proofs.head.word_and_blanks.Goals as goal

pub returns-in_err-place : goal.returns-in_err-place
unfolding word_and_blanks
returns-in_err-place c = stopped _ _ place_after c.in_err-place.ensures c.from_residual.ensures.1 _

pub returns : goal.returns
unfolding word_and_blanks
returns c = rw (passed_ok _ c.in_ok-place.ensures) c.one_or_more.ensures
