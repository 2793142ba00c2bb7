-- `dimacs::numbers::next_signed` meets its contract. Assumes nothing.
use Rattle.records.proofs.RowLaws.{stopped, passed_ok}
use Rattle.dimacs.specs.Text.{next_signed}
use Rattle.dimacs.specs.Promises.{literal_read}
use Rattle.dimacs.proofs.numbers.next_signed.Goals as goal

pub returns-in_err-place : goal.returns-in_err-place
unfolding next_signed
returns-in_err-place c = stopped _ _ literal_read c.in_err-place.ensures c.from_residual.ensures.1 _

pub returns : goal.returns
unfolding next_signed
returns c = rw (passed_ok _ c.in_ok-place.ensures) c.read_signed.ensures
