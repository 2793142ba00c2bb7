-- `dimacs::numbers::read_up_to` meets its contract. Assumes nothing.
use Rattle.std.proofs.Common.{refl}
use Rattle.records.specs.Promises.{read_answer}
use Rattle.records.proofs.RefusalLaws.{kind_back}
use Rattle.records.proofs.RowLaws.{stopped}
use Rattle.dimacs.specs.Text.{number_up_to}
use Rattle.dimacs.specs.Promises.{number_read}
use Rattle.dimacs.proofs.NumberLaws.{up_to_large, up_to_says}
use Rattle.dimacs.proofs.numbers.read_up_to.Goals as goal

pub returns-in_err-n : goal.returns-in_err-n
unfolding number_up_to
returns-in_err-n c = stopped _ _ number_read c.in_err-n.ensures c.from_residual.ensures.1 _

pub returns-then-most-n : goal.returns-then-most-n
unfolding read_answer
returns-then-most-n c = rw (up_to_large _ _ _ _ _ c.requires c.in_ok-n.ensures c.if-most-n.true, c.at.ensures, kind_back) refl

pub returns : goal.returns
unfolding read_answer
returns c = rw (up_to_says _ _ _ _ _ c.requires c.in_ok-n.ensures c.if-most-n.false) refl
