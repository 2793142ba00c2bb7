-- `dimacs::read_body` meets its contract. Assumes nothing.
use Rattle.std.proofs.Common.{refl, sym}
use Rattle.records.specs.Promises.{read_answer}
use Rattle.records.proofs.RowLaws.{stopped}
use Rattle.dimacs.specs.Text.{body_from}
use Rattle.dimacs.specs.Promises.{formula_read}
use Rattle.dimacs.proofs.TextLaws.{body_late, body_whole}
use Rattle.dimacs.proofs.read_body.Goals as goal

pub returns-in_err-read : goal.returns-in_err-read
unfolding body_from
returns-in_err-read c = stopped _ _ formula_read c.in_err-read.ensures c.from_residual.ensures.1 _

pub returns-then-end-s : goal.returns-then-end-s
unfolding read_answer
returns-then-end-s c = rw (body_late _ c.args.head c.in_ok-read.ensures c.run_end-end.ensures c.if-end-s.true, c.at.ensures) refl

pub returns : goal.returns
returns c = sym (body_whole _ c.args.head c.in_ok-read.ensures c.run_end-end.ensures c.if-end-s.false)
