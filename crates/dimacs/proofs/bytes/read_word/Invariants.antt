-- `dimacs::bytes::read_word` meets its contract. Assumes nothing.
use Rattle.dimacs.proofs.ByteLaws.{Spelled}
use Rattle.dimacs.proofs.bytes.read_word.Given as goal

abbrev pub invariant-loop-b : goal.invariant-loop-b
invariant-loop-b l = Spelled l.s l.w l.from l.place l.b-index
