-- Literals, each after one space. The invariant: the literals before the loop's place are put. Assumes nothing.
use Rattle.printing.proofs.LiteralLaws.{LiteralsPut}
use Rattle.printing.proofs.text.put_literals.Given as goal

abbrev pub invariant-loop-byte : goal.invariant-loop-byte
invariant-loop-byte l = LiteralsPut l.initial.out l.at l.bytes l.out l.next l.byte-index
