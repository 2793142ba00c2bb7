-- `book::facts::read_facts` meets its contract. Assumes nothing.
use Rattle.std.proofs.Common.{◌-◌, length}
use Rattle.book.proofs.FactLaws.{FactsWalked}
use Rattle.book.proofs.facts.read_facts.Given as goal

abbrev pub invariant-loop-place : goal.invariant-loop-place
invariant-loop-place l = FactsWalked l.s l.u l.from l.set l.last l.place

abbrev pub decreases-loop-place : goal.decreases-loop-place
decreases-loop-place l = length l.s - l.place
