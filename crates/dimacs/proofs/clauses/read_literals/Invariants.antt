-- `dimacs::clauses::read_literals` meets its contract. Assumes nothing.
use Rattle.std.proofs.Common.{◌≡◌, ◌-◌, length}
use Rattle.records.specs.Promises.{masks}
use Rattle.records.proofs.RowLaws.{SoFar}
use Rattle.dimacs.proofs.ClauseLaws.{literals_left}
use Rattle.dimacs.proofs.clauses.read_literals.Given as goal

abbrev pub invariant-loop-read : goal.invariant-loop-read
invariant-loop-read l = SoFar (literals_left l.s l.v l.from) (λ done. l.set ≡ masks done) (literals_left l.s l.v l.at)

abbrev pub decreases-loop-read : goal.decreases-loop-read
decreases-loop-read l = length l.s - l.at
