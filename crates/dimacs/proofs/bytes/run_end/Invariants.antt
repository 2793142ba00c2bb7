-- `dimacs::bytes::run_end` meets its contract: the bytes gone by are the first of the run. Assumes nothing.
use Rattle.std.proofs.Common.{◌≡◌, ◌+◌, drop}
use Rattle.dimacs.specs.Text.{run}
use Rattle.dimacs.specs.Promises.{belongs}
use Rattle.dimacs.proofs.bytes.run_end.Given as goal

abbrev pub invariant-loop-b : goal.invariant-loop-b
invariant-loop-b l =
    (l.end ≡ l.from + l.b-index) × (run (belongs l.class) l.left ≡ l.b-index + run (belongs l.class) (drop l.b-index l.left))
