-- `dates::days::days_of_months` meets its contract: after k turns the sum is that of the first k months. Assumes nothing.
use Rattle.std.proofs.Common.{◌≡◌}
use Rattle.dates.specs.Calendar.{days_of_months}
use Rattle.dates.proofs.days.days_of_months.Given as goal

abbrev pub invariant-loop-k : goal.invariant-loop-k
invariant-loop-k l = l.days ≡ days_of_months l.year l.k
