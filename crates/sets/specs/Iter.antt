-- What a call for the next element of a set gives.
use Rattle.std.specs.Prelude.{◌≡◌, ℕ, Option, MatchOption}
use Rattle.sets.specs.Sets.{remove, Lowest}
use Rattle.sets.specs.declared.iter.Iter.{Iter}

-- The lowest of the elements still to come, and the others are left; or nothing, where none is left.
abbrev pub TakesLowest : Iter → Option ℕ → Iter → Type 0
TakesLowest it r next = MatchOption r ((it.left ≡ 0) × (next.left ≡ 0)) (λ v. Lowest it.left v × (next.left ≡ remove it.left v))
