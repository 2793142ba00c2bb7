-- Sums, and what sets of items weigh. An item is a number, a set of items a mask of any number of bits, and w v is the weight of item v.
use Rattle.std.specs.Prelude.{ℕ, zero, suc, ◌+◌, ◌*◌}
use Rattle.sets.specs.Sets.{bit}

-- The sum of f over the numbers below n.
unfoldable pub sum_below : ℕ → (ℕ → ℕ) → ℕ
sum_below zero f = 0
sum_below (suc v) f = sum_below v f + f v

-- The weight of a set of items: the sum of the weights of its members below n.
unfoldable pub total : (ℕ → ℕ) → ℕ → ℕ → ℕ
total w n s = sum_below n (λ v. bit s v * w v)
