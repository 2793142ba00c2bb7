-- The least element of a set, and that a set which is not empty has one. Assumes nothing.
use Rattle.std.specs.Prelude.{◌≡◌, refl, ℕ, zero, suc, ◌/◌, ◌%◌, ◌^◌, ◌<◌}
use Rattle.std.proofs.Common.{pow-suc, arith}
use Rattle.std.specs.Int.Count.{count_trailing_zeros, under}
use Rattle.sets.specs.Sets.{bit, LeastMember}
use Rattle.sets.specs.Laws.Bits.{lt_pow, member_lt}

-- the least element by the lowest digit: it is 0, or one more than that of the rest
pub least_odd : (m : ℕ) → m % 2 ≡ 1 → LeastMember m 0
unfolding bit
least_odd m e = record { member = e; first = λ u h. omega arith }

pub least_even : (m r : ℕ) → m % 2 ≡ 0 → LeastMember (m / 2) r → LeastMember m (suc r)
unfolding bit
least_even m r e l = record { member = l.member; first = below }
  where
    below : (u : ℕ) → u < suc r → bit m u ≡ 0
    below zero h = e
    below (suc u) h = l.first u (omega arith)

pub least_half : (m r : ℕ) → LeastMember m (suc r) → LeastMember (m / 2) r
unfolding bit
least_half m r l = record { member = l.member; first = λ u h. l.first (suc u) (omega arith) }

-- `trailing_zeros` of a mask of n bits
pub trailing_least : (n m : ℕ) → 0 < m → m < 2 ^ n → LeastMember m (count_trailing_zeros n m)
unfolding count_trailing_zeros
trailing_least zero m p h = absurd (omega arith)
trailing_least (suc n) m p h = go (m % 2) refl (λ q. trailing_least n (m / 2) q (omega (arith, pow-suc 2 n)))
  where
    go : (d : ℕ) → m % 2 ≡ d → (0 < m / 2 → LeastMember (m / 2) (count_trailing_zeros n (m / 2))) → LeastMember m (under d (count_trailing_zeros n (m / 2)))
    go zero e rest = least_even m (count_trailing_zeros n (m / 2)) e (rest (omega arith))
    go (suc d) e rest = least_odd m (omega arith)

pub trailing_lt : (n m : ℕ) → 0 < m → m < 2 ^ n → count_trailing_zeros n m < n
trailing_lt n m p h = member_lt n m (count_trailing_zeros n m) (trailing_least n m p h).member h

pub some_member : (m : ℕ) → 0 < m → (v : ℕ) × (bit m v ≡ 1)
some_member m p = (count_trailing_zeros m m, (trailing_least m m p (lt_pow m)).member)
