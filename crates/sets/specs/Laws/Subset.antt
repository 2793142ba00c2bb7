-- Membership, inclusion and disjointness as tests and as facts about digits. Assumes nothing.
use Rattle.std.specs.Prelude.{◌≡◌, true, false, ℕ, ◌+◌, ◌≤◌, min, eqb}
use Rattle.std.proofs.Common.{sym, ◌∙◌, arith, eqb-true, eq-eqb, ne_eqb}
use Rattle.std.proofs.Math.Logic.{by_cases}
use Rattle.std.proofs.Math.Decide.{ℕ_discrete}
use Rattle.std.proofs.lemmas.Bool.{eqb-false}
use Rattle.std.proofs.lemmas.Nat.{and_le_l, and_le_r}
use Rattle.std.specs.Int.Bits.{or_add_and}
use Rattle.sets.specs.Sets.{bit, has, single, union, inter, diff, insert, subset, disjoint, Within, Apart}
use Rattle.sets.specs.Laws.Bits.{bit_le, bit_zero, bit_none, bit_union, bit_inter, bit_diff, single_digits, ext}
use Rattle.sets.specs.Laws.Least.{some_member}

-- ---- membership

pub has_true : (m v : ℕ) → has m v ≡ true → bit m v ≡ 1
unfolding has
has_true m v e = eqb-true (bit m v) 1 e

pub has_false : (m v : ℕ) → has m v ≡ false → bit m v ≡ 0
unfolding has
has_false m v e = let n : bit m v ≡ 1 → ⊥ = eqb-false (bit m v) 1 e in omega (arith, bit_le m v)

pub one_has : (m v : ℕ) → bit m v ≡ 1 → has m v ≡ true
unfolding has
one_has m v e = eq-eqb (bit m v) 1 e

pub zero_has : (m v : ℕ) → bit m v ≡ 0 → has m v ≡ false
unfolding has
zero_has m v e = ne_eqb (bit m v) 1 (λ f. omega arith)

-- ---- the test for the empty set

empty_bit : (m v : ℕ) → eqb m 0 ≡ true → bit m v ≡ 0
empty_bit m v e = bit_none m v (eqb-true m 0 e)

bits_empty : (m : ℕ) → ((v : ℕ) → bit m v ≡ 0) → m ≡ 0
bits_empty m e = ext m 0 (λ v. e v ∙ sym (bit_zero v))

member_of : (m : ℕ) → eqb m 0 ≡ false → (v : ℕ) × (bit m v ≡ 1)
member_of m e = let n : m ≡ 0 → ⊥ = eqb-false m 0 e in some_member m (omega arith)

-- ---- inclusion and disjointness as tests

pub subset_within : (a b : ℕ) → subset a b ≡ true → Within a b
unfolding subset
subset_within a b e = record { keeps = λ v. omega (arith, bit_diff a b v, empty_bit (diff a b) v e) }

pub disjoint_apart : (a b : ℕ) → disjoint a b ≡ true → Apart a b
unfolding disjoint
disjoint_apart a b e =
    record { avoids = λ v. omega (arith, bit_inter a b v, empty_bit (inter a b) v e, bit_le a v, bit_le b v) }

pub diff_within : (a b : ℕ) → Within a b → diff a b ≡ 0
diff_within a b w = bits_empty (diff a b) (λ v. omega (arith, bit_diff a b v, w.keeps v))

pub inter_apart : (a b : ℕ) → Apart a b → inter a b ≡ 0
inter_apart a b w = bits_empty (inter a b) (λ v. omega (arith, bit_inter a b v, w.avoids v))

pub within_subset : (a b : ℕ) → Within a b → subset a b ≡ true
unfolding subset
within_subset a b w = eq-eqb (diff a b) 0 (diff_within a b w)

pub apart_disjoint : (a b : ℕ) → Apart a b → disjoint a b ≡ true
unfolding disjoint
apart_disjoint a b w = eq-eqb (inter a b) 0 (inter_apart a b w)

pub subset_false : (a b : ℕ) → subset a b ≡ false → (v : ℕ) × (bit a v ≡ 1) × (bit b v ≡ 0)
unfolding subset
subset_false a b e =
    let (v, i) = member_of (diff a b) e in (v, omega (arith, bit_diff a b v, bit_le a v), omega (arith, bit_diff a b v, bit_le a v))

pub disjoint_false : (a b : ℕ) → disjoint a b ≡ false → (v : ℕ) × (bit a v ≡ 1) × (bit b v ≡ 1)
unfolding disjoint
disjoint_false a b e =
    let (v, i) = member_of (inter a b) e in
    let both : min (bit a v) (bit b v) ≡ 1 = sym (bit_inter a b v) ∙ i in (v, omega (arith, both, bit_le a v), omega (arith, both, bit_le b v))

-- ---- inclusion and disjointness

pub within_refl : (a : ℕ) → Within a a
within_refl a = record { keeps = λ v. omega arith }

pub within_trans : (a b c : ℕ) → Within a b → Within b c → Within a c
within_trans a b c p q = record { keeps = λ v. omega (arith, p.keeps v, q.keeps v) }

-- by their elements
pub within_by : (m k : ℕ) → ((v : ℕ) → bit m v ≡ 1 → bit k v ≡ 1) → Within m k
within_by m k h =
    record { keeps = λ v. by_cases (ℕ_discrete (bit m v) 1) (λ e. omega (arith, e, h v e)) (λ e. omega (arith, bit_le m v)) }

pub within_bit : {m k : ℕ} → Within m k → (v : ℕ) → bit m v ≡ 1 → bit k v ≡ 1
within_bit {m} {k} w v e = omega (arith, w.keeps v, bit_le k v)

pub apart_by : (m k : ℕ) → ((v : ℕ) → bit m v ≡ 1 → bit k v ≡ 0) → Apart m k
apart_by m k h =
    record { avoids = λ v. by_cases (ℕ_discrete (bit m v) 1) (λ e. omega (arith, e, h v e)) (λ e. omega (arith, bit_le m v, bit_le k v)) }

pub apart_within : {on off a b : ℕ} → Within a on → Within b off → Apart on off → Apart a b
apart_within x y p = record { avoids = λ v. omega (arith, x.keeps v, y.keeps v, p.avoids v) }

pub inter_in_left : (a b : ℕ) → Within (inter a b) a
inter_in_left a b = record { keeps = λ v. omega (arith, bit_inter a b v) }

pub inter_in : (a b : ℕ) → Within (inter a b) b
inter_in a b = record { keeps = λ v. omega (arith, bit_inter a b v) }

pub diff_in : (a b : ℕ) → Within (diff a b) a
diff_in a b = record { keeps = λ v. omega (arith, bit_diff a b v) }

pub in_union : (a b : ℕ) → Within a (union a b)
in_union a b = record { keeps = λ v. omega (arith, bit_union a b v) }

pub in_union_right : (a b : ℕ) → Within b (union a b)
in_union_right a b = record { keeps = λ v. omega (arith, bit_union a b v) }

-- where the union is empty both are
pub union_none : (a b : ℕ) → union a b ≡ 0 → (a ≡ 0) × (b ≡ 0)
union_none a b e = (omega (arith, or_add_and a b, and_le_r a b), omega (arith, or_add_and a b, and_le_l a b))

pub inter_within : (a b : ℕ) → Within a b → inter a b ≡ a
inter_within a b w = ext (inter a b) a (λ v. omega (arith, bit_inter a b v, w.keeps v))

-- a smaller set is a smaller number
pub within_le : (a b : ℕ) → Within a b → a ≤ b
within_le a b w = omega (arith, inter_within a b w, and_le_r a b)

pub apart_symm : (a b : ℕ) → Apart a b → Apart b a
apart_symm a b p = record { avoids = λ v. omega (arith, p.avoids v) }

-- ---- one element, and one more

-- the set of v alone is within f where f has v, and apart from f where f has it not
pub single_within : (v f : ℕ) → bit f v ≡ 1 → Within (single v) f
single_within v f e = record { keeps = single_digits (λ u d. d ≤ bit f u) v (omega arith) (λ u. omega arith) }

pub single_apart : (v f : ℕ) → bit f v ≡ 0 → Apart (single v) f
single_apart v f e = record { avoids = single_digits (λ u d. d + bit f u ≤ 1) v (omega arith) (λ u. omega (arith, bit_le f u)) }

-- and so the set with one more element
pub within_insert : (m v f : ℕ) → Within m f → bit f v ≡ 1 → Within (insert m v) f
unfolding insert
within_insert m v f w e = record { keeps = λ u. omega (arith, bit_union m (single v) u, w.keeps u, (single_within v f e).keeps u) }

pub apart_insert : (m v f : ℕ) → Apart m f → bit f v ≡ 0 → Apart (insert m v) f
unfolding insert
apart_insert m v f a e = record { avoids = λ u. omega (arith, bit_union m (single v) u, a.avoids u, (single_apart v f e).avoids u) }

pub in_insert : (m v : ℕ) → Within m (insert m v)
unfolding insert
in_insert m v = in_union m (single v)

pub insert_within : (m v f : ℕ) → Within (insert m v) f → Within m f
insert_within m v f w = within_trans m (insert m v) f (in_insert m v) w

pub insert_apart : (m v f : ℕ) → Apart (insert m v) f → Apart m f
insert_apart m v f a = record { avoids = λ u. omega (arith, (in_insert m v).keeps u, a.avoids u) }
