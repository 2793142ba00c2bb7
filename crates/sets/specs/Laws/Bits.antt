-- The digits of each set operation, and bounds: an operation on masks of n bits gives a mask of n bits. Assumes nothing.
use Rattle.std.specs.Prelude.{◌≡◌, refl, ◌≢◌, ℕ, zero, suc, ◌+◌, ◌-◌, ◌/◌, ◌%◌, ◌^◌, ◌≤◌, ◌<◌, min, max}
use Rattle.std.proofs.Common.{ap, ◌∙◌, suc-le-suc, pow-suc, arith, pow_pos, pow_mono}
use Rattle.std.proofs.Math.Logic.{by_cases}
use Rattle.std.proofs.Math.Decide.{dec_lt, ℕ_discrete}
use Rattle.std.proofs.Math.Pow.{pow-lt, ones_lt}
use Rattle.std.specs.Int.Bits.{and_step, or_step, and_zero_r}
use Rattle.std.proofs.lemmas.Nat.{and_shr, or_shr, and_le_l, or_lt}
use Rattle.sets.specs.Sets.{bit, single, full, union, inter, diff, compl, insert, remove}

-- ---- a digit

pub bit_le : (m v : ℕ) → bit m v ≤ 1
unfolding bit
bit_le m zero = omega arith
bit_le m (suc v) = bit_le (m / 2) v

pub bit_zero : (v : ℕ) → bit 0 v ≡ 0
unfolding bit
bit_zero zero = refl
bit_zero (suc v) = bit_zero v

-- a set with no element
pub bit_none : (m v : ℕ) → m ≡ 0 → bit m v ≡ 0
bit_none m v e = rw e (bit_zero v)

-- a mask of n bits has no element from n on
pub bit_high : (n m v : ℕ) → m < 2 ^ n → n ≤ v → bit m v ≡ 0
unfolding bit
bit_high zero m v h l = bit_none m v (omega arith)
bit_high (suc n) m zero h l = omega arith
bit_high (suc n) m (suc v) h l = bit_high n (m / 2) v (omega (arith, pow-suc 2 n)) (omega arith)

-- ---- the operations

pub bit_union : (a b v : ℕ) → bit (union a b) v ≡ max (bit a v) (bit b v)
unfolding bit
bit_union a b zero = omega (arith, or_step a b)
bit_union a b (suc v) = ap (λ (x : ℕ). bit x v) (or_shr a b 1) ∙ bit_union (a / 2) (b / 2) v

pub bit_inter : (a b v : ℕ) → bit (inter a b) v ≡ min (bit a v) (bit b v)
unfolding bit
bit_inter a b zero = omega (arith, and_step a b)
bit_inter a b (suc v) = ap (λ (x : ℕ). bit x v) (and_shr a b 1) ∙ bit_inter (a / 2) (b / 2) v

-- the lowest digit of a difference, and the rest
pub diff_half : (a b : ℕ) → diff a b / 2 ≡ diff (a / 2) (b / 2)
unfolding diff
diff_half a b = omega (arith, and_step a b, and_le_l (a / 2) (b / 2))

pub diff_odd : (a b : ℕ) → diff a b % 2 ≡ a % 2 - b % 2
unfolding diff
diff_odd a b = omega (arith, and_step a b, and_le_l (a / 2) (b / 2))

pub bit_diff : (a b v : ℕ) → bit (diff a b) v ≡ bit a v - bit b v
unfolding bit
bit_diff a b zero = diff_odd a b
bit_diff a b (suc v) = ap (λ (x : ℕ). bit x v) (diff_half a b) ∙ bit_diff (a / 2) (b / 2) v

pub diff_zero : (a : ℕ) → diff a 0 ≡ a
unfolding diff
diff_zero a = omega (arith, and_zero_r a)

-- the lowest digit of a single element, and the rest
pub single_half : (v : ℕ) → single (suc v) / 2 ≡ single v
single_half v = omega (arith, pow-suc 2 v)

pub single_even : (v : ℕ) → single (suc v) % 2 ≡ 0
single_even v = omega (arith, pow-suc 2 v)

pub bit_single_same : (v : ℕ) → bit (single v) v ≡ 1
unfolding bit
bit_single_same zero = refl
bit_single_same (suc v) = ap (λ (x : ℕ). bit x v) (single_half v) ∙ bit_single_same v

pub bit_single_other : (v u : ℕ) → u ≢ v → bit (single v) u ≡ 0
unfolding bit
bit_single_other zero zero n = absurd (n refl)
bit_single_other zero (suc u) n = bit_zero u
bit_single_other (suc v) zero n = single_even v
bit_single_other (suc v) (suc u) n = ap (λ (x : ℕ). bit x u) (single_half v) ∙ bit_single_other v u (λ e. n (ap suc e))

-- what holds of a 1 at v and of a 0 elsewhere holds of each digit of the set of v alone
pub single_digits : (P : ℕ → ℕ → Type 0) (v : ℕ) → P v 1 → ((u : ℕ) → P u 0) → (u : ℕ) → P u (bit (single v) u)
single_digits P v one none u =
    by_cases (ℕ_discrete u v) (λ p. rw p (rw (bit_single_same v) one)) (λ p. rw (bit_single_other v u p) (none u))

pub bit_full : (n v : ℕ) → v < n → bit (full n) v ≡ 1
unfolding bit
bit_full zero v h = omega arith
bit_full (suc n) zero h = omega (arith, pow-suc 2 n, pow_pos n)
bit_full (suc n) (suc v) h =
    let half : full (suc n) / 2 ≡ full n = omega (arith, pow-suc 2 n, pow_pos n) in
    ap (λ (x : ℕ). bit x v) half ∙ bit_full n v (omega arith)

pub bit_full_high : (n v : ℕ) → n ≤ v → bit (full n) v ≡ 0
bit_full_high n v h = bit_high n (full n) v (ones_lt n) h

pub bit_compl : (n m v : ℕ) → v < n → bit (compl n m) v ≡ 1 - bit m v
unfolding compl
bit_compl n m v h = omega (arith, bit_diff (full n) m v, bit_full n v h)

pub bit_compl_high : (n m v : ℕ) → n ≤ v → bit (compl n m) v ≡ 0
unfolding compl
bit_compl_high n m v h = omega (arith, bit_diff (full n) m v, bit_full_high n v h)

pub bit_insert_same : (m v : ℕ) → bit (insert m v) v ≡ 1
unfolding insert
bit_insert_same m v = omega (arith, bit_union m (single v) v, bit_single_same v, bit_le m v)

pub bit_remove_same : (m v : ℕ) → bit (remove m v) v ≡ 0
unfolding remove
bit_remove_same m v = omega (arith, bit_diff m (single v) v, bit_single_same v, bit_le m v)

pub bit_insert_other : (m v u : ℕ) → u ≢ v → bit (insert m v) u ≡ bit m u
unfolding insert
bit_insert_other m v u n = omega (arith, bit_union m (single v) u, bit_single_other v u n)

pub bit_remove_other : (m v u : ℕ) → u ≢ v → bit (remove m v) u ≡ bit m u
unfolding remove
bit_remove_other m v u n = omega (arith, bit_diff m (single v) u, bit_single_other v u n)

-- the lowest digit of a set without v, and the rest
pub remove_zero_half : (m : ℕ) → remove m 0 / 2 ≡ m / 2
unfolding remove
remove_zero_half m = diff_half m 1 ∙ diff_zero (m / 2)

pub remove_zero_even : (m : ℕ) → remove m 0 % 2 ≡ 0
unfolding remove
remove_zero_even m = omega (arith, diff_odd m 1)

pub remove_suc_half : (m v : ℕ) → remove m (suc v) / 2 ≡ remove (m / 2) v
unfolding remove
remove_suc_half m v = diff_half m (single (suc v)) ∙ ap (diff (m / 2)) (single_half v)

pub remove_suc_odd : (m v : ℕ) → remove m (suc v) % 2 ≡ m % 2
unfolding remove
remove_suc_odd m v = omega (arith, diff_odd m (single (suc v)), single_even v)

-- ---- sets with the same elements are equal

pub ext_below : (n a b : ℕ) → a < 2 ^ n → b < 2 ^ n → ((v : ℕ) → v < n → bit a v ≡ bit b v) → a ≡ b
unfolding bit
ext_below zero a b ha hb e = omega arith
ext_below (suc n) a b ha hb e =
    omega (
      arith,
      ext_below n (a / 2) (b / 2) (omega (arith, pow-suc 2 n)) (omega (arith, pow-suc 2 n)) (λ v h. e (suc v) (suc-le-suc h)),
      e zero (omega arith),
    )

-- every number m is a mask of m bits
pub lt_pow : (m : ℕ) → m < 2 ^ m
lt_pow zero = omega arith
lt_pow (suc m) = omega (arith, lt_pow m, pow-suc 2 m)

pub ext : (a b : ℕ) → ((v : ℕ) → bit a v ≡ bit b v) → a ≡ b
ext a b e =
    let la : 2 ^ a ≤ 2 ^ (a + b) = pow_mono (omega arith) in
    let lb : 2 ^ b ≤ 2 ^ (a + b) = pow_mono (omega arith) in
    ext_below (a + b) a b (omega (arith, lt_pow a)) (omega (arith, lt_pow b)) (λ v h. e v)

-- ---- bounds

pub union_lt : (n a b : ℕ) → a < 2 ^ n → b < 2 ^ n → union a b < 2 ^ n
union_lt = or_lt

pub inter_lt : (n a b : ℕ) → a < 2 ^ n → inter a b < 2 ^ n
inter_lt n a b h = omega (arith, and_le_l a b)

pub diff_le : (a b : ℕ) → diff a b ≤ a
unfolding diff
diff_le a b = omega arith

pub diff_lt : (n a b : ℕ) → a < 2 ^ n → diff a b < 2 ^ n
diff_lt n a b h = omega (arith, diff_le a b)

pub single_lt : (n v : ℕ) → v < n → single v < 2 ^ n
single_lt n v h = pow-lt h

pub full_lt : (n : ℕ) → full n < 2 ^ n
full_lt = ones_lt

pub compl_lt : (n m : ℕ) → compl n m < 2 ^ n
unfolding compl
compl_lt n m = diff_lt n (full n) m (ones_lt n)

pub insert_lt : (n m v : ℕ) → m < 2 ^ n → v < n → insert m v < 2 ^ n
unfolding insert
insert_lt n m v h l = or_lt n m (single v) h (pow-lt l)

pub remove_le : (m v : ℕ) → remove m v ≤ m
unfolding remove
remove_le m v = diff_le m (single v)

pub remove_lt : (n m v : ℕ) → m < 2 ^ n → remove m v < 2 ^ n
remove_lt n m v h = omega (arith, remove_le m v)

-- ---- members

pub pos_of_member : (m v : ℕ) → bit m v ≡ 1 → 0 < m
pos_of_member zero v e = omega (arith, bit_zero v)
pos_of_member (suc m) v e = omega arith

pub member_lt : (n m v : ℕ) → bit m v ≡ 1 → m < 2 ^ n → v < n
member_lt n m v e h = by_cases (dec_lt v n) (λ l. l) (λ l. omega (arith, bit_high n m v h (omega arith)))
