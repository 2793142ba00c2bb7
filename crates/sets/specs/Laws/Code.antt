-- The set operations as code over n bits computes them: `!`, `<<` and `>>` of `Mir/Val.antt`. Assumes nothing.
use Rattle.std.specs.Prelude.{◌≡◌, ℕ, zero, suc, ◌-◌, ◌*◌, ◌/◌, ◌%◌, ◌^◌, ◌<◌}
use Rattle.std.proofs.Common.{sym, ap, ◌∙◌, div-one, one-mul, mod-eq_of_lt, one-add, arith, shr-shr, shl_exact}
use Rattle.std.specs.Int.Bits.{bit_and}
use Rattle.std.proofs.lemmas.Nat.{and_comm, and_mask}
use Rattle.sets.specs.Sets.{bit, single, full, inter, diff, compl}
use Rattle.sets.specs.Laws.Bits.{bit_le, bit_inter, bit_diff, bit_compl, ext_below, inter_lt, diff_lt}

-- `!m`
pub not_compl : (n m : ℕ) → m < 2 ^ n → (2 ^ n - 1) - m ≡ compl n m
unfolding compl diff
not_compl n m h = ap (λ (x : ℕ). full n - x) (sym (and_comm (full n) m ∙ and_mask m n ∙ mod-eq_of_lt h))

-- `a & !b`
pub and_not : (n a b : ℕ) → a < 2 ^ n → b < 2 ^ n → bit_and a ((2 ^ n - 1) - b) ≡ diff a b
and_not n a b ha hb =
    ap (bit_and a) (not_compl n b hb)
    ∙ ext_below n (inter a (compl n b)) (diff a b) (inter_lt n a (compl n b) ha) (diff_lt n a b ha)
    (λ v h. omega (arith, bit_inter a (compl n b) v, bit_compl n b v h, bit_diff a b v, bit_le a v, bit_le b v))

-- `m >> v`, its lowest digit
pub shr_bit : (m v : ℕ) → m / 2 ^ v % 2 ≡ bit m v
unfolding bit
shr_bit m zero = ap (λ (x : ℕ). x % 2) (div-one m)
shr_bit m (suc v) =
    ap (λ (x : ℕ). m / 2 ^ x % 2) (sym (one-add v)) ∙ ap (λ (x : ℕ). x % 2) (sym (shr-shr m 1 v)) ∙ shr_bit (m / 2) v

-- `(m >> v) & 1`
pub shr_and_one : (m v : ℕ) → bit_and (m / 2 ^ v) 1 ≡ bit m v
shr_and_one m v = and_mask (m / 2 ^ v) 1 ∙ shr_bit m v

-- `1 << v`
pub shl_single : (n v : ℕ) → v < n → 1 * 2 ^ v % 2 ^ n ≡ single v
shl_single n v h = shl_exact 1 v n (omega arith) (omega arith) ∙ one-mul (2 ^ v)
