-- How many elements a set has. `ones-le` of `lib.Count` says that a mask of n bits has at most n. Assumes nothing.
use Rattle.std.specs.Prelude.{◌≡◌, refl, ◌≢◌, ℕ, zero, suc, ◌+◌, ◌/◌, ◌≤◌, ◌<◌}
use Rattle.std.proofs.Common.{ap, ◌∙◌, arith}
use Rattle.std.proofs.Math.Logic.{by_cases}
use Rattle.std.proofs.Math.Decide.{ℕ_discrete}
use Rattle.std.proofs.Math.Arith.{bin_ind}
use Rattle.std.specs.Int.Bits.{or_step, and_step}
use Rattle.std.proofs.lemmas.Nat.{or_shr, and_shr, and_comm}
use Rattle.std.specs.Int.Count.{ones, ones_step}
use Rattle.sets.specs.Sets.{bit, single, union, inter, diff, insert, remove, Within, Apart}
use Rattle.sets.specs.Laws.Bits.{diff_half, diff_odd, diff_le, single_half, single_even}
use Rattle.sets.specs.Laws.Subset.{inter_within, inter_apart, within_le, apart_symm, single_within, single_apart}

pub ones_zero : ones 0 ≡ 0
unfolding ones
ones_zero = refl

pub zero_of_ones : (m : ℕ) → ones m ≡ 0 → m ≡ 0
zero_of_ones =
    bin_ind (λ (n : ℕ). ones n ≡ 0 → n ≡ 0) (λ e. refl)
    (λ n ih e. let z : n / 2 ≡ 0 = ih (omega (arith, ones_step n)) in omega (arith, ones_step n))

pub ones_single : (v : ℕ) → ones (single v) ≡ 1
unfolding ones
ones_single zero = refl
ones_single (suc v) = omega (arith, ones_step (single (suc v)), ap ones (single_half v), single_even v, ones_single v)

-- the elements of a or b, and those of both, are counted as often as in a and b
pub ones_union_inter : (a b : ℕ) → ones (union a b) + ones (inter a b) ≡ ones a + ones b
ones_union_inter =
    bin_ind (λ (n : ℕ). (b : ℕ) → ones (union n b) + ones (inter n b) ≡ ones n + ones b) (λ b. omega arith)
    (λ n ih b.
    omega (
      arith,
      ih (b / 2),
      ones_step n,
      ones_step b,
      ones_step (union n b),
      ones_step (inter n b),
      or_step n b,
      and_step n b,
      ap ones (or_shr n b 1),
      ap ones (and_shr n b 1),
    ))

pub ones_diff_inter : (a b : ℕ) → ones (diff a b) + ones (inter a b) ≡ ones a
ones_diff_inter =
    bin_ind (λ (n : ℕ). (b : ℕ) → ones (diff n b) + ones (inter n b) ≡ ones n)
    (λ b. let z : diff 0 b ≡ 0 = omega (arith, diff_le 0 b) in omega (arith, ap ones z, ones_zero))
    (λ n ih b.
    omega (
      arith,
      ih (b / 2),
      ones_step n,
      ones_step (diff n b),
      ones_step (inter n b),
      diff_odd n b,
      and_step n b,
      ap ones (diff_half n b),
      ap ones (and_shr n b 1),
    ))

pub ones_union : (a b : ℕ) → Apart a b → ones (union a b) ≡ ones a + ones b
ones_union a b p = omega (arith, ones_union_inter a b, ap ones (inter_apart a b p), ones_zero)

-- v against a set that has it
pub inter_single : (m v : ℕ) → bit m v ≡ 1 → inter m (single v) ≡ single v
inter_single m v e = and_comm m (single v) ∙ inter_within (single v) m (single_within v m e)

pub ones_insert : (m v : ℕ) → bit m v ≡ 0 → ones (insert m v) ≡ suc (ones m)
unfolding insert
ones_insert m v e = omega (arith, ones_union m (single v) (apart_symm (single v) m (single_apart v m e)), ones_single v)

pub ones_remove : (m v : ℕ) → bit m v ≡ 1 → suc (ones (remove m v)) ≡ ones m
unfolding remove
ones_remove m v e = omega (arith, ones_diff_inter m (single v), ap ones (inter_single m v e), ones_single v)

pub ones_within : (a b : ℕ) → Within a b → ones a ≤ ones b
ones_within a b w = omega (arith, ones_diff_inter b a, ap ones (and_comm b a ∙ inter_within a b w))

pub ones_proper : (a b : ℕ) → Within a b → a ≢ b → ones a < ones b
unfolding diff
ones_proper a b w n =
    let same : inter b a ≡ a = and_comm b a ∙ inter_within a b w in
    by_cases (ℕ_discrete (ones (diff b a)) 0)
    (λ z. absurd (omega (arith, zero_of_ones (diff b a) z, within_le a b w)))
    (λ z. omega (arith, ones_diff_inter b a, ap ones same))

-- a part without an element of the whole has fewer
pub ones_less : (a b v : ℕ) → Within a b → bit b v ≡ 1 → bit a v ≡ 0 → ones a < ones b
ones_less a b v w p q = ones_proper a b w (λ s. absurd (omega (arith, ap (λ (x : ℕ). bit x v) s)))
