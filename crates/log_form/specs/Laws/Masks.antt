-- Lists of literals and the two masks that say the same. A sign stands for its mask: `cond says on off`.
-- Assumes nothing.
use Rattle.std.specs.Prelude.{◌≡◌, Bool, true, false, cond, ℕ, zero, suc, max, pos, negsuc}
use Rattle.std.proofs.Common.{ap, ap₂, ◌∙◌, ⊎_elim, arith}
use Rattle.std.proofs.Math.Logic.{by_cases}
use mathlib.Core.List.Memᴰ
use mathlib.Core.List.{List, [], ◌∷◌, Memᴰ}
use Rattle.std.proofs.Math.Decide.{ℕ_discrete}
use Rattle.sets.specs.Sets.{bit, Apart}
use Rattle.sets.specs.Laws.Bits.{bit_zero, bit_le, bit_union, bit_single_same, bit_single_other, ext}
use Rattle.sets.specs.Laws.Subset.{one_has, zero_has, within_by}
use Rattle.literals.specs.Literal.{Literal, literal_of, literals_of}
use Rattle.literals.specs.Truth.{yes_bit, no_bit, yes_mask, no_mask}
use Rattle.literals.specs.Laws.{sign_bit, sign_mask, mask_none, mask_more}
use Rattle.log_form.specs.Laws.Lists.{literal_same, not_zero, in_set, list_member}

-- The literals of a list are those of two masks.
pub record SameLiterals (ks : List Literal) (y n : ℕ) : Type 0 where
  pub in_bit : (v : ℕ) (says : Bool) → Memᴰ (literal_of v says) ks → bit (cond says y n) v ≡ 1
  pub bit_in : (v : ℕ) (says : Bool) → bit (cond says y n) v ≡ 1 → Memᴰ (literal_of v says) ks
  pub none_zero : Memᴰ (pos zero) ks → ⊥

-- the list of a set
pub same_listed : (on off : ℕ) → Apart on off → SameLiterals (literals_of on off) on off
same_listed on off a =
    record {
      in_bit = λ v says i.
          let m = list_member on off (literal_of v says) i in
          let s = literal_same v m.variable_of says m.says m.is in
          ap₂ (λ (u : ℕ) (b : Bool). bit (cond b on off) u) s.0 s.1 ∙ m.member;
      bit_in = listed;
      none_zero = λ i. let m = list_member on off (pos zero) i in not_zero m.variable_of m.says m.is;
    }
  where
    listed : (v : ℕ) (says : Bool) → bit (cond says on off) v ≡ 1 → Memᴰ (literal_of v says) (literals_of on off)
    listed v true e = in_set on off v true (omega (arith, bit_union on off v, bit_le off v)) (one_has on v e)
    listed v false e = in_set on off v false (omega (arith, bit_union on off v, bit_le on v)) (zero_has on v (omega (arith, a.avoids v)))

-- the masks of a list are the only ones
pub same_unique : {ks : List Literal} {y n a o : ℕ} → SameLiterals ks y n → SameLiterals ks a o → (says : Bool) → cond says y n ≡ cond says a o
same_unique s t says =
    let there = within_by _ _ (λ v e. t.in_bit v says (s.bit_in v says e)) in
    let back = within_by _ _ (λ v e. s.in_bit v says (t.bit_in v says e)) in
    ext _ _ (λ v. omega (arith, there.keeps v, back.keeps v))

-- ---- the masks of a list

mask_at : (says : Bool) (l : Literal) (ls : List Literal) (v : ℕ) → bit (sign_mask says (l ∷ ls)) v ≡ max (bit (sign_bit says l) v) (bit (sign_mask says ls) v)
mask_at says l ls v = ap (λ (m : ℕ). bit m v) (mask_more says l ls) ∙ bit_union (sign_bit says l) (sign_mask says ls) v

-- a literal has the bit of its variable, of its sign
bit_literal : (says : Bool) (l : Literal) (v : ℕ) → bit (sign_bit says l) v ≡ 1 → literal_of v says ≡ l
unfolding yes_bit no_bit
bit_literal true (pos zero) v e = absurd (omega (arith, bit_zero v))
bit_literal true (pos (suc u)) v e = by_cases (ℕ_discrete v u) (λ p. ap (λ (x : ℕ). pos (suc x)) p) (λ p. absurd (omega (arith, bit_single_other u v p)))
bit_literal true (negsuc u) v e = absurd (omega (arith, bit_zero v))
bit_literal false (pos u) v e = absurd (omega (arith, bit_zero v))
bit_literal false (negsuc u) v e = by_cases (ℕ_discrete v u) (λ p. ap negsuc p) (λ p. absurd (omega (arith, bit_single_other u v p)))

literal_bit : (says : Bool) (l : Literal) (v : ℕ) → literal_of v says ≡ l → bit (sign_bit says l) v ≡ 1
unfolding yes_bit no_bit
literal_bit true l v e = rw (← e) (bit_single_same v)
literal_bit false l v e = rw (← e) (bit_single_same v)

pub mask_in : (says : Bool) (ls : List Literal) (v : ℕ) → bit (sign_mask says ls) v ≡ 1 → Memᴰ (literal_of v says) ls
mask_in says [] v e = absurd (omega (arith, ap (λ (m : ℕ). bit m v) (mask_none says), bit_zero v))
mask_in says (l ∷ ls) v e =
    by_cases (ℕ_discrete (bit (sign_bit says l) v) 1) (λ p. Memᴰ.head (bit_literal says l v p))
    (λ p. Memᴰ.tail (mask_in says ls v (omega (arith, mask_at says l ls v, bit_le (sign_bit says l) v))))

in_mask : (says : Bool) (ls : List Literal) (v : ℕ) → Memᴰ (literal_of v says) ls → bit (sign_mask says ls) v ≡ 1
in_mask says [] v m = absurd (Memᴰ.not-nil m)
in_mask says (l ∷ ls) v m =
    ⊎_elim (λ p. omega (arith, mask_at says l ls v, literal_bit says l v p, bit_le (sign_mask says ls) v))
    (λ k. omega (arith, mask_at says l ls v, in_mask says ls v k, bit_le (sign_bit says l) v)) (Memᴰ.cases_cons m)

-- they say the same, where no literal is 0
pub same_masks : (ls : List Literal) → (Memᴰ (pos zero) ls → ⊥) → SameLiterals ls (yes_mask ls) (no_mask ls)
same_masks ls z = record { in_bit = λ v says. in_mask says ls v; bit_in = λ v says. mask_in says ls v; none_zero = z }

-- the masks of the list of a set are the set's
pub masks_back : (on off : ℕ) → Apart on off → (says : Bool) → sign_mask says (literals_of on off) ≡ cond says on off
masks_back on off a =
    let listed = same_listed on off a in
    same_unique (same_masks (literals_of on off) listed.none_zero) listed
