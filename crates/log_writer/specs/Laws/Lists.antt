-- Lists of literals and the two masks that say the same: two lists in a row, and truth. A sign stands for its mask: `cond says on off`.
-- Assumes nothing.
use Rattle.std.specs.Prelude.{◌≡◌, refl, Bool, true, false, cond, List, [], ◌∷◌, ◌++◌, ℕ, zero, pos, neg_ℤ}
use Rattle.std.proofs.Common.{ap, ◌∙◌, ⊎_elim, arith}
use Rattle.std.proofs.Math.Logic.{by_cases}
use mathlib.Core.List.Memᴰ
use Rattle.std.proofs.Math.Decide.{ℕ_discrete}
use Rattle.sets.specs.Sets.{bit, union, Within, Apart}
use Rattle.sets.specs.Laws.Bits.{bit_le, bit_union}
use Rattle.sets.specs.Laws.Subset.{within_by, apart_by}
use Rattle.literals.specs.Literal.{Literal, variable, literal_of}
use Rattle.literals.specs.Truth.{holds, all_hold}
use Rattle.literals.specs.Laws.{Proper, and_both}
use Rattle.propagation.specs.Promises.{digit}
use Rattle.step.specs.Laws.TheStep.{holds_digit, digit_holds}
use Rattle.log_form.specs.Laws.Lists.{each_literal}
use Rattle.log_form.specs.Laws.Masks.{SameLiterals}
use Rattle.log_writer.specs.Demand3.{In}

-- two lists in a row
pub same_both : {ks ls : List Literal} {y n a o : ℕ} → SameLiterals ks y n → SameLiterals ls a o → SameLiterals (ks ++ ls) (union y a) (union n o)
same_both {ks} {ls} {y} {n} {a} {o} s t =
    record {
      in_bit = λ v says i.
          rw (both says)
          (⊎_elim (λ k. one v says (s.in_bit v says k)) (λ k. other v says (t.in_bit v says k)) (Memᴰ.append_cases ks i));
      bit_in = λ v says e.
          by_cases (ℕ_discrete (bit (cond says y n) v) 1) (λ k. Memᴰ.append_left ls (s.bit_in v says k))
          (λ k. Memᴰ.append_right ks (t.bit_in v says (left v says (rw (both says) at e) k)));
      none_zero = λ i. ⊎_elim s.none_zero t.none_zero (Memᴰ.append_cases ks i);
    }
  where
    both : (says : Bool) → cond says (union y a) (union n o) ≡ union (cond says y n) (cond says a o)
    both true = refl
    both false = refl

    one : (v : ℕ) (says : Bool) → bit (cond says y n) v ≡ 1 → bit (union (cond says y n) (cond says a o)) v ≡ 1
    one v says e = omega (arith, bit_union (cond says y n) (cond says a o) v, bit_le (cond says a o) v)

    other : (v : ℕ) (says : Bool) → bit (cond says a o) v ≡ 1 → bit (union (cond says y n) (cond says a o)) v ≡ 1
    other v says e = omega (arith, bit_union (cond says y n) (cond says a o) v, bit_le (cond says y n) v)

    left : (v : ℕ) (says : Bool) → bit (union (cond says y n) (cond says a o)) v ≡ 1 → (bit (cond says y n) v ≡ 1 → ⊥) → bit (cond says a o) v ≡ 1
    left v says e d = omega (arith, bit_union (cond says y n) (cond says a o) v, bit_le (cond says y n) v)

-- a list that speaks of variables has no literal 0
pub no_zero : (ls : List Literal) → Proper ls → In (pos zero) ls → ⊥
unfolding variable
no_zero [] p i = Memᴰ.not-nil i
no_zero (l ∷ ls) p i = ⊎_elim (λ e. omega (arith, ap variable e, p.0)) (λ k. no_zero ls p.1 k) (Memᴰ.cases_cons i)

-- ---- truth

pub all_in : (f : ℕ) (ls : List Literal) → all_hold f ls ≡ true → (l : Literal) → In l ls → holds f l ≡ true
unfolding all_hold
all_in f [] e l m = absurd (Memᴰ.not-nil m)
all_in f (x ∷ xs) e l m =
    let both = and_both (holds f x) (all_hold f xs) e in
    ⊎_elim (λ p. ap (holds f) p ∙ both.0) (λ k. all_in f xs both.1 l k) (Memᴰ.cases_cons m)

in_all_lem : (f : ℕ) (ls : List Literal) → ((l : Literal) → In l ls → holds f l ≡ true) → all_hold f ls ≡ true
unfolding all_hold
in_all_lem f [] h = refl
in_all_lem f (x ∷ xs) h = rw (h x (Memᴰ.head refl)) (in_all_lem f xs (λ l m. h l (Memᴰ.tail m)))

-- all of a list holds where the filling says what its masks say, and only there
module _ {ks : List Literal} {y n : ℕ} (s : SameLiterals ks y n) (f : ℕ) where
  same_digit : (v : ℕ) (says : Bool) → all_hold f ks ≡ true → bit (cond says y n) v ≡ 1 → bit f v ≡ digit says
  same_digit v says e b = digit_holds f v says (all_in f ks e (literal_of v says) (s.bit_in v says b))

  pub holds_keeps : all_hold f ks ≡ true → Within y f
  holds_keeps e = within_by y f (λ v. same_digit v true e)

  pub holds_avoids : all_hold f ks ≡ true → Apart n f
  holds_avoids e = apart_by n f (λ v. same_digit v false e)

  pub same_holds : Within y f → Apart n f → all_hold f ks ≡ true
  same_holds w a =
      in_all_lem f ks (each_literal _ (λ i. absurd (s.none_zero i)) (λ v says i. holds_digit f v says (kept v says (s.in_bit v says i))))
    where
      kept : (v : ℕ) (says : Bool) → bit (cond says y n) v ≡ 1 → bit f v ≡ digit says
      kept v true e = omega (arith, e, w.keeps v, bit_le f v)
      kept v false e = omega (arith, e, a.avoids v)

-- a literal and its opposite do not both hold
pub clash : (f v : ℕ) (says : Bool) → holds f (literal_of v says) ≡ true → holds f (neg_ℤ (literal_of v says)) ≡ true → ⊥
clash f v true p n = omega (arith, digit_holds f v true p, digit_holds f v false n)
clash f v false p n = omega (arith, digit_holds f v false p, digit_holds f v true n)

-- all of a list holds exactly where the first and the others do
pub first_holds : (f : ℕ) (l : Literal) (ls : List Literal) → all_hold f (l ∷ ls) ≡ true → (holds f l ≡ true) × (all_hold f ls ≡ true)
unfolding all_hold
first_holds f l ls e = and_both (holds f l) (all_hold f ls) e

pub holds_first : (f : ℕ) (l : Literal) (ls : List Literal) → holds f l ≡ true → all_hold f ls ≡ true → all_hold f (l ∷ ls) ≡ true
unfolding all_hold
holds_first f l ls h a = rw h a
