-- The first filling that is computed is the first one that passes the test, if any does. Assumes nothing.
use Rattle.std.specs.Prelude.{◌≡◌, refl, ◌⊎◌, Bool, true, false, ◌&&◌, ℕ, zero, suc, ◌^◌, ◌≤◌, ◌<◌}
use Rattle.std.proofs.Common.{sym, ap, ◌∙◌, inl, inr, arith, ltb-true, ltb-false}
use Rattle.std.proofs.Math.Logic.{by_cases}
use Rattle.std.proofs.lemmas.Bool.{false≢true}
use Rattle.std.proofs.Math.Decide.{ℕ_discrete}
use Rattle.sets.specs.Sets.{bit, full}
use Rattle.sets.specs.Laws.Bits.{bit_le, bit_full, full_lt, ext_below}
use Rattle.literals.specs.Laws.{and_both}
use Rattle.sat.specs.Meaning.{some_filling}
use Rattle.sat.specs.Laws.Fillings.{some_witness}
use Rattle.first_model.specs.Meaning.{weight, comes_before, first_under, first_filling, First}
use Rattle.first_model.proofs.Laws.Order.{weight_agree, least_first}

-- A filling of n variables that passes the test.
pub record Passes (n : ℕ) (t : ℕ → Bool) (f : ℕ) : Type 0 where
  pub below : f < 2 ^ n
  pub passes : t f ≡ true

-- What is kept of f and of the numbers below k that pass the test.
record Kept (n : ℕ) (t : ℕ → Bool) (k f r : ℕ) : Type 0 where
  pub either : (r ≡ f) ⊎ ((r < k) × (t r ≡ true))
  pub least_start : weight n r ≤ weight n f
  pub least : (g : ℕ) → g < k → t g ≡ true → weight n r ≤ weight n g

-- k passes and is before f: it is kept in place of f
taken : (n : ℕ) (t : ℕ → Bool) (k f r : ℕ) → t k ≡ true → weight n k < weight n f → Kept n t k k r → Kept n t (suc k) f r
taken n t k f r e l x =
    record {
      either = inr (either_below x.either);
      least_start = omega (arith, x.least_start);
      least = λ g h p. by_cases (ℕ_discrete g k) (λ s. rw s x.least_start) (λ s. x.least g (omega arith) p);
    }
  where
    either_below : (r ≡ k) ⊎ ((r < k) × (t r ≡ true)) → (r < suc k) × (t r ≡ true)
    either_below (inl s) = (omega arith, ap t s ∙ e)
    either_below (inr w) = (omega (arith, w.0), w.1)

-- k does not pass, or is not before f: f stays
left : (n : ℕ) (t : ℕ → Bool) (k f r : ℕ) → (t k ≡ true → weight n f ≤ weight n k) → Kept n t k f r → Kept n t (suc k) f r
left n t k f r l x =
    record {
      either = wider x.either;
      least_start = x.least_start;
      least = λ g h p. by_cases (ℕ_discrete g k) (λ s. rw s (omega (arith, x.least_start, l (rw s at p)))) (λ s. x.least g (omega arith) p);
    }
  where
    wider : (r ≡ f) ⊎ ((r < k) × (t r ≡ true)) → (r ≡ f) ⊎ ((r < suc k) × (t r ≡ true))
    wider (inl s) = inl s
    wider (inr w) = inr (omega (arith, w.0), w.1)

not_before : (n : ℕ) (k f : ℕ) (p : Bool) → p && comes_before n k f ≡ false → p ≡ true → weight n f ≤ weight n k
unfolding comes_before
not_before n k f true e s = ltb-false _ _ e
not_before n k f false e s = absurd (false≢true s)

kept : (n : ℕ) (t : ℕ → Bool) (k f : ℕ) → Kept n t k f (first_under n t k f)
unfolding first_under comes_before
kept n t zero f = record { either = inl refl; least_start = omega arith; least = λ g h p. absurd (omega arith) }
kept n t (suc k) f = go (t k && comes_before n k f) refl (kept n t k)
  where
    go : (b : Bool) → t k && comes_before n k f ≡ b → ((g : ℕ) → Kept n t k g (first_under n t k g))
        → Kept n t (suc k) f (elim b [ true ↦ first_under n t k k | false ↦ first_under n t k f ])
    go true e rest = let w = and_both (t k) (comes_before n k f) e in taken n t k f _ w.0 (ltb-true _ _ w.1) (rest k)
    go false e rest = left n t k f _ (not_before n k f (t k) e) (rest f)

-- the last of all fillings weighs most
full_heaviest : (n f : ℕ) → weight n f ≤ weight n (full n)
unfolding weight
full_heaviest n f = heaviest n (full n) (λ v h. bit_full n v h)
  where
    heaviest : (k g : ℕ) → ((v : ℕ) → v < k → bit g v ≡ 1) → weight k f ≤ weight k g
    heaviest zero g e = omega arith
    heaviest (suc k) g e = omega (arith, heaviest k g (λ v h. e v (omega arith)), e k (omega arith), bit_le f k)

-- the first filling, if some filling passes the test
module _ (n : ℕ) (t : ℕ → Bool) where
  passing : (h r : ℕ) → Passes n t h → Kept n t (2 ^ n) (full n) r → Passes n t r
  passing h r x k = go k.either
    where
      go : (r ≡ full n) ⊎ ((r < 2 ^ n) × (t r ≡ true)) → Passes n t r
      go (inr w) = record { below = w.0; passes = w.1 }
      go (inl e) =
          let same : h ≡ r = ext_below n h r x.below (rw e (full_lt n))
          (weight_agree n h r (omega (arith, k.least h x.below x.passes, rw (sym e) at (full_heaviest n h)))) in
          rw same at x

  pub first_filling_lem : some_filling n t ≡ true → First (Passes n t) (first_filling n t)
  unfolding first_filling
  first_filling_lem e =
      let (h, l, p) = some_witness n t e in
      let k = kept n t (2 ^ n) (full n) in
      least_first n (Passes n t) (λ g x. x.below) _ (passing h _ (record { below = l; passes = p }) k) (λ g x. k.least g x.below x.passes)
