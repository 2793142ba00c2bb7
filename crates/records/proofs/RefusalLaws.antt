-- The number of the check that a number names is that number, for each of document 01's numbers.
-- Assumes nothing.
use mathlib.Core.Path.{◌≡◌, refl, sym, ap, ◌∙◌}
use mathlib.Core.Logic.{◌⊎◌, inl, inr}
use mathlib.Core.Bool.{Bool, true, false, ◌&&◌, ◌||◌}
use mathlib.Core.List.{List, [], ◌∷◌}
use Prim.Native.Nat.{ℕ, zero, suc, ◌+◌, ◌≤◌, ◌<◌}
use native.Mathlib.Omega.{arith}
use borrow.Author.Tests.{eqb-true}
use lib.Dec.{eqb}
use lib.ListN.{get_or, length}
use Rattle.literals.specs.Laws.{and_both}
use Rattle.records.specs.Refusals.{number_of, kinds, kind_of}
use Rattle.records.specs.declared.refusal.RefusalKind.{RefusalKind}
use Rattle.records.specs.declared.refusal.RefusalKind.TheVariants as kind

-- Each check of a list has the number of its place, counted from i, or the first check's.
in_order : ℕ → List RefusalKind → Bool
in_order i [] = true
in_order i (k ∷ ks) = (eqb (number_of k) i || eqb (number_of k) 1) && in_order (suc i) ks

either : {a b : Bool} → a || b ≡ true → (a ≡ true) ⊎ (b ≡ true)
either {a = true} e = inl refl
either {a = false} e = inr e

-- what stands at a place of such a list
at_place : (i : ℕ) (ks : List RefusalKind) → in_order i ks ≡ true → (n : ℕ)
    → (number_of (get_or ks n kind.CutShort) ≡ n + i) ⊎ (number_of (get_or ks n kind.CutShort) ≡ 1)
unfolding in_order
at_place i [] e n = inr refl
at_place i (k ∷ ks) e zero = go (either (and_both (eqb (number_of k) i || eqb (number_of k) 1) (in_order (suc i) ks) e).0)
  where
    go : (eqb (number_of k) i ≡ true) ⊎ (eqb (number_of k) 1 ≡ true) → (number_of k ≡ 0 + i) ⊎ (number_of k ≡ 1)
    go (inl d) = inl (omega (arith, eqb-true _ _ d))
    go (inr d) = inr (eqb-true _ _ d)
at_place i (k ∷ ks) e (suc n) = go (at_place (suc i) ks (and_both (eqb (number_of k) i || eqb (number_of k) 1) (in_order (suc i) ks) e).1 n)
  where
    go : (number_of (get_or ks n kind.CutShort) ≡ n + suc i) ⊎ (number_of (get_or ks n kind.CutShort) ≡ 1)
        → (number_of (get_or ks n kind.CutShort) ≡ suc n + i) ⊎ (number_of (get_or ks n kind.CutShort) ≡ 1)
    go (inl d) = inl (omega (arith, d))
    go (inr d) = inr d

-- a check that is named by a number has that number, or is the first
pub numbered : (n : ℕ) → (number_of (kind_of n) ≡ n) ⊎ (number_of (kind_of n) ≡ 1)
unfolding in_order
numbered n = go (at_place 0 kinds refl n)
  where
    go : (number_of (kind_of n) ≡ n + 0) ⊎ (number_of (kind_of n) ≡ 1) → (number_of (kind_of n) ≡ n) ⊎ (number_of (kind_of n) ≡ 1)
    go (inl d) = inl (omega (arith, d))
    go (inr d) = inr d

-- so that a check other than the first has one number
pub one_number : {n m : ℕ} → kind_of n ≡ kind_of m → number_of (kind_of m) ≡ m → 2 ≤ m → n ≡ m
one_number {n} {m} e f h = go (numbered n)
  where
    same : number_of (kind_of n) ≡ m
    same = ap number_of e ∙ f

    go : (number_of (kind_of n) ≡ n) ⊎ (number_of (kind_of n) ≡ 1) → n ≡ m
    go (inl d) = sym d ∙ same
    go (inr d) = absurd (omega (arith, d, same))

-- ---- each of document 01's numbers is the number of its check

-- Each check of a list has the number of its place, counted from i, but for 0 and 11, which number none.
all_kept : ℕ → List RefusalKind → Bool
all_kept i [] = true
all_kept i (k ∷ ks) = (eqb (number_of k) i || (eqb i 0 || eqb i 11)) && all_kept (suc i) ks

kept_at : (i : ℕ) (ks : List RefusalKind) → all_kept i ks ≡ true → (n : ℕ) → n < length ks → (n + i ≡ 0 → ⊥) → (n + i ≡ 11 → ⊥)
    → number_of (get_or ks n kind.CutShort) ≡ n + i
unfolding all_kept
kept_at i [] e n h a b = absurd (omega (arith, h))
kept_at i (k ∷ ks) e zero h a b =
    go (either (and_both (eqb (number_of k) i || (eqb i 0 || eqb i 11)) (all_kept (suc i) ks) e).0)
  where
    none : (eqb i 0 ≡ true) ⊎ (eqb i 11 ≡ true) → number_of k ≡ 0 + i
    none (inl d) = absurd (a (omega (arith, eqb-true _ _ d)))
    none (inr d) = absurd (b (omega (arith, eqb-true _ _ d)))

    go : (eqb (number_of k) i ≡ true) ⊎ (eqb i 0 || eqb i 11 ≡ true) → number_of k ≡ 0 + i
    go (inl d) = omega (arith, eqb-true _ _ d)
    go (inr d) = none (either d)
kept_at i (k ∷ ks) e (suc n) h a b =
    let rest = kept_at (suc i) ks (and_both (eqb (number_of k) i || (eqb i 0 || eqb i 11)) (all_kept (suc i) ks) e).1 n (omega (arith, h))
    (λ z. a (omega (arith, z))) (λ z. b (omega (arith, z))) in
    omega (arith, rest)

pub number_kept : (n : ℕ) → 1 ≤ n → n ≤ 15 → (n ≡ 11 → ⊥) → number_of (kind_of n) ≡ n
unfolding all_kept
number_kept n h k m =
    let kept = kept_at 0 kinds refl n (omega arith) (λ z. omega (arith, z)) (λ z. m (omega (arith, z))) in omega (arith, kept)

-- a check, from its number
pub kind_back : (k : RefusalKind) → kind_of (number_of k) ≡ k
kind_back kind.CutShort = refl
kind_back kind.Mark = refl
kind_back kind.Counts = refl
kind_back kind.Cost = refl
kind_back kind.LiteralCount = refl
kind_back kind.Literals = refl
kind_back kind.AfterEnd = refl
kind_back kind.ShortBuffer = refl
kind_back kind.NoFilling = refl
kind_back kind.KnownSet = refl
kind_back kind.Text = refl
kind_back kind.TextLimits = refl
kind_back kind.Times = refl
kind_back kind.Beginning = refl
