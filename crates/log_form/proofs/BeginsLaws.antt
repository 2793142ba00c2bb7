-- What `starts_with` says of a log's bytes: that they begin with a mark, or with the bytes before a break.
-- Assumes nothing.
use Rattle.std.specs.Prelude.{◌≡◌, refl, Bool, true, false, ◌&&◌, List, [], ◌∷◌, ℕ, ◌≤◌, ◌<◌, eqb, length, take}
use Rattle.std.proofs.Common.{sym, ap, ap₂, ◌∙◌, arith, le-leb}
use Rattle.std.specs.Cmp.Lexicographic.{pointwise}
use borrow.Author.Tests.{eqb-true, eq-eqb, lt-leb}
use Rattle.log_form.specs.Format.{ST, begins}
use Rattle.log_form.specs.Restarts.{is_prefix, is_begun}

eqb_swap : (a b : ℕ) → eqb a b ≡ eqb b a
eqb_swap a b = go (eqb a b) (eqb b a) refl refl
  where
    go : (p q : Bool) → eqb a b ≡ p → eqb b a ≡ q → p ≡ q
    go true true e d = refl
    go false false e d = refl
    go true false e d = sym (eq-eqb b a (sym (eqb-true a b e))) ∙ d
    go false true e d = sym e ∙ eq-eqb a b (sym (eqb-true b a d))

same_true : (b : Bool) → (b && true) ≡ b
same_true true = refl
same_true false = refl

same_false : (b : Bool) → false ≡ (b && false)
same_false true = refl
same_false false = refl

-- a mark
pub starts_step : (s : List ℕ) → pointwise eqb ST (take 2 s) ≡ begins ST s
unfolding begins
starts_step [] = refl
starts_step (x ∷ []) = sym (same_false (eqb 0x53 x))
starts_step (x ∷ y ∷ s) =
    rw (le-leb 2 (length (x ∷ y ∷ s)) (omega arith)) (ap₂ (λ (a : Bool) (b : Bool). a && b) (eqb_swap 0x53 x) (same_true (eqb 0x54 y) ∙ eqb_swap 0x54 y))

-- the test for a beginning, of bytes that are all there
prefix_starts : (xs ys : List ℕ) → pointwise eqb xs (take (length xs) ys) ≡ is_prefix xs ys
unfolding is_prefix
prefix_starts [] ys = refl
prefix_starts (x ∷ xs) [] = refl
prefix_starts (x ∷ xs) (y ∷ ys) = ap (λ b. eqb x y && b) (prefix_starts xs ys)

module _ (k : ℕ) (found log : List ℕ) where
  pub begun_short : length found < k → false ≡ is_begun k found log
  unfolding is_begun
  begun_short h = rw (lt-leb k (length found) h) refl

  pub begun_starts : k ≤ length found → pointwise eqb (take k found) (take (length (take k found)) log) ≡ is_begun k found log
  unfolding is_begun
  begun_starts h = rw (le-leb k (length found) h) (prefix_starts (take k found) log)
