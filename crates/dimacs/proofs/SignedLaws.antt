-- Numbers of a clause: literals and the closing 0.
-- Assumes nothing.
use mathlib.Core.Path.{◌≡◌, refl, ◌∙◌}
use mathlib.Core.Bool.{Bool, true, false, cond}
use mathlib.Core.List.{List}
use Prim.Native.Nat.{ℕ, zero, suc, ◌+◌, ◌≤◌}
use native.Mathlib.Numerals.{add-one}
use native.Mathlib.Omega.{arith}
use borrow.Author.Tests.{leb-true}
use lib.Dec.{leb}
use lib.IntN.{pos, ◌-ℤ◌}
use mir.Syntax.{w8}
use mir.Val.{SFits, to_z, of_z}
use mir.Facts.{to_z-of_z}
use Rattle.std.proofs.lemmas.Int.{ints}
use Rattle.records.specs.Limits.{max_variables}
use Rattle.records.specs.Format.{Read, value, refused, and_then}
use Rattle.dimacs.specs.Text.{is, is_first_digit, opposite, stands, number, number_up_to, signed}

-- ---- the signed byte of a number with its sign

pub plain_byte : (n : ℕ) → n ≤ max_variables → to_z w8 n ≡ pos n
plain_byte n h = omega (arith, ints)

negated : (n : ℕ) → pos 0 -ℤ pos n ≡ opposite n
negated zero = refl
negated (suc n) = omega (arith, ints)

opposite_fits : (n : ℕ) → n ≤ max_variables → SFits w8 (opposite n)
opposite_fits zero h = record { sfits = omega arith }
opposite_fits (suc n) h = record { sfits = omega arith }

pub minus_fits : (n : ℕ) → n ≤ max_variables → SFits w8 (pos 0 -ℤ to_z w8 n)
minus_fits n h = rw (plain_byte n h, negated n) (opposite_fits n h)

pub minus_byte : (n : ℕ) → n ≤ max_variables → to_z w8 (of_z w8 (pos 0 -ℤ to_z w8 n)) ≡ opposite n
minus_byte n h = to_z-of_z (minus_fits n h) ∙ rw (plain_byte n h, negated n) refl

-- ---- a number up to a limit is at most the limit

number_upto : (m : Read ℕ) (most refusal at : ℕ) {n next : ℕ}
    → and_then m (λ k next. cond (leb k most) (value k next) (refused refusal at)) ≡ value n next → n ≤ most
number_upto (refused a b) most refusal at e = let z : ◌≡◌ {A = ℕ} 0 1 = cc in absurd (omega arith)
number_upto (value k p) most refusal at {n} {next} e = go (leb k most) refl e
  where
    go : (b : Bool) → leb k most ≡ b → cond b (value k p) (refused refusal at) ≡ value n next → n ≤ most
    go true d f = let same : k ≡ n = cc in rw same at (leb-true k most d)
    go false d f = let z : ◌≡◌ {A = ℕ} 0 1 = cc in absurd (omega arith)

pub up_to_most : (s : List ℕ) (most refusal at place : ℕ) {n next : ℕ} → number_up_to s most refusal at place ≡ value n next → n ≤ most
unfolding number_up_to
up_to_most s most refusal at place e = number_upto (number s place) most refusal at e

-- ---- a number with its sign

module _ (s : List ℕ) (v place : ℕ) where
  module _ (d : stands s (is 0x2D) place ≡ false) where
    pub signed_plain : {n next : ℕ} → number_up_to s v 12 place place ≡ value n next → signed s v place ≡ value (pos n) next
    unfolding signed
    signed_plain e = rw (d, e) refl

    pub plain_stopped : {n p : ℕ} → number_up_to s v 12 place place ≡ refused n p → signed s v place ≡ refused n p
    unfolding signed
    plain_stopped e = rw (d, e) refl

  module _ (d : stands s (is 0x2D) place ≡ true) where
    pub signed_wrong : stands s is_first_digit (place + 1) ≡ false → signed s v place ≡ refused 12 (place + 1)
    unfolding signed
    signed_wrong e = rw (d, ← (add-one place), e) refl

    module _ (f : stands s is_first_digit (place + 1) ≡ true) where
      pub signed_minus : {n next : ℕ} → number_up_to s v 12 place (place + 1) ≡ value n next → signed s v place ≡ value (opposite n) next
      unfolding signed
      signed_minus e = rw (d, ← (add-one place), f, e) refl

      pub minus_stopped : {n p : ℕ} → number_up_to s v 12 place (place + 1) ≡ refused n p → signed s v place ≡ refused n p
      unfolding signed
      minus_stopped e = rw (d, ← (add-one place), f, e) refl
