-- Comment lines, and V and R.
-- Assumes nothing.
use mathlib.Core.Path.{◌≡◌, refl, sym, ap, ◌∙◌}
use mathlib.Core.Bool.{Bool, true, false, cond, not}
use mathlib.Core.List.{List}
use Prim.Native.Nat.{ℕ, zero, suc, ◌+◌, ◌≤◌, ◌<◌}
use native.Mathlib.Numerals.{add-one}
use native.Mathlib.Omega.{arith}
use borrow.Author.Tests.{lt-ltb, le-ltb, ltb-true}
use lib.Dec.{ltb}
use lib.ListN.{length}
use Rattle.records.specs.Format.{Read, value, refused, and_then}
use Rattle.dimacs.specs.Text.{is, is_line_end, stands, after, line, comments}
use Rattle.dimacs.proofs.ByteLaws.{after_from}

-- The end of the line at a place.
abbrev pub line_end : List ℕ → ℕ → ℕ
line_end s place = after s (λ b. not (is_line_end b)) place

module _ (s : List ℕ) (place : ℕ) where
  pub line_ends : line_end s place < length s → line s place ≡ value tt (line_end s place + 1)
  unfolding line
  line_ends h = rw (lt-ltb _ _ h, add-one (line_end s place)) refl

  pub line_open : length s ≤ line_end s place → line s place ≡ refused 12 (line_end s place)
  unfolding line
  line_open h = rw (le-ltb _ _ h) refl

  -- a line that ends takes bytes
  pub line_next : {u : Unit {0}} {next : ℕ} → line s place ≡ value u next → (place < next) × (next ≤ length s)
  unfolding line
  line_next {u} {next} e = go (ltb (line_end s place) (length s)) refl e
    where
      go : (b : Bool) → ltb (line_end s place) (length s) ≡ b
          → cond b (value tt (suc (line_end s place))) (refused 12 (line_end s place)) ≡ value u next → (place < next) × (next ≤ length s)
      go true d f =
          let same : suc (line_end s place) ≡ next = cc in
          (omega (arith, after_from s (λ b. not (is_line_end b)) place), omega (arith, ltb-true (line_end s place) (length s) d))
      go false d f = let z : ◌≡◌ {A = ℕ} 0 1 = cc in absurd (omega arith)

module _ (s : List ℕ) where
  -- what is read after a comment line is read at a later place
  after_line : (place turns more : ℕ) → ((p : ℕ) → p ≤ length s → place < p → comments s more p ≡ comments s turns p)
      → and_then (line s place) (λ u next. comments s more next) ≡ and_then (line s place) (λ u next. comments s turns next)
  after_line place turns more k = go (line s place) refl
    where
      go : (m : Read (Unit {0})) → line s place ≡ m → and_then m (λ u next. comments s more next) ≡ and_then m (λ u next. comments s turns next)
      go (value u p) d = let w = line_next s place d in k p w.1 w.0
      go (refused n p) d = refl

  -- more turns than there are bytes change nothing: the meaning does not depend on how many it is given
  pub comments_enough : (turns place : ℕ) → place ≤ length s → length s < turns + place → comments s (suc turns) place ≡ comments s turns place
  unfolding comments
  comments_enough zero place h l = absurd (omega arith)
  comments_enough (suc turns) place h l =
      ap (λ b. cond (stands s (is 0x63) place) b (value tt place))
      (after_line place turns (suc turns) (λ p within later. comments_enough turns p within (omega arith)))

  -- The comment lines that are still to be read.
  abbrev pub comments_left : ℕ → Read (Unit {0})
  comments_left place = comments s (suc (length s)) place

  pub record Skipped (place : ℕ) : Type 0 where
    pub left : comments_left 0 ≡ comments_left place
    pub upto : place ≤ length s

  pub skipped_none : Skipped 0
  skipped_none = record { left = refl; upto = omega arith }

  module _ {place : ℕ} (g : Skipped place) where
    pub skipped_all : stands s (is 0x63) place ≡ false → comments_left 0 ≡ value tt place
    unfolding comments
    skipped_all e = g.left ∙ rw e refl

    module _ (e : stands s (is 0x63) place ≡ true) where
      pub skipped_wrong : {n p : ℕ} → line s place ≡ refused n p → comments_left 0 ≡ refused n p
      unfolding comments
      skipped_wrong f = g.left ∙ rw (e, f) refl

      pub skipped_more : {u : Unit {0}} {next : ℕ} → line s place ≡ value u next → Skipped next
      unfolding comments
      skipped_more {u} {next} f =
          let w = line_next s place f in
          record { left = g.left ∙ rw (e, f) (sym (comments_enough (length s) next w.1 (omega (arith, w.0)))); upto = w.1 }
