-- An array of rows that is filled one after the other from a list of no more entries. Assumes nothing.
use mathlib.Core.Path.{◌≡◌, refl, ◌∙◌}
use mathlib.Core.List.{List, map}
use Prim.Native.Nat.{ℕ, ◌+◌, ◌≤◌, ◌<◌}
use native.Mathlib.Numerals.{add-one}
use native.Mathlib.Omega.{arith}
use lib.ListN.{length, get_or, set, take, replicate}
use lib.Seq.{take-suc, take_all}
use Rattle.book.specs.Answer.{padded}
use Rattle.book.proofs.PaddedLaws.{Filled, filled_none, filled_more}

module _ {A B : Type 0} (d : A) (f : B → A) (n : ℕ) (items : List B) where
  -- The rows of the first i entries, and d after them.
  pub record Rows (array : List A) (i : ℕ) : Type 0 where
    pub filled : Filled d n f array i (take i items)

  pub rows_none : Rows (replicate n d) 0
  rows_none = record { filled = filled_none }

  pub rows_more : {array : List A} {i : ℕ} {x : A} (e : B) → Rows array i → i < length items → length items ≤ n → x ≡ f (get_or items i e)
      → Rows (set array i x) (i + 1)
  rows_more {i = i} e g l m h =
      record { filled = rw (add-one i, take-suc items i e l) (rw (← (add-one i)) (filled_more g.filled (omega (arith, l, m)) h)) }

  pub rows_all : {array : List A} {i : ℕ} → Rows array i → length items ≤ i → array ≡ padded d n (map f items)
  rows_all {i = i} g l = let all : take i items ≡ items = take_all i items l in g.filled.stored ∙ rw all refl
