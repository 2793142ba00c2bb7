-- Items in a row, as a loop reads them: what holds after some of them, and what one more item changes. The laws are over any row;
-- `many` is one by `many_due` and `many_over`, and `facts_from` by `facts_due` and `facts_over` (FactLaws).
-- Assumes nothing.
use mathlib.Core.Path.{◌≡◌, refl}
use mathlib.Core.List.{List, [], ◌∷◌, ◌++◌}
use Prim.Native.Nat.{ℕ, suc, ◌+◌, ◌-◌, ◌≤◌, ◌<◌}
use native.Mathlib.Nat.{sub-zero}
use native.Mathlib.Numerals.{add-one}
use native.Mathlib.Omega.{arith}
use lib.ListN.{length}
use Rattle.records.proofs.RowLaws.{SoFar, so_far_none, so_far_more, so_far_refused, so_far_all}
use Rattle.records.specs.Format.{RecordRead, says, fails, Read, value, refused, begin, and_then, with_item, many}

-- An item that is whole: what it says, with a property, and the place after it, which is one of the bytes.
pub record WholeFrom {A : Type 0} (P : A → Type 0) (s : List ℕ) (next : ℕ) (r : Read A) : Type 0 where
  pub item : A
  pub said : r ≡ value item next
  pub within : next ≤ length s
  pub holds : P item

-- a record and what follows it
pub begin_then : {A B : Type 0} (place : ℕ) (r : RecordRead A) (next : A → ℕ → Read B) → begin place r next ≡ and_then (begin place r value) next
begin_then place (says a len) next = refl
begin_then place (fails number) next = refl

module _ {A : Type 0} where
  -- An item is due: `rest` is that item and what is read after it.
  pub record Due (rest : Read (List A)) (r : Read A) (after : A → ℕ → Read (List A)) : Type 0 where
    pub due : rest ≡ and_then r (λ a next. with_item a (after a next))

  pub due_refused : {rest : Read (List A)} {place number : ℕ} {r : Read A} {after : A → ℕ → Read (List A)} → Due rest r after → r ≡ refused number place
      → rest ≡ refused number place
  due_refused d f = rw (d.due, f) refl

  -- In the row `whole`, after some of its items, at a place.
  pub record Walked (s : List ℕ) (whole : Read (List A)) (Kept : List A → Type 0) (rest : Read (List A)) (place : ℕ) : Type 0 where
    pub so_far : SoFar whole Kept rest
    pub within : place ≤ length s

  module _ {s : List ℕ} {whole rest : Read (List A)} {Kept : List A → Type 0} {place : ℕ} where
    -- the row begins
    pub walked_none : whole ≡ rest → Kept [] → place ≤ length s → Walked s whole Kept rest place
    walked_none e k h = record { so_far = so_far_none e k; within = h }

    -- one more item is read
    pub walked_more : {Kept' : List A → Type 0} {P : A → Type 0} {next : ℕ} {r : Read A} {after : A → ℕ → Read (List A)}
        → Walked s whole Kept rest place → Due rest r after → (w : WholeFrom P s next r)
        → ((done : List A) → Kept done → Kept' (done ++ (w.item ∷ []))) → Walked s whole Kept' (after w.item next) next
    walked_more {next = next} {after = after} g d w k =
        let step : rest ≡ with_item w.item (after w.item next) = rw (d.due, w.said) refl in
        record { so_far = so_far_more w.item g.so_far step k; within = w.within }

module _ {A : Type 0} (item_from : ℕ → ℕ → Read A) (total : ℕ) where
  -- After i of so many items of one kind, what is still to be read.
  abbrev pub many_left : ℕ → ℕ → Read (List A)
  many_left i place = many item_from (total - i) (suc i) place

  pub many_begun : (place : ℕ) → many item_from total 1 place ≡ many_left 0 place
  many_begun place = rw sub-zero refl

  many_due : (i place : ℕ) → i < total → Due (many_left i place) (item_from (i + 1) place) (λ a next. many_left (i + 1) next)
  unfolding many
  many_due i place l =
      let left : total - i ≡ suc (total - (i + 1)) = omega arith in
      record { due = rw (left, ← (add-one i)) refl }

  many_over : (i place : ℕ) → total ≤ i → many_left i place ≡ value [] place
  unfolding many
  many_over i place l = let left : total - i ≡ 0 = omega arith in rw left refl

-- A loop over so many items of one kind: one more of them, and what they come to where one is refused and where all are read.
module _ {A : Type 0} (item_from : ℕ → ℕ → Read A) (s : List ℕ) (total from i place : ℕ) {Kept : List A → Type 0}
    (g : Walked s (many item_from total 1 from) Kept (many_left item_from total i place) place) where
  pub many_more : {Kept' : List A → Type 0} {P : A → Type 0} {next : ℕ} → i < total
      → (w : WholeFrom P s next (item_from (i + 1) place)) → ((done : List A) → Kept done → Kept' (done ++ (w.item ∷ [])))
      → Walked s (many item_from total 1 from) Kept' (many_left item_from total (i + 1) next) next
  many_more l w k = walked_more g (many_due item_from total i place l) w k

  -- one of them is refused
  pub many_refused : {number p : ℕ} → i < total → item_from (i + 1) place ≡ refused number p → many item_from total 1 from ≡ refused number p
  many_refused l f = so_far_refused g.so_far (due_refused (many_due item_from total i place l) f)

  -- all are read
  pub many_all : total ≤ i → many item_from total 1 from ≡ value g.so_far.done place
  many_all l = so_far_all g.so_far (many_over item_from total i place l)
