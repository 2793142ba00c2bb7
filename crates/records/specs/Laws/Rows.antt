-- A list that is kept in the rows of an array: made with none, one entry more, and given back from its entries.
-- Assumes nothing.
use mathlib.Core.Path.{◌≡◌, sym, ap, ◌∙◌}
use mathlib.Core.List.{List, ◌++◌}
use Prim.Native.Nat.{ℕ, suc, ◌+◌, ◌-◌, ◌≤◌, ◌<◌}
use native.Mathlib.Omega.{arith}
use lib.ListN.{length, set, take, drop, replicate, length-set, length-replicate}
use Rattle.std.proofs.Common.{take-append-drop, length-take-le}
use Rattle.std.proofs.lemmas.List.{replicate-append-replicate, drop_at, drop-drop, drop-set-lt}
use Rattle.records.specs.Rows.{RowsKept, rows_of}

module _ {A : Type 0} {most : ℕ} {blank : A} where
  -- all rows are blank
  pub rows_blank : {count : ℕ} → count ≤ most → RowsKept most blank count (replicate most blank)
  rows_blank {count} l =
      let whole : replicate count blank ++ replicate (most - count) blank ≡ replicate most blank =
      replicate-append-replicate count (most - count) blank ∙ ap (λ n. replicate n blank) (omega (arith, l)) in
      record {
        few = l;
        room = length-replicate most blank;
        rest = sym (ap (drop count) whole) ∙ drop_at (replicate count blank) _ count (length-replicate count blank);
      }

  module _ {count : ℕ} {rows : List A} (k : RowsKept most blank count rows) where
    pub count_back : length (take count rows) ≡ count
    count_back = length-take-le count rows (omega (arith, k.few, k.room))

    pub rows_back : rows_of most blank (take count rows) ≡ rows
    rows_back = rw (count_back, ← k.rest) (take-append-drop count rows)

    -- there is room for an entry where the list is shorter than the most
    pub row_free : {entries : List A} → take count rows ≡ entries → length entries < most → count < most
    row_free e l = omega (arith, l, ap length e, count_back)

    pub rows_more : (entry : A) → count < most → RowsKept most blank (count + 1) (set rows count entry)
    rows_more entry l =
        let next : drop (count + 1) rows ≡ drop 1 (drop count rows) = sym (drop-drop 1 count rows) in
        let left : most - count ≡ suc (most - (count + 1)) = omega (arith, l) in
        record {
          few = omega (arith, l);
          room = length-set rows count entry ∙ k.room;
          rest = drop-set-lt (count + 1) rows count entry (omega arith) ∙ next ∙ ap (drop 1) (k.rest ∙ ap (λ n. replicate n blank) left);
        }
