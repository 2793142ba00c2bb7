-- How a list is kept in the rows of an array: its entries first, and blank rows after them.
use Rattle.std.specs.Prelude.{◌≡◌, ℕ, ◌-◌, ◌≤◌, List, ◌++◌, length, drop, replicate}
use Rattle.dates.specs.declared.Applies.TheVariants as Applies
use Rattle.records.specs.declared.Rule as kept

module _ {A : Type 0} (most : ℕ) (blank : A) where
  -- The first so many rows are the entries of a list, and the rest of the array is blank: no two arrays hold the same list.
  pub record RowsKept (count : ℕ) (rows : List A) : Type 0 where
    pub few : count ≤ most
    pub room : length rows ≡ most
    pub rest : drop count rows ≡ replicate (most - count) blank

  -- The rows that keep a list.
  abbrev pub rows_of : List A → List A
  rows_of entries = entries ++ replicate (most - length entries) blank

-- The row of a book's rules that holds none.
abbrev pub no_rule : kept.Rule
no_rule = record { literals = record { yes = 0; no = 0 }; applies = Applies.Always }
