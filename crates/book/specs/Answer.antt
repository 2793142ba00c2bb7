-- What the reader's calls answer for each meaning of the bytes: document 01's check and place for a refusal, and the book as it is kept.
use Rattle.std.specs.Prelude.{List, [], ◌∷◌, ◌++◌, map, ℕ, ◌-◌, length, replicate, Result}
use Rattle.literals.specs.Truth.{yes_mask, no_mask}
use Rattle.records.specs.Limits.{max_choices}
use Rattle.records.specs.Format.{Cost, Rule, OrderBook, row, masks, Read, value, refused}
use Rattle.records.specs.Refusals.{read_answer}
use Rattle.records.specs.declared.Book.{Book}
use Rattle.records.specs.declared.Rule as kept
use Rattle.records.specs.declared.refusal.Refusal.{Refusal}

module _ {A : Type 0} where
  -- A list, and d after it up to n entries.
  unfoldable pub padded : A → ℕ → List A → List A
  padded d n xs = xs ++ replicate (n - length xs) d

-- The mask of the variables that a rule says yes of, and that of those that it says no of.
abbrev pub rule_yes : Rule → ℕ
rule_yes r = yes_mask r.literals

abbrev pub rule_no : Rule → ℕ
rule_no r = no_mask r.literals

-- A rule as it is kept: its literals as two masks, and when it applies.
abbrev pub kept_rule : Rule → kept.Rule
kept_rule r = record { literals = masks r.literals; applies = r.applies }

-- Rules as they are kept, in their order.
abbrev pub kept_rules : List Rule → List kept.Rule
kept_rules rs = map kept_rule rs

-- The costs as rows of two: row by variable, column by sign. Rows of 0 after the last choice.
unfoldable pub table : List Cost → List (List ℕ)
table cs = padded (0 ∷ 0 ∷ []) max_choices (map row cs)

-- An order book as it is kept: its costs as a table, its rules and facts as masks.
abbrev pub masked_book : OrderBook → Book
masked_book b =
    record {
      variables = b.header.variables;
      choices = b.header.choices;
      costs = table b.costs;
      rules = kept_rules b.rules;
      facts = masks b.facts;
    }

-- The answer of the reader: the book where it is accepted, document 01's check and place where it is refused.
unfoldable pub book_answer : Read OrderBook → Result Book Refusal
book_answer m = read_answer (λ b end. masked_book b) m

-- The table of a book; all rows are 0 where it is refused.
unfoldable pub table_answer : {A : Type 0} → (A → List Cost) → Read A → List (List ℕ)
table_answer costs (value a place) = table (costs a)
table_answer costs (refused number place) = table []
