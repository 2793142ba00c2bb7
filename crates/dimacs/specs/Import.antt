-- The book that is made of a DIMACS CNF text (document 02, E2): what it says, its bytes, and what the call answers for any text and any buffer.
use Rattle.std.specs.Prelude.{◌≡◌, cond, List, [], ◌∷◌, ◌++◌, map, ℕ, zero, suc, min, ltb, length, drop, replicate, Result, Ok, Err}
use Rattle.literals.specs.Literal.{Literal}
use Rattle.records.specs.Limits.{max_choices, max_without_facts}
use Rattle.records.specs.Format.{Read, value, refused, always, OrderBook, HD, CS, RL, EN}
use Rattle.records.specs.Refusals.{refusal_of}
use Rattle.records.specs.declared.refusal.Refusal.{Refusal}
use Rattle.log_form.specs.Format.{two_bytes, list_bytes}
use Rattle.dimacs.specs.Text.{Formula, is_dropped, rule_of, formula_of}

-- ---- what the book says

-- U: the lesser of V and the most choices that a book may have.
abbrev pub choices_of : ℕ → ℕ
choices_of v = min v max_choices

-- The clauses that are not dropped, in their order.
unfoldable pub kept_of : List (List Literal) → List (List Literal)
kept_of [] = []
kept_of (c ∷ cs) = cond (is_dropped c) (kept_of cs) (c ∷ kept_of cs)

-- The rules: each kept clause in rising order, repeats once.
unfoldable pub rules_of : List (List Literal) → List (List Literal)
rules_of cs = map rule_of (kept_of cs)

-- The book: V of the text, the lesser U, every cost 1, no windows and no facts; R is lowered by the clauses that are dropped.
unfoldable pub book_of : Formula → OrderBook
book_of f =
    record {
      header = record { variables = f.variables; choices = choices_of f.variables; rules = length (rules_of f.clauses) };
      costs = replicate (choices_of f.variables) (record { of_yes = 1; of_no = 1 });
      rules = map always (rules_of f.clauses);
      facts = [];
    }

-- ---- its bytes

-- CS of a choice: its costs are 1.
unfoldable pub cost_bytes : ℕ → List ℕ
cost_bytes choice = CS ++ (choice ∷ two_bytes 1 ++ two_bytes 1)

-- So many CS, the first of them for choice i.
unfoldable pub costs_bytes : ℕ → ℕ → List ℕ
costs_bytes zero i = []
costs_bytes (suc left) i = cost_bytes i ++ costs_bytes left (suc i)

-- RL: the count and the literals.
unfoldable pub rule_bytes : List Literal → List ℕ
rule_bytes r = RL ++ list_bytes r

unfoldable pub rules_bytes : List (List Literal) → List ℕ
rules_bytes [] = []
rules_bytes (r ∷ rs) = rule_bytes r ++ rules_bytes rs

-- HD, the CS, the RL, EN: of v variables, u choices and these rules.
unfoldable pub book_bytes : ℕ → ℕ → List (List Literal) → List ℕ
book_bytes v u rs = HD ++ (v ∷ u ∷ length rs ∷ costs_bytes u 1 ++ (rules_bytes rs ++ EN))

-- The bytes of the book of a formula.
abbrev pub imported_bytes : Formula → List ℕ
imported_bytes f = book_bytes f.variables (choices_of f.variables) (rules_of f.clauses)

-- ---- the call

-- A short buffer is refused before the text is looked at.
unfoldable pub imported : ℕ → List ℕ → Read Formula
imported room s = cond (ltb room max_without_facts) (refused 8 0) (formula_of s)

-- The answer: the book's length, or the refusal.
unfoldable pub import_answer : Read Formula → Result ℕ Refusal
import_answer (value f end) = Ok (length (imported_bytes f))
import_answer (refused number place) = Err (refusal_of number place)

-- The buffer at exit: the book and then the old bytes, or as it was.
unfoldable pub buffer_after : Read Formula → List ℕ → List ℕ
buffer_after (value f end) before = imported_bytes f ++ drop (length (imported_bytes f)) before
buffer_after (refused number place) before = before

-- What the call says, of what it is to import.
pub record ImportedAs (m : Read Formula) (before after : List ℕ) (r : Result ℕ Refusal) : Type 0 where
  pub answered : r ≡ import_answer m
  pub buffer : after ≡ buffer_after m before
