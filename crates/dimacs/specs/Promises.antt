-- What the functions that read a DIMACS CNF text keep of what its bytes mean, and what the functions that put the book are handed.
use Rattle.std.specs.Prelude.{Bool, not, ◌||◌, List, [], ◌∷◌, ◌++◌, map, ℕ, min, eqb, leb, length}
use Rattle.sets.specs.Sets.{disjoint}
use Rattle.literals.specs.Literal.{Literal, literals_of}
use Rattle.literals.specs.declared.LiteralSet.{LiteralSet}
use Rattle.records.specs.Limits.{max_literals}
use Rattle.records.specs.Format.{HD, EN}
use Rattle.records.specs.Promises.{masks}
use Rattle.dimacs.specs.Text.{Formula, Counts, is_blank, is_line_end, is_gap, is_digit, is_first_digit}
use Rattle.dimacs.specs.Import.{kept_of, choices_of, costs_bytes, rules_bytes}
use Rattle.dimacs.specs.declared.bytes.Class.{Class}
use Rattle.dimacs.specs.declared.numbers.Number.{Number}
use Rattle.dimacs.specs.declared.numbers.Signed.{Signed}
use Rattle.dimacs.specs.declared.head.Head.{Head}
use Rattle.dimacs.specs.declared.clauses.Clause.{Clause}
use Rattle.dimacs.specs.declared.clauses.Clauses.{Clauses}
use Rattle.dimacs.specs.declared.Formula as kept

-- Whether a byte is of a class.
abbrev pub belongs : Class → ℕ → Bool
belongs (Class.Is c) b = eqb b c
belongs Class.Blank b = is_blank b
belongs Class.Gap b = is_gap b
belongs Class.InLine b = not (is_line_end b)
belongs Class.Digit b = is_digit b
belongs Class.FirstDigit b = is_first_digit b

-- ---- what is kept of what was read (`read_answer`, records/specs/Promises), each with the place after it

-- A number that was read.
abbrev pub number_read : ℕ → ℕ → Number
number_read n next = record { value = n; next = next }

-- A number this large is over every limit: the code tells no larger ones apart.
abbrev pub too_large : ℕ
too_large = 1000

abbrev pub capped : ℕ → ℕ → Number
capped n next = number_read (min n too_large) next

-- A literal of a clause, or the closing 0.
abbrev pub literal_read : Literal → ℕ → Signed
literal_read l next = record { literal = l; next = next }

-- The literals of a clause as two masks.
abbrev pub clause_read : List Literal → ℕ → Clause
clause_read c next = record { set = masks c; next = next }

-- V and R.
abbrev pub head_read : Counts → ℕ → Head
head_read h next = record { variables = h.variables; clauses = h.clauses; next = next }

-- Clauses as two masks each: those that are kept.
abbrev pub kept_masks : List (List Literal) → List LiteralSet
kept_masks cs = map masks (kept_of cs)

abbrev pub clauses_read : List (List Literal) → ℕ → Clauses
clauses_read cs next = record { kept = record { items = kept_masks cs }; next = next }

-- V and the kept clauses of a text.
abbrev pub formula_read : Formula → ℕ → kept.Formula
formula_read f end = record { variables = f.variables; clauses = record { items = kept_masks f.clauses } }

-- V and R, as the code passes them on.
abbrev pub counts_of : Head → Counts
counts_of head = record { variables = head.variables; clauses = head.clauses }

-- ---- a clause as two masks

-- It holds a literal and its opposite.
unfoldable pub clashes : LiteralSet → Bool
clashes set = not (disjoint set.yes set.no)

-- The rule that it is: its literals in rising order.
abbrev pub set_rule : LiteralSet → List Literal
set_rule set = literals_of set.yes set.no

-- It is dropped, or has few enough literals left.
unfoldable pub allowed : LiteralSet → Bool
allowed set = clashes set || leb (length (set_rule set)) max_literals

-- ---- the bytes of the book, as they are put

abbrev pub head_bytes : ℕ → ℕ → ℕ → List ℕ
head_bytes v u r = HD ++ (v ∷ u ∷ r ∷ [])

unfoldable pub written_bytes : ℕ → List LiteralSet → List ℕ
written_bytes v rules =
    head_bytes v (choices_of v) (length rules) ++ (costs_bytes (choices_of v) 1 ++ (rules_bytes (map set_rule rules) ++ EN))
