-- Worked texts, and what they mean, computed.
use Rattle.std.specs.Prelude.{◌≡◌, refl, List, [], ◌∷◌, map, ℕ, pos, negsuc}
use Prim.Native.String.{String}
use Rattle.std.specs.Int.Count.{ones}
use Rattle.sets.specs.Sets.{bit, has, disjoint, members_from, members_below, members}
use Rattle.literals.specs.Literal.{Literal, variable, byte_of, literals_of}
use Rattle.literals.specs.Truth.{yes_bit, no_bit, yes_mask, no_mask}
use Rattle.records.specs.Format.{Read, value, refused}
use Rattle.log_form.specs.Format.{two_bytes, list_bytes}
use Rattle.dimacs.specs.Ascii.{ascii}
use Rattle.dimacs.specs.Text.{Formula, is_dropped, rule_of, is_blank, is_line_end, is_gap, is_digit, is_first_digit, run, numeral, stands, after}
use Rattle.dimacs.specs.Text.{one_or_more, word, line, comments, number, number_up_to, limited, signed, next_signed, literals_from, clause_from}
use Rattle.dimacs.specs.Text.{clauses_from, text_ends, count_from, counts_from, word_and_blanks, head_of, body_from, formula_of}
use Rattle.dimacs.specs.Import.{kept_of, rules_of, cost_bytes, costs_bytes, rule_bytes, rules_bytes, book_bytes, imported_bytes, imported}

-- ---- what texts mean

-- A text, and what it means.
pub record TextMeaning : Type 0 where
  pub text : String
  pub meaning : Read Formula

-- A text of these clauses over v variables, taken to its end.
abbrev takes : String → ℕ → List (List Literal) → ℕ → TextMeaning
takes t v cs end = record { text = t; meaning = value (record { variables = v; clauses = cs }) end }

-- A text that is refused with this number, at this place.
abbrev refuses : String → ℕ → ℕ → TextMeaning
refuses t number place = record { text = t; meaning = refused number place }

unfoldable pub rows : List TextMeaning
rows =
    -- comment lines, and numbers parted by blanks and line ends
    takes "c papers\nc\np cnf 2 1\n1 -2 0\n" 2 ((pos 1 ∷ negsuc 1 ∷ []) ∷ []) 28
    ∷ takes "p\t cnf 2 2\r\n2 1\n\n2\t0\n0" 2 ((pos 2 ∷ pos 1 ∷ pos 2 ∷ []) ∷ [] ∷ []) 22
    -- R 0 and V 0, and what may follow
    ∷ takes "p cnf 2 0 \r\n\t" 2 [] 13
    ∷ takes "p cnf 0 0" 0 [] 9
    -- a text that ends too soon is wrong at its length
    ∷ refuses "" 12 0
    ∷ refuses "c no line end" 12 13
    ∷ refuses "p cnf 2 1 1" 12 11
    ∷ refuses "p cnf 2 1 -" 12 11
    -- comment lines come first, and only blanks stand between p, cnf, V and R
    ∷ refuses "p cnf 2 1\nc late\n1 0" 12 10
    ∷ refuses "\np cnf 2 0" 12 0
    ∷ refuses "p\ncnf 2 0" 12 1
    ∷ refuses "p cnx 2 0" 12 4
    -- a number is judged at its last digit, before the byte after it
    ∷ refuses "p cnf 49x" 13 6
    ∷ refuses "p cnf 48x" 12 8
    ∷ refuses "p cnf 33x" 12 8
    ∷ refuses "p cnf 99999999999999999999999999999999 1" 13 6
    ∷ refuses "p cnf 2 129" 13 8
    -- after a 0 no digit belongs to it
    ∷ refuses "p cnf 02 1" 12 7
    ∷ refuses "p cnf 2 1 00" 12 11
    -- literals: over V, and the byte after a -
    ∷ refuses "p cnf 2 1 1 3 0" 12 12
    ∷ refuses "p cnf 2 1 1 -3x" 12 12
    ∷ refuses "p cnf 2 1 -0" 12 11
    ∷ refuses "p cnf 2 1 +1" 12 10
    -- nothing follows the last clause
    ∷ refuses "p cnf 2 1 1 0 2 0" 12 14
    -- nine literals are too many, at the clause's first byte and its closing 0; not with repeats, and not where the clause is dropped
    ∷ refuses "p cnf 9 1 1 2 3 4 5 6 7 8 9 0" 13 10
    ∷ refuses "p cnf 9 1 1 2 3 4 5 6 7 8 9 x" 12 28
    ∷ takes "p cnf 9 1 1 2 3 4 5 6 7 8 8 0" 9 ((pos 1 ∷ pos 2 ∷ pos 3 ∷ pos 4 ∷ pos 5 ∷ pos 6 ∷ pos 7 ∷ pos 8 ∷ pos 8 ∷ []) ∷ []) 29
    ∷ takes "p cnf 9 1 1 2 3 4 5 6 7 8 9 -9 0" 9 ((pos 1 ∷ pos 2 ∷ pos 3 ∷ pos 4 ∷ pos 5 ∷ pos 6 ∷ pos 7 ∷ pos 8 ∷ pos 9 ∷ negsuc 8 ∷ []) ∷ []) 32
    ∷ []

pub rows_agree : map (λ (r : TextMeaning). formula_of (ascii r.text)) rows ≡ map (λ (r : TextMeaning). r.meaning) rows
unfolding rows ascii formula_of body_from head_of word_and_blanks counts_from count_from text_ends clauses_from clause_from literals_from next_signed signed limited
    number_up_to number comments line word one_or_more after stands numeral run is_first_digit is_digit is_gap is_line_end is_blank rule_of is_dropped literals_of
    members members_below members_from disjoint has bit variable yes_mask no_mask yes_bit no_bit ones
rows_agree = refl

-- ---- the book of a text

-- The bytes that a formula's book has.
abbrev bytes_of : Read Formula → List ℕ
bytes_of (value f end) = imported_bytes f
bytes_of (refused number place) = []

-- Literals in rising order, repeats once; clauses in their order; the clause with 1 and -1 dropped and R lowered; no literals: a count of 0.
pub book_agrees : bytes_of (formula_of (ascii "p cnf 3 4\n3 -1 3 0\n2 1 -1 0\n0\n-2 0\n")) ≡
    0x48 ∷ 0x44 ∷ 0x03 ∷ 0x03 ∷ 0x03 ∷ 0x43 ∷ 0x53 ∷ 0x01 ∷ 0x00 ∷ 0x01 ∷ 0x00 ∷ 0x01 ∷
    0x43 ∷ 0x53 ∷ 0x02 ∷ 0x00 ∷ 0x01 ∷ 0x00 ∷ 0x01 ∷ 0x43 ∷ 0x53 ∷ 0x03 ∷ 0x00 ∷ 0x01 ∷ 0x00 ∷ 0x01 ∷
    0x52 ∷ 0x4C ∷ 0x02 ∷ 0xFF ∷ 0x03 ∷ 0x52 ∷ 0x4C ∷ 0x00 ∷ 0x52 ∷ 0x4C ∷ 0x01 ∷ 0xFE ∷ 0x45 ∷ 0x4E ∷ []
unfolding ascii formula_of body_from head_of word_and_blanks counts_from count_from text_ends clauses_from clause_from literals_from next_signed signed limited
    number_up_to number comments line word one_or_more after stands numeral run is_first_digit is_digit is_gap is_line_end is_blank rule_of is_dropped literals_of
    members members_below members_from disjoint has bit variable yes_mask no_mask yes_bit no_bit ones
    rules_of kept_of book_bytes costs_bytes cost_bytes rules_bytes rule_bytes two_bytes list_bytes byte_of
book_agrees = refl

-- A buffer of 1,638 bytes is too short, before the text is looked at; one of 1,639 serves.
pub short_buffer : imported 1638 (ascii "x") ≡ refused 8 0
unfolding imported
short_buffer = refl

pub long_buffer : imported 1639 (ascii "x") ≡ refused 12 0
unfolding imported ascii formula_of head_of word_and_blanks comments word stands
long_buffer = refl
