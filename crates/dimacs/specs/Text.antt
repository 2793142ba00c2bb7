-- What a DIMACS CNF text means (document 01, "DIMACS CNF text"; document 02, E2): V and the clauses as the file has them, or the refusal with its number
-- and place. It follows document 01's sentences. Where two checks could fail, the one that is met first in the text decides: `and_then` looks at nothing
-- after a refusal.
use Rattle.std.specs.Prelude.{Bool, cond, not, ◌&&◌, ◌||◌, List, [], ◌∷◌, ℕ, zero, suc, ◌+◌, ◌-◌, ◌*◌, leb, ltb, eqb, pos, negsuc, length, take, drop}
use Rattle.sets.specs.Sets.{disjoint}
use Rattle.literals.specs.Literal.{Literal, variable, literals_of}
use Rattle.literals.specs.Truth.{yes_mask, no_mask}
use Rattle.sat.specs.Meaning.{obeys_rules}
use Rattle.records.specs.Limits.{max_variables, max_rules, max_literals}
use Rattle.records.specs.Format.{Read, value, refused, and_then, with_item, byte}

-- ---- what a text says

-- V, and the R clauses as the literals that stand in them, repeats and opposites included.
pub record Formula : Type 0 where
  pub variables : ℕ
  pub clauses : List (List Literal)

-- A filling satisfies it if it makes a literal of every clause true.
unfoldable pub satisfies : ℕ → Formula → Bool
satisfies g f = obeys_rules g f.clauses

-- A clause that holds a literal and its opposite is dropped: some variable that it says yes of it also says no of.
unfoldable pub is_dropped : List Literal → Bool
is_dropped c = not (disjoint (yes_mask c) (no_mask c))

-- The literals of a clause in rising order, repeats kept once.
unfoldable pub rule_of : List Literal → List Literal
rule_of c = literals_of (yes_mask c) (no_mask c)

-- ---- bytes

-- A blank is 20, 09 or 0D.
unfoldable pub is_blank : ℕ → Bool
is_blank b = eqb b 0x20 || eqb b 0x09 || eqb b 0x0D

-- A line end is 0A.
unfoldable pub is_line_end : ℕ → Bool
is_line_end b = eqb b 0x0A

-- A blank or a line end.
unfoldable pub is_gap : ℕ → Bool
is_gap b = is_blank b || is_line_end b

-- A digit, and a digit from 1 to 9.
unfoldable pub is_digit : ℕ → Bool
is_digit b = leb 0x30 b && leb b 0x39

unfoldable pub is_first_digit : ℕ → Bool
is_first_digit b = leb 0x31 b && leb b 0x39

-- This byte.
abbrev pub is : ℕ → ℕ → Bool
is c b = eqb b c

-- How many of the first bytes pass a test.
unfoldable pub run : (ℕ → Bool) → List ℕ → ℕ
run test [] = 0
run test (b ∷ s) = cond (test b) (suc (run test s)) 0

-- The number that digits are, after the digits of n.
unfoldable pub numeral : ℕ → List ℕ → ℕ
numeral n [] = n
numeral n (b ∷ digits) = numeral (10 * n + (b - 0x30)) digits

-- The number -n.
abbrev pub opposite : ℕ → Literal
opposite zero = pos zero
opposite (suc n) = negsuc n

-- ---- the form, from a place on; a byte that is not of the form is refused with 12, where it stands

module _ (s : List ℕ) where
  -- A byte that passes a test stands at a place.
  unfoldable pub stands : (ℕ → Bool) → ℕ → Bool
  stands test place = ltb place (length s) && test (byte s place)

  -- The place after the bytes that pass a test.
  unfoldable pub after : (ℕ → Bool) → ℕ → ℕ
  after test place = place + run test (drop place s)

  -- One or more bytes that pass a test.
  unfoldable pub one_or_more : (ℕ → Bool) → ℕ → Read (Unit {0})
  one_or_more test place = cond (stands test place) (value tt (after test place)) (refused 12 place)

  -- These bytes.
  unfoldable pub word : List ℕ → ℕ → Read (Unit {0})
  word [] place = value tt place
  word (b ∷ bs) place = cond (stands (is b) place) (word bs (suc place)) (refused 12 place)

  -- A line, up to its line end.
  unfoldable pub line : ℕ → Read (Unit {0})
  line place =
      cond (ltb (after (λ b. not (is_line_end b)) place) (length s))
      (value tt (suc (after (λ b. not (is_line_end b)) place)))
      (refused 12 (after (λ b. not (is_line_end b)) place))

  -- Lines that begin with c, each ended by 0A, are skipped. Each has a byte or more, so as many turns as there are bytes are enough (`comments_enough`,
  -- proofs/HeadLaws).
  unfoldable pub comments : ℕ → ℕ → Read (Unit {0})
  comments zero place = refused 12 place
  comments (suc turns) place = cond (stands (is 0x63) place) (and_then (line place) (λ u next. comments turns next)) (value tt place)

  -- A number is 0, or digits that do not begin with 0.
  unfoldable pub number : ℕ → Read ℕ
  number place =
      cond (stands (is 0x30) place) (value 0 (suc place))
      (cond (stands is_first_digit place) (value (numeral 0 (take (run is_digit (drop place s)) (drop place s))) (after is_digit place))
      (refused 12 place))

  -- A number, judged at its last digit: one over `most` is refused with this refusal's number and place.
  unfoldable pub number_up_to : ℕ → ℕ → ℕ → ℕ → Read ℕ
  number_up_to most refusal at place = and_then (number place) (λ n next. cond (leb n most) (value n next) (refused refusal at))

  -- V, or R: a larger one is refused with 13, where it begins.
  unfoldable pub limited : ℕ → ℕ → Read ℕ
  limited most place = number_up_to most 13 place place

  -- A literal is a number from 1 to V, with - before it for no; one over V is wrong at its first byte. A 0 closes a clause.
  unfoldable pub signed : ℕ → ℕ → Read Literal
  signed v place =
      cond (stands (is 0x2D) place)
      (cond (stands is_first_digit (suc place))
      (and_then (number_up_to v 12 place (suc place)) (λ n next. value (opposite n) next))
      (refused 12 (suc place)))
      (and_then (number_up_to v 12 place place) (λ n next. value (pos n) next))

  -- Numbers after R are parted from R and from each other by blanks or line ends.
  unfoldable pub next_signed : ℕ → ℕ → Read Literal
  next_signed v place = and_then (one_or_more is_gap place) (λ u next. signed v next)

  -- The literals of a clause and its closing 0. Each has a byte or more, so as many turns as there are bytes are enough (`literals_enough`,
  -- proofs/ClauseLaws).
  unfoldable pub literals_from : ℕ → ℕ → ℕ → Read (List Literal)
  literals_from v zero place = refused 12 place
  literals_from v (suc turns) place =
      and_then (next_signed v place) (λ l next. cond (eqb (variable l) 0) (value [] next) (with_item l (literals_from v turns next)))

  -- A clause, judged at its closing 0: with too many literals left it is refused with 13, where it begins, unless it is dropped.
  unfoldable pub clause_from : ℕ → ℕ → Read (List Literal)
  clause_from v place =
      and_then (literals_from v (suc (length s)) place) (λ c next.
      cond (is_dropped c || leb (length (rule_of c)) max_literals) (value c next) (refused 13 (after is_gap place)))

  -- So many clauses.
  unfoldable pub clauses_from : ℕ → ℕ → ℕ → Read (List (List Literal))
  clauses_from v zero place = value [] place
  clauses_from v (suc left) place = and_then (clause_from v place) (λ c next. with_item c (clauses_from v left next))

  -- Blanks and line ends may follow; nothing else may.
  unfoldable pub text_ends : ℕ → Formula → Read Formula
  text_ends place f = cond (ltb (after is_gap place) (length s)) (refused 12 (after is_gap place)) (value f (after is_gap place))

-- ---- the text: comment lines, then `p cnf V R`, parted by blanks, then R clauses

-- `p` and `cnf`.
abbrev pub P : List ℕ
P = 0x70 ∷ []

abbrev pub CNF : List ℕ
CNF = 0x63 ∷ 0x6E ∷ 0x66 ∷ []

-- V and R.
pub record Counts : Type 0 where
  pub variables : ℕ
  pub clauses : ℕ

-- R, after V.
unfoldable pub count_from : List ℕ → ℕ → ℕ → Read Counts
count_from s v place = and_then (limited s max_rules place) (λ r place. value (record { variables = v; clauses = r }) place)

-- V, blanks, R.
unfoldable pub counts_from : List ℕ → ℕ → Read Counts
counts_from s place =
    and_then (limited s max_variables place) (λ v place.
    and_then (one_or_more s is_blank place) (λ u place.
    count_from s v place))

-- A word, and blanks.
unfoldable pub word_and_blanks : List ℕ → List ℕ → ℕ → Read (Unit {0})
word_and_blanks s w place = and_then (word s w place) (λ u place. one_or_more s is_blank place)

-- All before the clauses.
unfoldable pub head_of : List ℕ → Read Counts
head_of s =
    and_then (comments s (suc (length s)) 0) (λ u place.
    and_then (word_and_blanks s P place) (λ u place.
    and_then (word_and_blanks s CNF place) (λ u place.
    counts_from s place)))

-- The R clauses and the end.
unfoldable pub body_from : List ℕ → Counts → ℕ → Read Formula
body_from s h place =
    and_then (clauses_from s h.variables h.clauses place) (λ cs place.
    text_ends s place (record { variables = h.variables; clauses = cs }))

-- What the bytes s mean.
unfoldable pub formula_of : List ℕ → Read Formula
formula_of s = and_then (head_of s) (λ h place. body_from s h place)
