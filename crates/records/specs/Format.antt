-- What the bytes of a book mean: the book, or the refusal with its number and place. This follows document 01, "The book" and
-- "Where each check is made", record by record; each record is read from the part of the bytes that begins at its mark.
use Rattle.std.specs.Prelude.{Bool, true, false, cond, ◌&&◌, List, [], ◌∷◌, map, ℕ, zero, suc, ◌+◌, ◌*◌, leb, ltb, eqb, length, get_or, take, drop}
use Rattle.literals.specs.Literal.{Literal, variable, of_byte}
use Rattle.literals.specs.Truth.{yes_mask, no_mask}
use Rattle.literals.specs.declared.LiteralSet.{LiteralSet}
use Rattle.dates.specs.Windows.{is_window}
use Rattle.dates.specs.declared.Date.{Date}
use Rattle.dates.specs.declared.Window.{Window}
use Rattle.dates.specs.declared.Applies.{Applies}
use Rattle.records.specs.Limits.{max_variables, max_choices, max_rules, max_cost, max_literals, window_size}

-- ---- what a book says

-- The counts of the header: V, U and R.
pub record Header : Type 0 where
  pub variables : ℕ
  pub choices : ℕ
  pub rules : ℕ

-- The cost of a choice's yes and of its no.
pub record Cost : Type 0 where
  pub of_yes : ℕ
  pub of_no : ℕ

-- A rule: the literals that stand in it, and when it applies.
pub record Rule : Type 0 where
  pub literals : List Literal
  pub applies : Applies

-- A rule that always applies.
abbrev pub always : List Literal → Rule
always ls = record { literals = ls; applies = Applies.Always }

-- An order book: V, U and R, the costs of choices 1 to U, the R rules, the given facts.
pub record OrderBook : Type 0 where
  pub header : Header
  pub costs : List Cost
  pub rules : List Rule
  pub facts : List Literal

-- ---- how it is kept

-- The costs of a choice as a row: the yes first.
abbrev pub row : Cost → List ℕ
row c = c.of_yes ∷ c.of_no ∷ []

-- A list of literals as its two masks.
abbrev pub masks : List Literal → LiteralSet
masks ls = record { yes = yes_mask ls; no = no_mask ls }

-- ---- answers of a reader

-- One record, read from its mark on: what it says and how many bytes it has, or the number of the first check that fails.
pub data RecordRead (A : Type 0) : Type 0 where
  says : A → ℕ → RecordRead A
  fails : ℕ → RecordRead A

-- Several records: what they say and the place after them, or a refusal with its number and place.
pub data Read (A : Type 0) : Type 0 where
  value : A → ℕ → Read A
  refused : ℕ → ℕ → Read A

module _ {A : Type 0} where
  -- A check with its number: where it fails, the record fails with that number, and nothing after it is looked at.
  abbrev pub check : Bool → ℕ → RecordRead A → RecordRead A
  check true number rest = rest
  check false number rest = fails number

  -- What is checked first decides.
  abbrev pub checked_first : RecordRead (Unit {0}) → RecordRead A → RecordRead A
  checked_first (says u len) rest = rest
  checked_first (fails number) rest = fails number

module _ {A B : Type 0} where
  -- A record at a place, and what follows it. A failing record is refused at the place where it begins.
  abbrev pub begin : ℕ → RecordRead A → (A → ℕ → Read B) → Read B
  begin place (says a len) next = next a (place + len)
  begin place (fails number) next = refused number place

  -- Records that were read, and what follows them.
  abbrev pub and_then : Read A → (A → ℕ → Read B) → Read B
  and_then (value a place) next = next a place
  and_then (refused number place) next = refused number place

module _ {A : Type 0} where
  -- One more item, read before the others.
  abbrev pub with_item : A → Read (List A) → Read (List A)
  with_item a (value rest place) = value (a ∷ rest) place
  with_item a (refused number place) = refused number place

-- ---- bytes

-- The byte at a position.
abbrev pub byte : List ℕ → ℕ → ℕ
byte s i = get_or s i 0

-- A two-byte number, the high byte first.
unfoldable pub pair : List ℕ → ℕ → ℕ
pair s i = 256 * byte s i + byte s (i + 1)

-- The marks, two ASCII letters each.
abbrev pub HD : List ℕ
HD = 0x48 ∷ 0x44 ∷ []

abbrev pub CS : List ℕ
CS = 0x43 ∷ 0x53 ∷ []

abbrev pub RL : List ℕ
RL = 0x52 ∷ 0x4C ∷ []

abbrev pub WN : List ℕ
WN = 0x57 ∷ 0x4E ∷ []

abbrev pub FA : List ℕ
FA = 0x46 ∷ 0x41 ∷ []

abbrev pub EN : List ℕ
EN = 0x45 ∷ 0x4E ∷ []

-- Whether a part begins with a mark.
unfoldable pub marked : List ℕ → List ℕ → Bool
marked mark s = eqb (byte s 0) (byte mark 0) && eqb (byte s 1) (byte mark 1)

-- Whether a part begins with a mark, where it may be short.
unfoldable pub begins : List ℕ → List ℕ → Bool
begins mark s = leb 2 (length s) && marked mark s

-- ---- the records: mark, count byte, presence of all fields, then the field values from the left

-- The beginning of a record: its mark, and then so many bytes in all.
unfoldable pub opened : List ℕ → ℕ → List ℕ → RecordRead (Unit {0})
opened mark size s =
    check (leb 2 (length s)) 1
    (check (marked mark s) 2
    (check (leb size (length s)) 1
    (says tt size)))

-- HD: V, U, R.
unfoldable pub header_values : List ℕ → RecordRead Header
header_values s =
    check (leb (byte s 2) max_variables) 3
    (check (leb (byte s 3) max_choices) 3
    (check (leb (byte s 3) (byte s 2)) 3
    (check (leb (byte s 4) max_rules) 3
    (says (record { variables = byte s 2; choices = byte s 3; rules = byte s 4 }) 5))))

unfoldable pub header_at : List ℕ → RecordRead Header
header_at s = checked_first (opened HD 5 s) (header_values s)

-- Whether a number is a cost.
unfoldable pub is_cost : ℕ → Bool
is_cost n = leb 1 n && leb n max_cost

-- CS for the choice that is due: the choice, the cost of its yes, the cost of its no.
unfoldable pub cost_values : ℕ → List ℕ → RecordRead Cost
cost_values due s =
    check (eqb (byte s 2) due) 4
    (check (is_cost (pair s 3)) 4
    (check (is_cost (pair s 5)) 4
    (says (record { of_yes = pair s 3; of_no = pair s 5 }) 7)))

unfoldable pub cost_at : ℕ → List ℕ → RecordRead Cost
cost_at due s = checked_first (opened CS 7 s) (cost_values due s)

-- Whether the literals' variables are at most n and rise strictly from above `last`; so no literal is 0.
unfoldable pub rising : ℕ → ℕ → List Literal → Bool
rising n last [] = true
rising n last (l ∷ ls) = ltb last (variable l) && leb (variable l) n && rising n (variable l) ls

-- RL in a book of n variables: a count, 0 included, then that many literals.
unfoldable pub rule_values : ℕ → List ℕ → RecordRead (List Literal)
rule_values n s =
    check (leb (byte s 2) max_literals) 5
    (check (leb (3 + byte s 2) (length s)) 1
    (check (rising n 0 (map of_byte (take (byte s 2) (drop 3 s)))) 6
    (says (map of_byte (take (byte s 2) (drop 3 s))) (3 + byte s 2))))

unfoldable pub rule_at : ℕ → List ℕ → RecordRead (List Literal)
rule_at n s = checked_first (opened RL 3 s) (rule_values n s)

-- A date in four bytes: its year in two of them, its month, its day.
unfoldable pub date_at : List ℕ → ℕ → Date
date_at s i = record { year = pair s i; month = byte s (i + 2); day = byte s (i + 3) }

-- WN: first day, end day, weekdays, first minute, end minute.
unfoldable pub window_fields : List ℕ → Window
window_fields s =
    record { first_day = date_at s 2; end_day = date_at s 6; weekdays = byte s 10; first_minute = pair s 11; end_minute = pair s 13 }

unfoldable pub window_values : List ℕ → RecordRead Window
window_values s =
    check (is_window (window_fields s)) 14
    (says (window_fields s) window_size)

unfoldable pub window_at : List ℕ → RecordRead Window
window_at s = checked_first (opened WN window_size s) (window_values s)

-- FA in a book of u choices, after a fact over the variable `last` (0 where there is none): one literal.
unfoldable pub fact_values : ℕ → ℕ → List ℕ → RecordRead Literal
fact_values u last s =
    check (rising u last (of_byte (byte s 2) ∷ [])) 6
    (says (of_byte (byte s 2)) 3)

unfoldable pub fact_at : ℕ → ℕ → List ℕ → RecordRead Literal
fact_at u last s = checked_first (opened FA 3 s) (fact_values u last s)

-- EN: the mark alone.
unfoldable pub end_at : List ℕ → RecordRead (Unit {0})
end_at s = opened EN 2 s

-- ---- the book: HD, then U of CS, R of RL, each with a WN after it or none, any number of FA, and EN with nothing after it

-- One CS, from a place on.
unfoldable pub cost_from : List ℕ → ℕ → ℕ → Read Cost
cost_from s due place = begin place (cost_at due (drop place s)) value

-- WN where one stands, from a place on: where none does, the rule before it always applies.
unfoldable pub window_from : List ℕ → ℕ → Read Applies
window_from s place =
    cond (begins WN (drop place s))
    (begin place (window_at (drop place s)) (λ w next. value (Applies.During w) next))
    (value Applies.Always place)

-- One RL, from a place on, and the WN that may follow it.
unfoldable pub rule_from : List ℕ → ℕ → ℕ → Read Rule
rule_from s n place =
    begin place (rule_at n (drop place s)) (λ ls place.
    and_then (window_from s place) (λ applies place.
    value (record { literals = ls; applies = applies }) place))

module _ {A : Type 0} (item_from : ℕ → ℕ → Read A) where
  -- So many items of one kind, the first of them number i, from a place on.
  unfoldable pub many : ℕ → ℕ → ℕ → Read (List A)
  many zero i place = value [] place
  many (suc left) i place = and_then (item_from i place) (λ a next. with_item a (many left (suc i) next))

-- The facts from a place on, and EN. Each FA takes three bytes, so as many turns as there are bytes are enough (`facts_enough`, book/proofs/FactLaws).
unfoldable pub facts_from : List ℕ → ℕ → ℕ → ℕ → ℕ → Read (List Literal)
facts_from s u zero last place = refused 1 place
facts_from s u (suc turns) last place =
    cond (begins FA (drop place s))
    (begin place (fact_at u last (drop place s)) (λ l next. with_item l (facts_from s u turns (variable l) next)))
    (begin place (end_at (drop place s)) (λ e next. value [] next))

-- A book ends with its last byte: a byte after EN is refused with 7, at that byte.
abbrev pub book_ends : List ℕ → ℕ → OrderBook → Read OrderBook
book_ends s place b = cond (ltb place (length s)) (refused 7 place) (value b place)

-- The book from its rules on, after the header and the costs.
unfoldable pub from_rules : List ℕ → Header → List Cost → ℕ → Read OrderBook
from_rules s h costs place =
    and_then (many (λ i. rule_from s h.variables) h.rules 1 place) (λ rules place.
    and_then (facts_from s h.choices (suc (length s)) 0 place) (λ facts place.
    book_ends s place (record { header = h; costs = costs; rules = rules; facts = facts })))

-- What the bytes s mean.
unfoldable pub read_book : List ℕ → Read OrderBook
read_book s =
    begin 0 (header_at s) (λ h place.
    and_then (many (cost_from s) h.choices 1 place) (λ costs place.
    from_rules s h costs place))
