-- The log's form (document 01, "The log"): what a log says, over lists of literals, its bytes, and how bytes are read as a log.
use Rattle.std.specs.Prelude.{Bool, true, cond, ◌&&◌, List, [], ◌∷◌, ◌++◌, map, ℕ, zero, suc, ◌+◌, ◌-◌, ◌*◌, ◌/◌, ◌%◌, eqb, leb, ltb, length, get_or, take, drop}
use Rattle.sets.specs.Sets.{has}
use Rattle.literals.specs.Literal.{Literal, variable, of_byte, byte_of}
use Rattle.records.specs.Limits.{ok_size}

-- ---- what a log says

-- An ST record: its goal, its reasons (the facts in the record), its new literals and its cost.
pub record StepRecord : Type 0 where
  pub goal : Literal
  pub reasons : List Literal
  pub new : List Literal
  pub cost : ℕ

-- A log: its ST records, and the steps counted and the total of its OK.
pub record Log : Type 0 where
  pub records : List StepRecord
  pub steps : ℕ
  pub total : ℕ

-- ---- its bytes

-- The marks, two ASCII letters each.
abbrev pub ST : List ℕ
ST = 0x53 ∷ 0x54 ∷ []

abbrev pub OK : List ℕ
OK = 0x4F ∷ 0x4B ∷ []

-- A number in two bytes, the high byte first, and in four.
unfoldable pub two_bytes : ℕ → List ℕ
two_bytes n = n / 256 % 256 ∷ n % 256 ∷ []

unfoldable pub four_bytes : ℕ → List ℕ
four_bytes n = n / 16777216 % 256 ∷ n / 65536 % 256 ∷ n / 256 % 256 ∷ n % 256 ∷ []

-- A list of literals: their number, and their bytes.
unfoldable pub list_bytes : List Literal → List ℕ
list_bytes ls = length ls ∷ map byte_of ls

-- An ST record: goal literal, number of facts, the facts, number of new literals, the new literals, the cost in two bytes.
unfoldable pub record_bytes : StepRecord → List ℕ
record_bytes r = ST ++ (byte_of r.goal ∷ list_bytes r.reasons ++ list_bytes r.new ++ two_bytes r.cost)

-- The ST records, one after the other.
unfoldable pub records_bytes : List StepRecord → List ℕ
records_bytes [] = []
records_bytes (r ∷ rs) = record_bytes r ++ records_bytes rs

-- The OK record: the number of steps in one byte, the sum of the step costs in four.
unfoldable pub ok_bytes : ℕ → ℕ → List ℕ
ok_bytes steps total = OK ++ (steps ∷ four_bytes total)

-- A log: ST records, one OK and no byte more.
unfoldable pub log_bytes : Log → List ℕ
log_bytes l = records_bytes l.records ++ ok_bytes l.steps l.total

-- ---- bytes read as a log

-- What the first bytes say, with the bytes after them, or that they are not of the form.
pub data Parsed (A : Type 0) : Type 0 where
  parsed : A → List ℕ → Parsed A
  malformed : Parsed A

module _ {A B : Type 0} where
  -- What is parsed first, and then what follows it.
  abbrev pub and_parse : Parsed A → (A → List ℕ → Parsed B) → Parsed B
  and_parse (parsed a rest) next = next a rest
  and_parse malformed next = malformed

-- So many bytes.
unfoldable pub parse_bytes : ℕ → List ℕ → Parsed (List ℕ)
parse_bytes n s = cond (leb n (length s)) (parsed (take n s) (drop n s)) malformed

-- Whether the bytes begin with a mark.
unfoldable pub begins : List ℕ → List ℕ → Bool
begins mark s = leb 2 (length s) && eqb (get_or s 0 0) (get_or mark 0 0) && eqb (get_or s 1 0) (get_or mark 1 0)

-- Whether the literals' variables rise strictly from above `last` and are choices; element v of the choices stands for variable v + 1.
unfoldable pub rising_over : ℕ → ℕ → List Literal → Bool
rising_over choices last [] = true
rising_over choices last (l ∷ ls) = ltb last (variable l) && has choices (variable l - 1) && rising_over choices (variable l) ls

-- A list of literals: its number, and then so many literals, strictly rising over variables of choices.
unfoldable pub parse_list : ℕ → List ℕ → Parsed (List Literal)
parse_list choices s =
    and_parse (parse_bytes 1 s) (λ n rest.
    and_parse (parse_bytes (get_or n 0 0) rest) (λ ls rest.
    cond (rising_over choices 0 (map of_byte ls)) (parsed (map of_byte ls) rest) malformed))

-- An ST record.
unfoldable pub parse_record : ℕ → List ℕ → Parsed StepRecord
parse_record choices s =
    and_parse (parse_bytes 3 s) (λ head rest.
    and_parse (parse_list choices rest) (λ reasons rest.
    and_parse (parse_list choices rest) (λ new rest.
    and_parse (parse_bytes 2 rest) (λ cost rest.
    parsed (record { goal = of_byte (get_or head 2 0); reasons = reasons; new = new; cost = 256 * get_or cost 0 0 + get_or cost 1 0 }) rest))))

-- What bytes are read as: a log, or that from a place on they are not in log form. The place is where the first record that is not of the form
-- begins or should begin, or that of a byte after OK.
pub data LogRead : Type 0 where
  is_log : Log → LogRead
  not_log : ℕ → LogRead

-- One ST record more, before the others.
abbrev pub with_record : StepRecord → LogRead → LogRead
with_record r (is_log l) = is_log (record { records = r ∷ l.records; steps = l.steps; total = l.total })
with_record r (not_log place) = not_log place

-- The OK record at a place, and no byte more.
unfoldable pub read_end : ℕ → List ℕ → LogRead
read_end place s =
    cond (begins OK s && leb ok_size (length s))
    (cond (eqb (length s) ok_size)
    (is_log (record { records = []; steps = get_or s 2 0; total = 16777216 * get_or s 3 0 + 65536 * get_or s 4 0 + 256 * get_or s 5 0 + get_or s 6 0 }))
    (not_log (place + ok_size)))
    (not_log place)

-- ST records from a place on, and OK. Each ST record has a byte or more, so as many turns as there are bytes are enough.
unfoldable pub read_records : ℕ → ℕ → ℕ → List ℕ → LogRead
read_records choices zero place s = not_log place
read_records choices (suc turns) place s =
    cond (begins ST s)
    (elim (parse_record choices s) [
      | parsed r rest ↦ with_record r (read_records choices turns (place + (length s - length rest)) rest)
      | malformed ↦ not_log place
    ])
    (read_end place s)

-- The log in these bytes.
unfoldable pub read_log : ℕ → List ℕ → LogRead
read_log choices s = read_records choices (suc (length s)) 0 s
