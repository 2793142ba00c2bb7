-- Where the fields of a log's records stand: what the bytes say whose lists fit, whether or not they rise.
use Rattle.std.specs.Prelude.{List, map, ℕ, ◌+◌, ◌*◌, get_or, take, drop}
use Rattle.literals.specs.Literal.{of_byte}
use Rattle.log_form.specs.Format.{StepRecord}

-- The places after the facts and after the new literals of the ST record at the front of s, and the record's length.
abbrev pub facts_end : List ℕ → ℕ
facts_end s = 4 + get_or s 3 0

abbrev pub new_end : List ℕ → ℕ
new_end s = facts_end s + 1 + get_or s (facts_end s) 0

abbrev pub record_size : List ℕ → ℕ
record_size s = new_end s + 2

-- What an ST record with these bytes and this cost says.
abbrev pub of_fields : ℕ → List ℕ → List ℕ → ℕ → StepRecord
of_fields goal facts new cost = record { goal = of_byte goal; reasons = map of_byte facts; new = map of_byte new; cost = cost }

-- What the ST record at the front of s says.
unfoldable pub record_in : List ℕ → StepRecord
record_in s =
    of_fields (get_or s 2 0)
    (take (get_or s 3 0) (drop 4 s))
    (take (get_or s (facts_end s) 0) (drop (facts_end s + 1) s))
    (256 * get_or s (new_end s) 0 + get_or s (new_end s + 1) 0)

-- The total of the OK record at the front of s.
abbrev pub total_in : List ℕ → ℕ
total_in s = 16777216 * get_or s 3 0 + 65536 * get_or s 4 0 + 256 * get_or s 5 0 + get_or s 6 0
