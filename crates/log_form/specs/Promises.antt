-- What the functions that put a log's records ask and say.
use Rattle.std.specs.Prelude.{◌≡◌, List, ◌++◌, ℕ, ◌+◌, length, drop}
use Rattle.std.proofs.lemmas.List.Edits.{sets}
use Rattle.sets.specs.Sets.{has}
use Rattle.literals.specs.Literal.{byte_of, literal_of, literals_of}
use Rattle.log_form.specs.Format.{StepRecord}
use Rattle.log_form.specs.declared.Step.{Step}

-- The byte of a set's literal over variable v + 1, where the set says yes of `on`.
abbrev pub member_byte : ℕ → ℕ → ℕ
member_byte on v = byte_of (literal_of v (has on v))

-- Bytes are stored one after the other from a place on, every other byte is as it was, and r is the place after them.
pub record Put (before : List ℕ) (at : ℕ) (bytes after : List ℕ) (r : ℕ) : Type 0 where
  pub stored : after ≡ sets before at bytes
  pub place : r ≡ at + length bytes

-- The ST record of a step.
abbrev pub record_of : Step → StepRecord
record_of s = record { goal = s.goal; reasons = literals_of s.reasons.yes s.reasons.no; new = literals_of s.new.yes s.new.no; cost = s.cost }

-- A log stands in front of a buffer, and after it what stood there.
pub record WrittenWhole (log before after : List ℕ) : Type 0 where
  pub stored : after ≡ log ++ drop (length log) before
