-- What the readers of records answer for each meaning of their bytes: what is kept of it, or the refusal. What the contracts of the public calls cite of it
-- stands in Format and Refusals.
use Rattle.std.specs.Prelude.{List, ℕ, Result, Ok, Err}
use Rattle.literals.specs.Literal.{Literal}
use Rattle.records.specs.Format.{RecordRead, says, fails, Header}
use Rattle.records.specs.Refusals.{kind_of}
use Rattle.records.specs.declared.refusal.RefusalKind.{RefusalKind}
use Rattle.records.specs.declared.header.Header as kept
use Rattle.records.specs.declared.rules.RuleRead.{RuleRead}
pub use Rattle.records.specs.Format.{row, masks}
unfoldable pub use Rattle.records.specs.Refusals.{read_answer}

module _ {A B : Type 0} (keep : A → ℕ → B) where
  -- One record: what is kept of what it says and of how many bytes it has, or the check that fails.
  unfoldable pub record_answer : RecordRead A → Result B RefusalKind
  record_answer (says a len) = Ok (keep a len)
  record_answer (fails number) = Err (kind_of number)

-- What is kept: nothing of it; what it says alone; its place or length alone.
abbrev pub nothing : {A : Type 0} → A → ℕ → Unit {0}
nothing a n = tt

abbrev pub what : {A : Type 0} → A → ℕ → A
what a n = a

abbrev pub place_after : {A : Type 0} → A → ℕ → ℕ
place_after a n = n

-- The counts of a header.
abbrev pub counts : Header → ℕ → kept.Header
counts h len = record { variables = h.variables; choices = h.choices; rules = h.rules }

-- A rule's literals as two masks, and its length.
abbrev pub masks_and_length : List Literal → ℕ → RuleRead
masks_and_length ls len = record { set = masks ls; len = len }
