-- The calls answer a refusal with the check that fails; its number is the one that document 01 fixes, of whatever bytes. proofs/Numbers shows it.
use Rattle.std.specs.Prelude.{◌≡◌, List, ℕ}
use Rattle.dates.specs.declared.Moment.{Moment}
use Rattle.records.specs.Format.{refused, read_book}
use Rattle.records.specs.Refusals.{number_of, kind_of}
use Rattle.dimacs.specs.Import.{imported}
use Rattle.engine.specs.Calls.{posed, refused_with, log_outcome, resumed_outcome}

-- The check that a number names has that number.
abbrev pub Kept : ℕ → Type 0
Kept number = number_of (kind_of number) ≡ number

-- Each number with which the bytes are refused is kept, and so are 9 and 10, with which a problem or a known set is.
pub record NumbersKept (s : List ℕ) : Type 0 where
  pub book : {number place : ℕ} → read_book s ≡ refused number place → Kept number
  pub at_moment : (moment : Moment) {number place : ℕ} → posed moment s ≡ refused number place → Kept number
  pub nine : Kept 9
  pub ten : Kept 10
  pub log : (moment : Moment) (room : ℕ) {number place : ℕ} → log_outcome room (posed moment s) ≡ refused_with number place → Kept number
  pub resumed : (moment : Moment) (written : ℕ) (before : List ℕ) {number place : ℕ} → resumed_outcome written before (posed moment s) ≡ refused_with number place
      → Kept number
  pub imported : (room : ℕ) {number place : ℕ} → imported room s ≡ refused number place → Kept number
