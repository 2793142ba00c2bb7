-- Book P's log carried on after a restart, computed from the meanings (document 02, E8).
use Rattle.std.specs.Prelude.{◌≡◌, refl, List, [], ◌∷◌, ◌++◌, map, ℕ, ◌+◌, ◌-◌, take, replicate}
use Rattle.sets.specs.Sets.{members_from, members_below, members}
use Rattle.literals.specs.Literal.{byte_of, literals_of}
use Rattle.records.specs.Limits.{max_log}
use Rattle.book.specs.Orders.{order_c, order_e}
use Rattle.log_form.specs.Format.{list_bytes, two_bytes, four_bytes, record_bytes, records_bytes, ok_bytes, log_bytes}
use Rattle.log_form.specs.Restarts.{is_prefix, is_begun}
use Rattle.log_writer.specs.Meaning.{costs_written, with_new, run_from, run_of, run_for}
use Rattle.engine.specs.Calls.{posed, with_model, log_outcome, log_answer, buffer_after, resumed, resumed_outcome}
use Rattle.engine.specs.Orders.{noon, computed, read_and_posed}
use Rattle.records.specs.Refusals.{refuses as refusal}
use Rattle.engine.specs.Calls.{LogAnswer, log_written as logged}

-- A book, the number of first bytes that are to be as written, the buffer as it is found, what is answered, and the buffer as it is left.
pub record RestartRow : Type 0 where
  pub book : List ℕ
  pub written : ℕ
  pub found : List ℕ
  pub answer : LogAnswer
  pub left : List ℕ

-- The log of P, 26 bytes: two ST records of 9 and 10 bytes, and OK.
abbrev log_of_p : List ℕ
log_of_p = 0x53 ∷ 0x54 ∷ 2 ∷ 1 ∷ 1 ∷ 1 ∷ 2 ∷ 0 ∷ 8 ∷ 0x53 ∷ 0x54 ∷ 4 ∷ 2 ∷ 2 ∷ 3 ∷ 1 ∷ 4 ∷ 0 ∷ 12 ∷ 0x4F ∷ 0x4B ∷ 2 ∷ 0 ∷ 0 ∷ 0 ∷ 20 ∷ []

-- So many bytes, each A5.
abbrev junk : ℕ → List ℕ
junk n = replicate n 0xA5

-- P found with the first n bytes of its log, and junk behind them: its log and answer, and behind it the junk.
abbrev carried_on : ℕ → RestartRow
carried_on n =
    record { book = order_c; written = n; found = take n log_of_p ++ junk (max_log - n); answer = logged 26 2 20; left = log_of_p ++ junk (max_log - 26) }

-- A refusal leaves what was found.
abbrev refuses : List ℕ → ℕ → List ℕ → ℕ → RestartRow
refuses s n found number = record { book = s; written = n; found = found; answer = refusal number 0; left = found }

-- Broken off at 0, inside the first record, between the records, inside OK, and after the last byte. 15 for a wrong goal in the first record, for one byte
-- more than the log has, whatever it is, and for one more than the buffer has; 8 and 9 come before it.
unfoldable pub restarts : List RestartRow
restarts =
    carried_on 0
    ∷ carried_on 4
    ∷ carried_on 9
    ∷ carried_on 21
    ∷ carried_on 26
    ∷ refuses order_c 4 (0x53 ∷ 0x54 ∷ 3 ∷ 1 ∷ junk (max_log - 4)) 15
    ∷ refuses order_c 27 (log_of_p ++ junk (max_log - 26)) 15
    ∷ refuses order_c (max_log + 1) (log_of_p ++ junk (max_log - 26)) 15
    ∷ refuses order_c (max_log + 1) (junk (max_log - 1)) 8
    ∷ refuses order_e (max_log + 1) (junk max_log) 9
    ∷ []

-- What the meanings say of a row.
unfoldable pub meant_of : RestartRow → RestartRow
meant_of r =
    record {
      book = r.book;
      written = r.written;
      found = r.found;
      answer = log_answer (resumed_outcome r.written r.found (posed noon r.book));
      left = buffer_after (resumed_outcome r.written r.found (posed noon r.book)) r.found;
    }

pub restarts_agree : map meant_of restarts ≡ restarts
unfolding restarts meant_of computed read_and_posed order_c order_e with_model log_outcome log_answer buffer_after resumed resumed_outcome is_begun is_prefix run_for run_of
    run_from with_new log_bytes costs_written ok_bytes records_bytes record_bytes list_bytes literals_of two_bytes four_bytes byte_of members members_below members_from
restarts_agree = refl
