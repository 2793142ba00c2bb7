-- What the call that prints means, for any input and any buffer: the text, and every byte of the buffer. An input is the six bytes of a moment and then the
-- bytes of a book (document 02, E7).
use Rattle.std.specs.Prelude.{◌≡◌, cond, List, ◌++◌, ℕ, ◌*◌, ltb, length, drop, Option, Some, None}
use Rattle.records.specs.Limits.{max_log}
use Rattle.dates.specs.declared.Moment.{Moment}
use Rattle.records.specs.Format.{pair, date_at}
use Rattle.engine.specs.Calls.{posed, LogOutcome, logged, refused_with, log_outcome}
use Rattle.printing.specs.Text.{log_text, refusal_text}

-- The bytes of a text, at most: six for each byte of a log (`text_length`, proofs/LogLaws).
abbrev pub max_text : ℕ
max_text = 6 * max_log

-- The text of what the log's call comes to: the log's lines, or only the refusal.
unfoldable pub outcome_text : LogOutcome → List ℕ
outcome_text (logged l) = log_text l
outcome_text (refused_with number place) = refusal_text number place

-- The bytes of a moment.
abbrev pub moment_size : ℕ
moment_size = 6

-- The moment that an input begins with: its date in four bytes, its minute in two.
unfoldable pub moment_at : List ℕ → Moment
moment_at input = record { date = date_at input 0; minute = pair input 4 }

-- What the log's call comes to for the book of an input at its moment, with the shortest buffer that serves. Places are those of the book, from its first byte.
unfoldable pub book_outcome : List ℕ → LogOutcome
book_outcome input = log_outcome max_log (posed (moment_at input) (drop moment_size input))

-- What an input comes to: one that is too short for a moment is refused with 14 at 0.
unfoldable pub input_outcome : List ℕ → LogOutcome
input_outcome input = cond (ltb (length input) moment_size) (refused_with 14 0) (book_outcome input)

-- What is printed for an input.
unfoldable pub text_of : List ℕ → List ℕ
text_of input = outcome_text (input_outcome input)

-- The answer: the text's length, or that the buffer is too short.
unfoldable pub print_answer : List ℕ → List ℕ → Option ℕ
print_answer text before = cond (ltb (length before) max_text) None (Some (length text))

-- The buffer at exit: the text and then the old bytes, or as it was.
unfoldable pub printed_buffer : List ℕ → List ℕ → List ℕ
printed_buffer text before = cond (ltb (length before) max_text) before (text ++ drop (length text) before)

-- The contract of `print`.
pub record PrintCall (input before after : List ℕ) (r : Option ℕ) : Type 0 where
  pub answered : r ≡ print_answer (text_of input) before
  pub buffer : after ≡ printed_buffer (text_of input) before
