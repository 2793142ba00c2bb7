-- What the functions that print ask and say.
use Rattle.std.specs.Prelude.{◌≡◌, List, ◌++◌, ℕ, ◌*◌, ◌≤◌, length, drop}
use Rattle.log_form.specs.Format.{Log, read_log, is_log}
use Rattle.log_form.specs.Promises.{Put}
use Rattle.printing.specs.Text.{step_text, log_text}
use Rattle.printing.specs.Fields.{record_size, record_in}
use Rattle.printing.specs.declared.lines.Line.{Line}

-- The line of the ST record at the front of s is put; the answer is the place after the line, and the record's length.
pub record LinePut (before : List ℕ) (at number : ℕ) (s after : List ℕ) (r : Line) : Type 0 where
  pub put : Put before at (step_text number (record_in s)) after r.next
  pub length_is : r.size ≡ record_size s

-- A text stands at the front of a buffer, every byte after it is as it was, and r is the text's length.
pub record Front (text before after : List ℕ) (r : ℕ) : Type 0 where
  pub stands : after ≡ text ++ drop (length text) before
  pub length_is : r ≡ length text

-- The bytes are a log, over some choices, short enough for step numbers of three digits, and six bytes of text for each of them fit the buffer.
pub record Printable (log out : List ℕ) : Type 0 where
  pub choices : ℕ
  pub says : Log
  pub reads : read_log choices log ≡ is_log says
  pub short : length log ≤ 4096
  pub room : 6 * length log ≤ length out

-- Whatever log the bytes are read as, its text stands at the front.
pub record LogPut (log before after : List ℕ) (r : ℕ) : Type 0 where
  pub text_of : (choices : ℕ) (l : Log) → read_log choices log ≡ is_log l → Front (log_text l) before after r
