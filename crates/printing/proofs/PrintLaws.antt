-- The call that prints: its contract in each of its cases, from that of the log's call.
-- Assumes nothing.
use mathlib.Core.Path.{◌≡◌, refl, sym, ap, ◌∙◌}
use mathlib.Core.Bool.{Bool, true, false, cond}
use mathlib.Core.List.{List, ◌++◌}
use Prim.Native.Nat.{ℕ, ◌≤◌, ◌<◌}
use native.Mathlib.Omega.{arith}
use lib.Dec.{ltb}
use lib.ListN.{length, take, drop, replicate, length-append, length-drop, length-replicate}
use lib.Seq.{take_at}
use borrow.Author.Tests.{lt-ltb, le-ltb}
use Rattle.records.specs.Limits.{max_log}
use Rattle.log_form.specs.Format.{Log, log_bytes, read_log, is_log}
use Rattle.std.specs.Prelude.{Option, Some, None, Err}
use Rattle.records.specs.Refusals.{number_of, refusal_of, refuses}
use Rattle.records.specs.declared.refusal.Refusal.{Refusal}
use Rattle.engine.proofs.Numbers.{numbers_kept}
use Rattle.engine.specs.Calls.{LogAnswer, log_written, LogOutcome, logged, refused_with, log_answer, buffer_after, LoggedAs, LogCall}
use Rattle.engine.proofs.LogLaws.{outcome_reads}
use Rattle.engine.proofs.ResumeLaws.{same_written}
use Rattle.log_writer.specs.declared.Written.{Written}
use Rattle.printing.specs.Text.{refusal_text}
use Rattle.printing.specs.Printed.{max_text, outcome_text, moment_size, moment_at, book_outcome, input_outcome, text_of, print_answer, printed_buffer, PrintCall}
use Rattle.printing.specs.Promises.{Front, Printable, LogPut}

pub print_short : {s before : List ℕ} → length before < max_text → PrintCall s before before None
unfolding print_answer printed_buffer
print_short {s} {before} h = record { answered = rw (lt-ltb (length before) max_text h) refl; buffer = rw (lt-ltb (length before) max_text h) refl }

-- a text at the front of a buffer that has room
front_call : {s before after text : List ℕ} {r : ℕ} → max_text ≤ length before → text_of s ≡ text → Front text before after r
    → PrintCall s before after (Some r)
unfolding print_answer printed_buffer
front_call {s} {before} h e f =
    record {
      answered = rw (e, le-ltb (length before) max_text h) (ap Some f.length_is);
      buffer = rw (e, le-ltb (length before) max_text h) f.stands;
    }

-- an input that is too short for a moment
pub print_no_moment : {s before after : List ℕ} {r : ℕ} → length s < moment_size → max_text ≤ length before → Front (refusal_text 14 0) before after r
    → PrintCall s before after (Some r)
unfolding text_of input_outcome outcome_text
print_no_moment {s} k h f = front_call h (rw (lt-ltb (length s) moment_size k) refl) f

-- ---- an input that has a moment

-- The log's call for the input's book at its moment, with a buffer of just the longest log.
pub record BookCalled (s log : List ℕ) (a : LogAnswer) : Type 0 where
  pub whole : moment_size ≤ length s
  pub call : LogCall (drop moment_size s) (moment_at s) (replicate max_log 0) log a

module _ {s log : List ℕ} {a : LogAnswer} (c : BookCalled s log a) where
  came_to : LoggedAs (book_outcome s) (replicate max_log 0) log a
  unfolding book_outcome
  came_to = rw (length-replicate {A = ℕ} max_log 0) at c.call.said

  text_from : {text : List ℕ} → outcome_text (book_outcome s) ≡ text → text_of s ≡ text
  unfolding text_of input_outcome
  text_from e = rw (le-ltb (length s) moment_size c.whole) e

pub print_refused : {s log before after : List ℕ} {a : LogAnswer} {refusal : Refusal} {r : ℕ} → BookCalled s log a → a ≡ Err refusal
    → max_text ≤ length before → Front (refusal_text (number_of refusal.kind) refusal.place) before after r → PrintCall s before after (Some r)
unfolding outcome_text log_answer book_outcome
print_refused {s} {log} {before} {after} {a} {refusal} c e h f = front_call h (text_from c (go (book_outcome s) refl (came_to c))) f
  where
    go : (o : LogOutcome) → book_outcome s ≡ o → LoggedAs o (replicate max_log 0) log a → outcome_text o ≡ refusal_text (number_of refusal.kind) refusal.place
    go (logged l) d w =
        let same : ◌≡◌ {A = LogAnswer} (Err refusal) (log_answer (logged l)) = sym e ∙ w.answered in
        let z : ◌≡◌ {A = ℕ} 0 1 = cc in absurd (omega arith)
    go (refused_with n p) d w =
        let same : ◌≡◌ {A = LogAnswer} (Err refusal) (refuses n p) = sym e ∙ w.answered in
        let named : refusal ≡ refusal_of n p = cc in
        rw (named, (numbers_kept (drop moment_size s)).log (moment_at s) max_log d) refl

-- A log of this size was written.
record WroteLog (s log : List ℕ) (size : ℕ) : Type 0 where
  says : Log
  outcome : book_outcome s ≡ logged says
  first_bytes : take size log ≡ log_bytes says
  size_is : size ≡ length (log_bytes says)
  short : size ≤ max_log

wrote_log : {s log : List ℕ} {a : LogAnswer} {size steps total : ℕ} → BookCalled s log a → a ≡ log_written size steps total → length log ≡ max_log
    → WroteLog s log size
unfolding log_answer buffer_after
wrote_log {s} {log} {a} {size} {steps} {total} c e long = go (book_outcome s) refl (came_to c)
  where
    go : (o : LogOutcome) → book_outcome s ≡ o → LoggedAs o (replicate max_log 0) log a → WroteLog s log size
    go (refused_with n p) d w = let same : ◌≡◌ {A = LogAnswer} (log_written size steps total) (refuses n p) = sym e ∙ w.answered in
        let z : ◌≡◌ {A = ℕ} 0 1 = cc in absurd (omega arith)
    go (logged l) d w =
        let same : log_written size steps total ≡ log_written (length (log_bytes l)) l.steps l.total = sym e ∙ w.answered in
        let sized : size ≡ length (log_bytes l) = ap (λ (x : Written). x.size) (same_written same) in
        record {
          says = l;
          outcome = d;
          first_bytes = rw w.buffer (take_at (log_bytes l) _ size (sym sized));
          size_is = sized;
          short = omega (
            arith,
            ap length w.buffer,
            length-append (log_bytes l) (drop (length (log_bytes l)) (replicate max_log 0)),
            length-drop {A = ℕ} (length (log_bytes l)) (replicate max_log 0),
            length-replicate {A = ℕ} max_log 0,
          );
        }

module _ {s log : List ℕ} {a : LogAnswer} {size steps total : ℕ} (c : BookCalled s log a) (e : a ≡ log_written size steps total)
    (long : length log ≡ max_log) where
  pub log_short : size ≤ max_log
  log_short = (wrote_log c e long).short

  -- the bytes that were written are read as a log
  written_reads : (w : WroteLog s log size) → (choices : ℕ) × (read_log choices (take size log) ≡ is_log w.says)
  unfolding book_outcome
  written_reads w = rw w.first_bytes (outcome_reads (moment_at s) (drop moment_size s) max_log w.outcome)

  pub log_printable : {before : List ℕ} → max_text ≤ length before → Printable (take size log) before
  log_printable h =
      let w = wrote_log c e long in
      let reads = written_reads w in
      let size_of : length (take size log) ≡ size = ap length w.first_bytes ∙ sym w.size_is in
      record { choices = reads.0; says = w.says; reads = reads.1; short = omega (arith, w.short); room = omega (arith, w.short) }

  pub print_log : {before after : List ℕ} {r : ℕ} → max_text ≤ length before → LogPut (take size log) before after r
      → PrintCall s before after (Some r)
  unfolding outcome_text
  print_log h p =
      let w = wrote_log c e long in
      let reads = written_reads w in
      front_call h (text_from c (rw w.outcome refl)) (p.text_of reads.0 w.says reads.1)

-- what a caller wants to know: the text that was put is within the buffer
pub text_fits : {s before after : List ℕ} {r : Option ℕ} {size : ℕ} → PrintCall s before after r → r ≡ Some size → length after ≡ length before
    → size ≤ length before
unfolding print_answer printed_buffer
text_fits {s} {before} {after} {r} {size} c e same = go (ltb (length before) max_text) (sym e ∙ c.answered) c.buffer
  where
    go : (b : Bool) → Some size ≡ cond b None (Some (length (text_of s)))
        → after ≡ cond b before (text_of s ++ drop (length (text_of s)) before) → size ≤ length before
    go true d k = let z : ◌≡◌ {A = ℕ} 0 1 = cc in absurd (omega arith)
    go false d k =
        let long : size ≡ length (text_of s) = cc in
        omega (arith, ap length k, length-append (text_of s) (drop (length (text_of s)) before), length-drop (length (text_of s)) before)
