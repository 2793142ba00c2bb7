-- What a C program can tell from what it sees, of any bytes and any moment: done from refused, a refusal's number and place, a step from nothing left.
-- proofs/Told shows all of it.
use Rattle.std.specs.Prelude.{◌≡◌, List, ℕ, ◌≤◌, pos, length, None, Ok}
use Rattle.dates.specs.declared.Moment.{Moment}
use Rattle.records.specs.Format.{read_book}
use Rattle.book.specs.Answer.{book_answer, table_answer}
use Rattle.dimacs.specs.Import.{imported, import_answer}
use Rattle.engine.specs.Calls.{posed, model_answer, consequence_answer, step_answer, log_outcome, log_answer, resumed_outcome}
use Rattle.c_interface.specs.Seen.{max_place, number_in, place_in, Outcome, done, refusal, returned}
use Rattle.c_interface.specs.Seen.{seen_book, seen_costs, seen_imported, seen_model, seen_consequence, seen_step, seen_log}
use Rattle.c_interface.specs.Calls.{book_meant, costs_meant, dimacs_meant, model_meant, consequence_meant, step_meant, log_meant, resume_meant, StepSeen}
use Rattle.log_form.specs.declared.Step.{Step}

-- Of a call that was handed so many bytes: 0 is returned only where it is done, and of a refusal the number and the place are read off, the place where
-- the bytes are no more than a place has room for. What is seen, o, is what the bytes mean, so that the number read off is document 01's.
pub record Told {B : Type 0} (bytes : ℕ) (meant o : Outcome B) : Type 0 where
  pub as_meant : o ≡ meant
  pub zero_done : returned o ≡ 0 → (b : B) × (o ≡ done b)
  pub number_read : {number place : ℕ} → o ≡ refusal number place → number_in (returned o) ≡ number
  pub place_read : {number place : ℕ} → o ≡ refusal number place → bytes ≤ max_place → place_in (returned o) ≡ place

-- The same of every call: s is the book, or the text, known_on and known_off the known set, and `old` stands in a lent buffer.
pub record AllTold (s : List ℕ) : Type 0 where
  pub book : Told (length s) (book_meant s) (seen_book (book_answer (read_book s)))
  pub costs : Told (length s) (costs_meant s) (seen_costs (table_answer (λ b. b.costs) (read_book s)) (book_answer (read_book s)))
  pub dimacs : (old : List ℕ) → Told (length s) (dimacs_meant s old) (seen_imported (import_answer (imported (length old) s)))
  pub model : (moment : Moment) → Told (length s) (model_meant s moment) (seen_model (model_answer (posed moment s)))
  pub consequence : (moment : Moment) → Told (length s) (consequence_meant s moment) (seen_consequence (consequence_answer (posed moment s)))
  pub step : (moment : Moment) (known_on known_off : ℕ)
      → Told (length s) (step_meant s moment known_on known_off) (seen_step (step_answer known_on known_off (posed moment s)))
  pub log : (moment : Moment) (old : List ℕ)
      → Told (length s) (log_meant s moment old) (seen_log (log_answer (log_outcome (length old) (posed moment s))))

-- The same of the call that carries a log on.
pub record ResumeTold (s : List ℕ) : Type 0 where
  pub resume : (moment : Moment) (written : ℕ) (old : List ℕ)
      → Told (length s) (resume_meant s moment written old) (seen_log (log_answer (resumed_outcome written old (posed moment s))))

-- Where 0 is returned and the goal is 0, nothing is left: no step has the goal 0.
pub record GoalTold (s : List ℕ) (moment : Moment) (known_on known_off : ℕ) : Type 0 where
  pub nothing_left : {before after : Step} → StepSeen s moment known_on known_off before after 0 → after.goal ≡ pos 0
      → step_answer known_on known_off (posed moment s) ≡ Ok None
