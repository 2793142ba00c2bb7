-- The functions for C, for any bytes and any moment: each by equation with the meaning of the engine's call, through `Seen`, and with the contract of that
-- call (for the
-- log demand 3, for the consequence demand 2). The contracts in src/lib.rt unfold to what stands here.
use Rattle.std.specs.Prelude.{◌≡◌, List, ℕ, length}
use Rattle.dates.specs.declared.Moment.{Moment}
use Rattle.literals.specs.declared.LiteralSet.{LiteralSet}
use Rattle.records.specs.Format.{read_book}
use Rattle.book.specs.Answer.{masked_book, table, book_answer, table_answer}
use Rattle.consequence.specs.Meaning.{consequence_of}
use Rattle.dimacs.specs.Import.{imported, imported_bytes, import_answer}
use Rattle.engine.specs.Calls.{posed, with_model, first_model, model_answer, ModelCall, consequence_answer, ConsequenceCall, step_answer, StepCall}
use Rattle.engine.specs.Calls.{log_outcome, log_answer, LogCall, resumed_outcome, ResumeCall}
use Rattle.engine.specs.Dimacs.{DimacsCall}
use Rattle.c_interface.specs.Seen.{Outcome, done, refusal, Seen, BookShown, shown_book, seen_book, seen_costs, seen_imported, seen_model, seen_consequence}
use Rattle.c_interface.specs.Seen.{seen_step, LogShown, seen_log, as_literals, read_as, step_as, log_as}
use Rattle.log_form.specs.declared.Step.{Step}

-- `why_read_book` of the bytes s: what they mean, and the contract.
abbrev pub book_meant : List ℕ → Outcome BookShown
book_meant s = read_as (λ b. shown_book (masked_book b)) (read_book s)

abbrev pub BookSeen : List ℕ → BookShown → BookShown → ℕ → Type 0
BookSeen s = Seen (λ a. a ≡ book_answer (read_book s)) (book_answer (read_book s)) seen_book (book_meant s)

-- `why_read_costs`.
abbrev pub costs_meant : List ℕ → Outcome (List (List ℕ))
costs_meant s = read_as (λ b. table b.costs) (read_book s)

abbrev pub CostsSeen : List ℕ → List (List ℕ) → List (List ℕ) → ℕ → Type 0
CostsSeen s =
    Seen (λ a. a ≡ book_answer (read_book s)) (book_answer (read_book s)) (seen_costs (table_answer (λ b. b.costs) (read_book s))) (costs_meant s)

-- `why_read_dimacs` of the text s; `old` stands in the lent buffer at entry and `new` at exit.
abbrev pub dimacs_meant : List ℕ → List ℕ → Outcome ℕ
dimacs_meant s old = read_as (λ f. length (imported_bytes f)) (imported (length old) s)

abbrev pub DimacsSeen : List ℕ → List ℕ → List ℕ → ℕ → ℕ → ℕ → Type 0
DimacsSeen s old new = Seen (DimacsCall s old new) (import_answer (imported (length old) s)) seen_imported (dimacs_meant s old)

-- `why_model`.
abbrev pub model_meant : List ℕ → Moment → Outcome ℕ
model_meant s moment = with_model (λ p. done (first_model p)) refusal (posed moment s)

abbrev pub ModelSeen : List ℕ → Moment → ℕ → ℕ → ℕ → Type 0
ModelSeen s moment = Seen (ModelCall s moment) (model_answer (posed moment s)) seen_model (model_meant s moment)

-- `why_consequence`.
abbrev pub consequence_meant : List ℕ → Moment → Outcome LiteralSet
consequence_meant s moment = with_model (λ p. done (consequence_of p)) refusal (posed moment s)

abbrev pub ConsequenceSeen : List ℕ → Moment → LiteralSet → LiteralSet → ℕ → Type 0
ConsequenceSeen s moment = Seen (ConsequenceCall s moment) (consequence_answer (posed moment s)) seen_consequence (consequence_meant s moment)

-- `why_next_step` from the known set of these two masks.
abbrev pub step_meant : List ℕ → Moment → ℕ → ℕ → Outcome Step
step_meant s moment on off = with_model (step_as (as_literals on off)) refusal (posed moment s)

abbrev pub StepSeen : List ℕ → Moment → ℕ → ℕ → Step → Step → ℕ → Type 0
StepSeen s moment on off = Seen (StepCall s moment on off) (step_answer on off (posed moment s)) seen_step (step_meant s moment on off)

-- `why_log`; `old` stands in the lent buffer at entry and `new` at exit.
abbrev pub log_meant : List ℕ → Moment → List ℕ → Outcome LogShown
log_meant s moment old = log_as (log_outcome (length old) (posed moment s))

abbrev pub LogSeen : List ℕ → Moment → List ℕ → List ℕ → LogShown → LogShown → ℕ → Type 0
LogSeen s moment old new =
    Seen (LogCall s moment old new) (log_answer (log_outcome (length old) (posed moment s))) seen_log (log_meant s moment old)

-- `why_resume_log`, of a buffer in which so many first bytes are to be as written.
abbrev pub resume_meant : List ℕ → Moment → ℕ → List ℕ → Outcome LogShown
resume_meant s moment written old = log_as (resumed_outcome written old (posed moment s))

abbrev pub ResumeSeen : List ℕ → Moment → ℕ → List ℕ → List ℕ → LogShown → LogShown → ℕ → Type 0
ResumeSeen s moment written old new =
    Seen (ResumeCall s moment written old new) (log_answer (resumed_outcome written old (posed moment s))) seen_log (resume_meant s moment written old)
