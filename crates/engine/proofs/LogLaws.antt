-- The log of a problem and of a book: from what the inner functions found to the call's answer, and its contract in each of its cases.
-- Assumes nothing.
use mathlib.Core.Path.{◌≡◌, refl, sym, ap₂, ◌∙◌}
use mathlib.Core.Bool.{Bool, true, false, not, cond}
use mathlib.Core.List.{List, ◌++◌}
use Prim.Native.Nat.{ℕ, ◌≤◌, ◌<◌, ◌^◌}
use native.Mathlib.Omega.{arith}
use lib.Dec.{ltb, leb}
use lib.ListN.{length, drop}
use lib.Seq.{take_at}
use borrow.Author.Tests.{lt-ltb, le-ltb, ltb-true, leb-true}
use Rattle.literals.specs.declared.LiteralSet.{LiteralSet}
use Rattle.records.specs.Limits.{max_log}
use Rattle.dates.specs.declared.Moment.{Moment}
use Rattle.records.specs.Format.{Read, value, refused, OrderBook}
use Rattle.book.specs.Answer.{masked_book}
use Rattle.book.proofs.WellFormed.{WellFormed}
use Rattle.problem.specs.Problem.{Problem, problem_of, given}
use Rattle.problem.specs.Proper.{ProperProblem}
use Rattle.problem.specs.Masked.{masked_from}
use Rattle.problem.specs.Masked.{yes_in, no_in}
use Rattle.problem.specs.declared.MaskedProblem as kept
use Rattle.consequence.specs.Meaning.{models, has_model, Theory, contradicts}
use Rattle.consequence.specs.Laws.Problems.{no_filling}
use Rattle.step.specs.Meaning.{asking, Step}
use Rattle.step.specs.Laws.Given as facts
use Rattle.step.specs.Laws.Known.{cond_not}
use Rattle.log_form.specs.Format.{Log, log_bytes, is_log, read_log}
use Rattle.log_form.specs.Promises.{WrittenWhole}
use Rattle.log_form.specs.Restarts.{is_begun, Begun}
use Rattle.log_form.specs.Laws.Restarts.{begun_true, begun_is, begun_false, begun_none}
use Rattle.log_writer.specs.Meaning.{run_of, run_for, log_of}
use Rattle.log_writer.specs.Promises.{LogAsked, LogWritten}
use Rattle.log_writer.proofs.Explains.{explained, reads_back}
use Rattle.log_writer.specs.declared.Written.{Written}
use Rattle.std.specs.Prelude.{Ok, Err}
use Rattle.records.specs.Refusals.{refuses}
use Rattle.records.specs.declared.refusal.Refusal.{Refusal}
use Rattle.engine.specs.Calls.{LogAnswer, log_written}
use Rattle.engine.specs.Calls.{posed, with_model, NineExactly, LogOutcome, logged, refused_with, log_outcome, log_answer, buffer_after, LoggedAs}
use Rattle.engine.specs.Calls.{Explains, LogCall, resumed, resumed_outcome, Resumes, ResumeCall}
use Rattle.engine.specs.Promises.{theory_in, forced_in, Loggable, log_in, PutLog}
use Rattle.engine.proofs.NineLaws.{nine_exactly, nine_number}
use Rattle.engine.proofs.ProblemLaws.{theory_same, forced_same, contradicts_has, Taken, taken_posed, NotTaken}
use Rattle.engine.proofs.PosedLaws.{posed_proper}
use Rattle.engine.proofs.StepLaws.{forced_by, asked_of}

-- ---- a log put into the buffer

-- the code has tested whether the log is not begun
module _ {log : List ℕ} {written : ℕ} {before : List ℕ} {b : Bool} (e : b ≡ is_begun written before log) where
  pub put_refused : {answer : Written} → b ≡ false → PutLog log answer written before before (refuses 15 0)
  put_refused t = record { answered = rw (sym e ∙ t) refl; buffer = rw (sym e ∙ t) refl }

  pub put_begun : b ≡ true → Begun written before log
  put_begun t = begun_true _ _ _ (sym e ∙ t)

  pub put_done : {answer : Written} {after : List ℕ} → b ≡ true → WrittenWhole log before after → PutLog log answer written before after (Ok answer)
  put_done t w = record { answered = rw (sym e ∙ t) refl; buffer = rw (sym e ∙ t) w.stored }

pub put_as : (b : Bool) (l : Log) {before after : List ℕ} {r : LogAnswer}
    → r ≡ cond b (log_written (length (log_bytes l)) l.steps l.total) (refuses 15 0)
    → after ≡ cond b (log_bytes l ++ drop (length (log_bytes l)) before) before → LoggedAs (cond b (logged l) (refused_with 15 0)) before after r
unfolding log_answer buffer_after
put_as true l e f = record { answered = e; buffer = f }
put_as false l e f = record { answered = e; buffer = f }

-- ---- what `log_writer::write` answers, passed on

pub logged_written : {ss : List Step} {before after : List ℕ} {r : Written} → LogWritten ss before after r
    → LoggedAs (logged (log_of ss)) before after (Ok r)
unfolding log_answer buffer_after
logged_written w = record { answered = rw w.answered refl; buffer = w.buffer }

-- ---- what the log asks

module _ (p : kept.MaskedProblem) (w : Loggable p) (some : contradicts (theory_in p) p.facts.yes p.facts.no ≡ false) where
  pub logging_of : LogAsked p.variables (yes_in p) (no_in p) p.choices p.costs (forced_in p) p.facts
  logging_of =
      let below = w.steppable.searchable.choices_below in
      record {
        asked = asked_of p w.steppable some p.facts (facts.given_between below (forced_by p) w.yes_facts w.no_facts);
        forced = forced_by p;
      }

-- ---- a refusal leaves the buffer

pub logged_refused : (number place : ℕ) (before : List ℕ) → LoggedAs (refused_with number place) before before (refuses number place)
unfolding log_answer buffer_after
logged_refused number place before = record { answered = refl; buffer = refl }

-- ---- a book

module _ {b : OrderBook} (w : WellFormed b) (moment : Moment) where
  -- the outcome as a function of the theory and of what is forced
  outcome_by : Theory → LiteralSet → LogOutcome
  outcome_by t c = cond (not (has_model (problem_of moment b))) (refused_with 9 0) (logged (log_of
      (run_of (asking t (problem_of moment b).costs c (given (problem_of moment b))))))

  pub log_says : (end room : ℕ) → max_log ≤ room → log_in (masked_from moment (masked_book b)) ≡ log_outcome room (value (problem_of moment b) end)
  unfolding log_in log_outcome with_model run_for outcome_by problem_of
  log_says end room l = rw (contradicts_has w moment, le-ltb _ _ l) (ap₂ outcome_by (theory_same w moment) (forced_same w moment) ∙ cond_not
      (has_model (problem_of moment b)) _ _)

-- ---- demand 3

module _ {p : Problem} (w : ProperProblem p) (end written : ℕ) {before after : List ℕ} {r : LogAnswer} where
  -- a log is written, of the bytes that the buffer begins with
  resumes_logged : has_model p ≡ true → Begun written before (log_bytes (log_of (run_for p))) → LoggedAs (logged (log_of (run_for p))) before after r
      → Resumes (value p end) written before after r
  unfolding log_answer buffer_after
  resumes_logged m b l =
      rw (l.answered, l.buffer, take_at (log_bytes (log_of (run_for p))) (drop (length (log_bytes (log_of (run_for p)))) before) _ refl) (explained w m, b)

  -- a refusal where there is no model or no room, or the log is not begun
  resumes_none : {n q : ℕ}
      → ((f : ℕ) → f < 2 ^ p.variables → models p f ≡ true → max_log ≤ length before → Begun written before (log_bytes (log_of (run_for p))) → ⊥)
      → LoggedAs (refused_with n q) before after r → Resumes (value p end) written before after r
  unfolding log_answer
  resumes_none h l = rw l.answered h

  resumes : LoggedAs (resumed_outcome written before (value p end)) before after r → Resumes (value p end) written before after r
  unfolding log_outcome with_model resumed resumed_outcome
  resumes l = go (ltb (length before) max_log) (has_model p) (is_begun written before (log_bytes (log_of (run_for p)))) refl refl refl l
    where
      go : (t h b : Bool) → ltb (length before) max_log ≡ t → has_model p ≡ h → is_begun written before (log_bytes (log_of (run_for p))) ≡ b
          → LoggedAs (resumed written before (cond t (refused_with 8 0) (cond h (logged (log_of (run_for p))) (refused_with 9 0)))) before after r
          → Resumes (value p end) written before after r
      go true h b t m e l = resumes_none (λ f x y k z. omega (arith, k, ltb-true (length before) max_log t)) l
      go false false b t m e l = resumes_none (λ f x y k z. (no_filling p m).none f x y) l
      go false true true t m e l = resumes_logged m (begun_true _ _ _ e) (rw e at l)
      go false true false t m e l = resumes_none (λ f x y k z. begun_false _ _ _ e z) (rw e at l)

-- ---- the bytes of the log that the call comes to are read as that log

pub outcome_reads : (moment : Moment) (s : List ℕ) (room : ℕ) {l : Log} → log_outcome room (posed moment s) ≡ logged l
    → (choices : ℕ) × (read_log choices (log_bytes l) ≡ is_log l)
unfolding log_outcome with_model
outcome_reads moment s room {l} o = go (posed moment s) refl o
  where
    at_problem : (p : Problem) → ProperProblem p → (t h : Bool) → has_model p ≡ h
        → cond t (refused_with 8 0) (cond h (logged (log_of (run_for p))) (refused_with 9 0)) ≡ logged l
        → (choices : ℕ) × (read_log choices (log_bytes l) ≡ is_log l)
    at_problem p w true h m d = let z : ◌≡◌ {A = ℕ} 0 1 = cc in absurd (omega arith)
    at_problem p w false false m d = let z : ◌≡◌ {A = ℕ} 0 1 = cc in absurd (omega arith)
    at_problem p w false true m d = let same : log_of (run_for p) ≡ l = cc in (p.choices, rw same at (reads_back w m))

    go : (m : Read Problem) → posed moment s ≡ m → log_outcome room m ≡ logged l → (choices : ℕ) × (read_log choices (log_bytes l) ≡ is_log l)
    go (refused n p) e d = let z : ◌≡◌ {A = ℕ} 0 1 = cc in absurd (omega arith)
    go (value p end) e d = at_problem p (posed_proper moment s e) (ltb room max_log) (has_model p) refl d

-- ---- 9

-- after 8, the answer goes by `with_model`
module _ (moment : Moment) (s : List ℕ) (room : ℕ) where
  log_nine : NineExactly refuses (max_log ≤ room) (posed moment s) (log_answer (log_outcome room (posed moment s)))
  unfolding with_model log_outcome log_answer
  log_nine = go (posed moment s) (nine_exactly (λ p. log_answer (logged (log_of (run_for p)))) refuses nine_number
      (λ p at d. let z : ◌≡◌ {A = ℕ} 0 1 = cc in absurd (omega arith)) (max_log ≤ room) moment s)
    where
      both : (h : Bool) (x : LogOutcome) → log_answer (cond h x (refused_with 9 0)) ≡ cond h (log_answer x) (refuses 9 0)
      both true x = refl
      both false x = refl

      at_problem : (p : Problem) (end : ℕ) (t : Bool) → ltb room max_log ≡ t
          → NineExactly refuses (max_log ≤ room) (value p end)
          (cond (has_model p) (log_answer (logged (log_of (run_for p)))) (refuses 9 0))
          → NineExactly refuses (max_log ≤ room) (value p end)
          (log_answer (cond t (refused_with 8 0) (cond (has_model p) (logged (log_of (run_for p))) (refused_with 9 0))))
      at_problem p end true e x =
          record {
            nine_none = λ at d. absurd (omega (arith, nine_number 8 0 at d));
            none_nine = λ l n. absurd (omega (arith, ltb-true room max_log e));
          }
      at_problem p end false e x = rw (both (has_model p) (logged (log_of (run_for p)))) x

      go : (m : Read Problem) → NineExactly refuses (max_log ≤ room) m
          (with_model (λ p. log_answer (logged (log_of (run_for p)))) refuses m)
          → NineExactly refuses (max_log ≤ room) m (log_answer (log_outcome room m))
      go (refused n p) x = x
      go (value p end) x = at_problem p end (ltb room max_log) refl x

-- 15 is not 9
module _ (written : ℕ) (before : List ℕ) {due : Type 0} {m : Read Problem} where
  resumed_nine : (o : LogOutcome) → NineExactly refuses due m (log_answer o) → NineExactly refuses due m (log_answer (resumed written before o))
  unfolding resumed log_answer
  resumed_nine (refused_with n p) x = x
  resumed_nine (logged l) x = go (is_begun written before (log_bytes l))
    where
      go : (b : Bool) → NineExactly refuses due m (log_answer (cond b (logged l) (refused_with 15 0)))
      go true = x
      go false =
          record {
            nine_none = λ at d. absurd (omega (arith, nine_number 15 0 at d));
            none_nine = λ u n. let k = x.none_nine u n in let z : ◌≡◌ {A = ℕ} 0 1 = cc in absurd (omega arith);
          }

-- ---- the calls

module _ {moment : Moment} {s : List ℕ} {written : ℕ} {before after : List ℕ} {r : LogAnswer} where
  -- the contract follows from what the call comes to
  pub resume_call : LoggedAs (resumed_outcome written before (posed moment s)) before after r → ResumeCall s moment written before after r
  unfolding resumed_outcome resumed log_outcome log_answer
  resume_call l = record {
    said = l;
    demand_3 = go (posed moment s) refl l;
    nine = rw l.answered (resumed_nine written before (log_outcome (length before) (posed moment s)) (log_nine moment s (length before)));
  }
    where
      go : (m : Read Problem) → posed moment s ≡ m → LoggedAs (resumed_outcome written before m) before after r → Resumes m written before after r
      go (refused n p) e l = l.answered
      go (value p end) e l = resumes (posed_proper moment s e) end written l

-- ---- the unbroken call is the one that is carried on from no byte

resumed_none : (before : List ℕ) (o : LogOutcome) → resumed 0 before o ≡ o
unfolding resumed
resumed_none before (refused_with n p) = refl
resumed_none before (logged l) = rw (begun_is 0 before (log_bytes l) (begun_none before (log_bytes l))) refl

module _ {moment : Moment} {s before after : List ℕ} {r : LogAnswer} where
  pub log_call : ResumeCall s moment 0 before after r → LogCall s moment before after r
  unfolding resumed_outcome
  log_call c =
      record {
        said = rw (resumed_none before (log_outcome (length before) (posed moment s))) at c.said;
        demand_3 = go (posed moment s) r c.demand_3;
        nine = c.nine;
      }
    where
      go : (m : Read Problem) (r : LogAnswer) → Resumes m 0 before after r → Explains m before after r
      go (refused n p) r x = x
      go (value p end) (Ok w) x = x.0
      go (value p end) (Err refusal) x = λ f k m room. x f k m room (begun_none before (log_bytes (log_of (run_for p))))

  -- so its contract, too, follows from what the call comes to
  pub log_said : LoggedAs (log_outcome (length before) (posed moment s)) before after r → LogCall s moment before after r
  unfolding resumed_outcome
  log_said l = log_call (resume_call (rw (resumed_none before (log_outcome (length before) (posed moment s))) l))

  pub log_taken : {p : kept.MaskedProblem} → Taken moment s p → max_log ≤ length before → LoggedAs (log_in p) before after r → LogCall s moment before after r
  log_taken t room l = log_said (rw (taken_posed t) (rw (log_says t.well moment t.end (length before) room) at (rw t.same at l)))

module _ {moment : Moment} {s before : List ℕ} where
  pub log_refused : {r : Refusal} → NotTaken moment s r → LogCall s moment before before (Err r)
  unfolding log_outcome
  log_refused t = rw t.same (log_said (rw t.posed (logged_refused t.number t.place before)))

  -- from what the code has compared the buffer's length with: whether that is too short is asked of the number itself
  pub log_short : {p : kept.MaskedProblem} {least : ℕ} → Taken moment s p → length before < least → leb least max_log ≡ true
      → LogCall s moment before before (refuses 8 0)
  unfolding log_outcome
  log_short {least = least} t h k =
      let l : length before < max_log = omega (arith, h, leb-true least max_log k) in
      log_said (rw (taken_posed t, lt-ltb _ _ l) (logged_refused 8 0 before))
