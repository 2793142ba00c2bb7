-- The numbers of the refusals are those of the checks that are answered. Assumes nothing.
use mathlib.Core.Path.{◌≡◌, refl}
use mathlib.Core.Logic.{⊎_elim}
use mathlib.Core.Bool.{Bool, true, false, cond}
use mathlib.Core.List.{List}
use Prim.Native.Nat.{ℕ}
use native.Mathlib.Omega.{arith}
use lib.Dec.{ltb}
use lib.ListN.{length}
use Rattle.dates.specs.declared.Moment.{Moment}
use Rattle.records.specs.Limits.{max_log}
use Rattle.records.specs.Format.{Read, value, refused}
use Rattle.records.proofs.RefusalLaws.{number_kept}
use Rattle.book.proofs.NumberLaws.{ReaderNumber, reader_numbers}
use Rattle.problem.specs.Problem.{Problem}
use Rattle.consequence.specs.Meaning.{has_model}
use Rattle.log_form.specs.Format.{log_bytes}
use Rattle.log_form.specs.Restarts.{is_begun}
use Rattle.log_writer.specs.Meaning.{run_for, log_of}
use Rattle.engine.specs.Calls.{posed, with_model, LogOutcome, logged, refused_with, log_outcome, resumed, resumed_outcome}
use Rattle.engine.specs.Dimacs.{RefusalOf}
use Rattle.engine.specs.Numbers.{Kept, NumbersKept}
use Rattle.engine.proofs.DimacsLaws.{text_refusal}
use Rattle.engine.proofs.PosedLaws.{posed_numbers}

-- the reader's numbers
reader_kept : {number : ℕ} → ReaderNumber number → Kept number
reader_kept {number} n =
    ⊎_elim (λ k. number_kept number k.0 (omega (arith, k.1)) (λ e. omega (arith, k.1, e))) (λ k. number_kept number (omega (arith, k)) (omega (arith, k)) (λ e. omega (arith, k, e))) n

-- those of a text
text_kept : {s : List ℕ} {number place : ℕ} → RefusalOf s number place → Kept number
text_kept {number = number} w =
    ⊎_elim (λ k. number_kept number (omega (arith, k)) (omega (arith, k)) (λ e. omega (arith, k, e)))
    (λ k. number_kept number (omega (arith, k.0)) (omega (arith, k.1)) (λ e. omega (arith, k.0, e))) w.numbered

-- the log's
log_kept : (moment : Moment) (s : List ℕ) (room : ℕ) (m : Read Problem) {number place : ℕ} → posed moment s ≡ m → log_outcome room m ≡ refused_with number place
    → Kept number
unfolding log_outcome with_model
log_kept moment s room (refused n p) {number} e d = let same : n ≡ number = cc in rw same at (reader_kept (posed_numbers moment s e))
log_kept moment s room (value p end) {number} {place} e d = go (ltb room max_log) (has_model p) d
  where
    go : (t h : Bool) → cond t (refused_with 8 0) (cond h (logged (log_of (run_for p))) (refused_with 9 0)) ≡ refused_with number place → Kept number
    go true h f = let same : 8 ≡ number = cc in rw (← same) refl
    go false true f = let z : ◌≡◌ {A = ℕ} 0 1 = cc in absurd (omega arith)
    go false false f = let same : 9 ≡ number = cc in rw (← same) refl

-- and 15 after them
resumed_kept : (written : ℕ) (before : List ℕ) (o : LogOutcome) {number place : ℕ}
    → ((n p : ℕ) → o ≡ refused_with n p → Kept n) → resumed written before o ≡ refused_with number place → Kept number
unfolding resumed
resumed_kept written before (refused_with n p) h d = h _ _ d
resumed_kept written before (logged l) {number} {place} h d = go (is_begun written before (log_bytes l)) d
  where
    go : (b : Bool) → cond b (logged l) (refused_with 15 0) ≡ refused_with number place → Kept number
    go true f = let z : ◌≡◌ {A = ℕ} 0 1 = cc in absurd (omega arith)
    go false f = let same : 15 ≡ number = cc in rw (← same) refl

pub numbers_kept : (s : List ℕ) → NumbersKept s
unfolding resumed_outcome
numbers_kept s = record {
  book = λ e. reader_kept (reader_numbers s e);
  at_moment = λ moment e. reader_kept (posed_numbers moment s e);
  nine = refl;
  ten = refl;
  log = λ moment room e. log_kept moment s room (posed moment s) refl e;
  resumed = λ moment written before e.
      resumed_kept written before (log_outcome (length before) (posed moment s)) (λ n p d. log_kept moment s (length before) (posed moment s) refl d) e;
  imported = λ room e. text_kept (text_refusal room s e);
}
