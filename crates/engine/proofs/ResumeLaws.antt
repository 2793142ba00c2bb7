-- The call that carries a log on: its contract in each of its cases, from that of the unbroken call.
-- Assumes nothing.
use mathlib.Core.Path.{◌≡◌, refl, sym, ap, ◌∙◌}
use mathlib.Core.Bool.{Bool, true, false, cond}
use mathlib.Core.List.{List, ◌++◌}
use Prim.Native.Nat.{ℕ, ◌≤◌, ◌<◌}
use native.Mathlib.Omega.{arith}
use lib.Dec.{ltb, leb}
use lib.ListN.{length, take, drop, length-append, length-take}
use lib.Seq.{take_at}
use borrow.Author.Tests.{lt-ltb, le-ltb, ltb-false, leb-true}
use Rattle.dates.specs.declared.Moment.{Moment}
use Rattle.records.specs.Limits.{max_log}
use Rattle.records.specs.Format.{Read, value, refused}
use Rattle.problem.specs.Problem.{Problem}
use Rattle.log_form.specs.Format.{Log, log_bytes}
use Rattle.log_form.specs.Restarts.{is_begun}
use Rattle.log_writer.specs.Meaning.{run_for, log_of}
use Rattle.log_writer.specs.declared.Written.{Written}
use Rattle.std.specs.Prelude.{Ok, Err}
use Rattle.records.specs.declared.refusal.Refusal.{Refusal}
use Rattle.engine.specs.Calls.{LogAnswer, log_written}
use Rattle.engine.specs.Calls.{posed, with_model, LogOutcome, logged, refused_with, log_outcome, log_answer, buffer_after, LoggedAs, LogCall}
use Rattle.engine.specs.Calls.{resumed, resumed_outcome, ResumeCall}
use Rattle.engine.specs.Promises.{PutLog}
use Rattle.engine.proofs.LogLaws.{put_as, logged_refused, resume_call}

-- ---- what was written, from the answer

-- equal answers are of equal logs
pub same_written : {x y : Written} → ◌≡◌ {A = LogAnswer} (Ok x) (Ok y) → x ≡ y
same_written e = cc

pub record Wrote (o : LogOutcome) (before after : List ℕ) (size steps total : ℕ) : Type 0 where
  pub log : Log
  pub came : o ≡ logged log
  pub sized : size ≡ length (log_bytes log)
  pub answer : log_answer (logged log) ≡ log_written size steps total
  pub bytes : take size after ≡ log_bytes log
  pub buffer : after ≡ log_bytes log ++ drop size before

pub wrote : (o : LogOutcome) {before after : List ℕ} {size steps total : ℕ} → LoggedAs o before after (log_written size steps total)
    → Wrote o before after size steps total
unfolding log_answer buffer_after
wrote (refused_with n p) w = let e = w.answered in let z : ◌≡◌ {A = ℕ} 0 1 = cc in absurd (omega arith)
wrote (logged l) {before} {after} {size} {steps} {total} w =
    let e : log_written size steps total ≡ log_written (length (log_bytes l)) l.steps l.total = w.answered in
    let sized : size ≡ length (log_bytes l) = ap (λ (x : Written). x.size) (same_written e) in
    record {
      log = l;
      came = refl;
      sized = sized;
      answer = sym e;
      bytes = rw w.buffer (take_at (log_bytes l) _ size (sym sized));
      buffer = w.buffer ∙ ap (λ k. log_bytes l ++ drop k before) (sym sized);
    }

-- ---- the outcome does not hang on the room, once there is enough

pub long_enough : (room : ℕ) (m : Read Problem) {l : Log} → log_outcome room m ≡ logged l → max_log ≤ room
unfolding log_outcome
long_enough room (refused n p) e = let z : ◌≡◌ {A = ℕ} 0 1 = cc in absurd (omega arith)
long_enough room (value p end) {l} e = go (ltb room max_log) refl e
  where
    go : (t : Bool) → ltb room max_log ≡ t → cond t (refused_with 8 0) (with_model (λ p. logged (log_of (run_for p))) refused_with (value p end)) ≡ logged l
        → max_log ≤ room
    go true h e = let z : ◌≡◌ {A = ℕ} 0 1 = cc in absurd (omega arith)
    go false h e = ltb-false room max_log h

pub any_room : {room other : ℕ} (m : Read Problem) → max_log ≤ room → max_log ≤ other → log_outcome room m ≡ log_outcome other m
unfolding log_outcome
any_room (refused n p) h k = refl
any_room {room} {other} (value p end) h k = rw (le-ltb room max_log h, le-ltb other max_log k) refl

-- a log that is there is not written into a buffer that is too short
pub short_eight : (room other : ℕ) (m : Read Problem) {l : Log} → log_outcome room m ≡ logged l → ltb other max_log ≡ true → log_outcome other m ≡ refused_with 8 0
unfolding log_outcome
short_eight room other (refused n p) e h = let z : ◌≡◌ {A = ℕ} 0 1 = cc in absurd (omega arith)
short_eight room other (value p end) e h = rw h refl

-- ---- the call

-- a buffer that is too short: the unbroken call refuses it, before the first bytes are looked at
short_same : (n : ℕ) (found : List ℕ) (room : ℕ) (m : Read Problem) → room < max_log → resumed n found (log_outcome room m) ≡ log_outcome room m
unfolding log_outcome resumed
short_same n found room (refused number place) h = refl
short_same n found room (value p end) h = rw (lt-ltb room max_log h) refl

module _ {moment : Moment} {s : List ℕ} {n : ℕ} {before : List ℕ} where
  -- from what the code has compared the buffer's length with
  pub resume_short : {after : List ℕ} {r : LogAnswer} {least : ℕ} → LogCall s moment before after r → length before < least → leb least max_log ≡ true
      → ResumeCall s moment n before after r
  unfolding resumed_outcome
  resume_short {least = least} c h k =
      resume_call (rw (short_same n before (length before) (posed moment s) (omega (arith, h, leb-true least max_log k))) c.said)

  -- the call on an array that is as long as the longest log
  module _ {blank made : List ℕ} {a : LogAnswer} (c : LogCall s moment blank made a) (enough : max_log ≤ length blank) (room : max_log ≤ length before) where
    pub resume_refused : {refusal : Refusal} → a ≡ Err refusal → ResumeCall s moment n before before (Err refusal)
    unfolding resumed_outcome resumed log_answer
    resume_refused {refusal} e =
        resume_call (rw (any_room (posed moment s) room enough) (go (log_outcome (length blank) (posed moment s)) (rw e at c.said.answered)))
      where
        go : (o : LogOutcome) → ◌≡◌ {A = LogAnswer} (Err refusal) (log_answer o) → LoggedAs (resumed n before o) before before (Err refusal)
        go (logged l) d = let z : ◌≡◌ {A = ℕ} 0 1 = cc in absurd (omega arith)
        go (refused_with k p) d = rw d (logged_refused k p before)

    pub resume_written : {size steps total : ℕ} {after : List ℕ} {r : LogAnswer} → a ≡ log_written size steps total
        → PutLog (take size made) (record { size = size; steps = steps; total = total }) n before after r → ResumeCall s moment n before after r
    unfolding resumed_outcome resumed log_answer
    resume_written {size} {steps} {total} e p =
        let w = wrote (log_outcome (length blank) (posed moment s)) (rw e at c.said) in
        let same : log_written (length (log_bytes w.log)) w.log.steps w.log.total ≡ log_written size steps total = w.answer in
        let sized : length (log_bytes w.log) ≡ size = ap (λ (x : Written). x.size) (same_written same) in
        let steps_same : w.log.steps ≡ steps = ap (λ (x : Written). x.steps) (same_written same) in
        let total_same : w.log.total ≡ total = ap (λ (x : Written). x.total) (same_written same) in
        resume_call (rw (any_room (posed moment s) room enough ∙ w.came, resumed)
        (put_as (is_begun n before (log_bytes w.log)) w.log (p.answered ∙ rw (w.bytes, sized, steps_same, total_same) refl) (p.buffer ∙ rw w.bytes refl)))

-- what was written lies within the array
module _ {moment : Moment} {s blank made : List ℕ} {a : LogAnswer} {size steps total : ℕ} (c : LogCall s moment blank made a)
    (e : a ≡ log_written size steps total) where
  pub made_within : size ≤ length made
  made_within =
      let w = wrote (log_outcome (length blank) (posed moment s)) (rw e at c.said) in
      rw (w.buffer, length-append (log_bytes w.log) (drop size blank)) (omega (arith, w.sized))

-- a part of an array
pub part_fits : (n : ℕ) (bytes : List ℕ) {room : ℕ} → length bytes ≤ room → length (take n bytes) ≤ room
part_fits n bytes h = omega (arith, h, length-take n bytes)
