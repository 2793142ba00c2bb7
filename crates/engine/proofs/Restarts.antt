-- Carrying on after a restart (E8): the unbroken call and the one that carries on, by their contracts.
-- Assumes nothing.
use mathlib.Core.Path.{◌≡◌, refl, sym, ap, ap₂, ◌∙◌}
use mathlib.Core.Bool.{Bool, true, false, cond}
use mathlib.Core.List.{List, ◌++◌}
use Prim.Native.Nat.{ℕ, ◌+◌, ◌-◌, ◌≤◌}
use native.Mathlib.Omega.{arith}
use lib.Dec.{ltb}
use lib.ListN.{length, take, drop, length-append, length-drop}
use lib.Seq.{take-take, take-append-le, length-take-le, drop-append-add, drop-drop}
use borrow.Author.Tests.{ltb-false}
use Rattle.dates.specs.declared.Moment.{Moment}
use Rattle.records.specs.Limits.{max_log}
use Rattle.log_form.specs.Format.{log_bytes}
use Rattle.log_form.specs.Restarts.{written_up_to, is_begun, Begun}
use Rattle.log_form.specs.Laws.Restarts.{begun_is, begun_not}
use Rattle.std.specs.Prelude.{Err}
use Rattle.records.specs.Refusals.{number_of, refuses}
use Rattle.records.specs.declared.refusal.Refusal.{Refusal}
use Rattle.engine.specs.Calls.{LogAnswer, log_written}
use Rattle.engine.specs.Calls.{posed, LogOutcome, logged, refused_with, log_outcome, log_answer, buffer_after, LoggedAs, LogCall}
use Rattle.engine.specs.Calls.{resumed, resumed_outcome, ResumeCall}
use Rattle.engine.specs.Restarts.{CarriesOn}
use Rattle.engine.proofs.NineLaws.{kinds_same}
use Rattle.engine.proofs.LogLaws.{log_call, log_said}
use Rattle.engine.proofs.ResumeLaws.{Wrote, wrote, long_enough, any_room, short_eight}

-- ---- carried on

module _ {s : List ℕ} {moment : Moment} {before after : List ℕ} {size steps total : ℕ} (c : LogCall s moment before after (log_written size steps total)) where
  abbrev unbroken : Wrote (log_outcome (length before) (posed moment s)) before after size steps total
  unbroken = wrote (log_outcome (length before) (posed moment s)) c.said

  -- the log's outcome in any other buffer that is long enough
  same_log : {room : ℕ} → max_log ≤ room → log_outcome room (posed moment s) ≡ logged unbroken.log
  same_log h = any_room (posed moment s) h (long_enough _ (posed moment s) unbroken.came) ∙ unbroken.came

  module _ {n : ℕ} {found left : List ℕ} {r : LogAnswer} (room : max_log ≤ length found) (d : ResumeCall s moment n found left r) where
    came_to : LoggedAs (cond (is_begun n found (take size after)) (logged unbroken.log) (refused_with 15 0)) found left r
    unfolding resumed_outcome resumed
    came_to = rw unbroken.bytes (rw (same_log room, resumed) at d.said)

    goes_on : Begun n found (take size after) → (r ≡ log_written size steps total) × (left ≡ take size after ++ drop size found)
    unfolding buffer_after
    goes_on b =
        let l = rw (begun_is n found (take size after) b) at came_to in
        (l.answered ∙ unbroken.answer, l.buffer ∙ ap₂ (λ (xs : List ℕ) (k : ℕ). xs ++ drop k found) (sym unbroken.bytes) (sym unbroken.sized))

    gives_fifteen : (Begun n found (take size after) → ⊥) → (r ≡ refuses 15 0) × (left ≡ found)
    unfolding log_answer buffer_after
    gives_fifteen f = let l = rw (begun_not n found (take size after) f) at came_to in (l.answered, l.buffer)

  -- ---- found: first bytes of the log, and then anything

  length_after : size ≤ length after
  length_after = rw (unbroken.buffer, length-append (log_bytes unbroken.log) (drop size before)) (omega (arith, unbroken.sized))

  module _ (n k : ℕ) (junk : List ℕ) (h : n ≤ k) (l : k ≤ size) where
    length_front : length (take k after) ≡ k
    length_front = length-take-le k after (omega (arith, length_after))

    begins : Begun n (take k after ++ junk) (take size after)
    begins = record {
      in_buffer = omega (arith, length-append (take k after) junk, length_front);
      in_log = omega (arith, length-take-le size after length_after);
      same =
          take-append-le n (take k after) junk (omega (arith, length_front)) ∙ take-take n k after h ∙ sym (take-take n size after (omega arith));
    }

    beyond : drop size (take k after ++ junk) ≡ drop (size - k) junk
    beyond =
        let e : size ≡ length (take k after) + (size - k) = omega (arith, length_front) in
        ap (λ j. drop j (take k after ++ junk)) e ∙ drop-append-add (take k after) junk (size - k)

  carried : (n : ℕ) (junk : List ℕ) {left : List ℕ} {r : LogAnswer} → n ≤ size → max_log ≤ length (take n after ++ junk)
      → ResumeCall s moment n (take n after ++ junk) left r → (r ≡ log_written size steps total) × (left ≡ take size after ++ drop (size - n) junk)
  carried n junk h room d =
      let g = goes_on room d (begins n n junk (omega arith) h) in
      (g.0, g.1 ∙ ap (λ l. take size after ++ l) (beyond n n junk (omega arith) h))

  broken_off : (k : ℕ) {n : ℕ} {left : List ℕ} {r : LogAnswer} → length after ≡ length before → k ≤ size → n ≤ k
      → ResumeCall s moment n (written_up_to k (take size after) before) left r → (r ≡ log_written size steps total) × (left ≡ after)
  unfolding written_up_to
  broken_off k {n} same h l d =
      let e = rw (take-take k size after h) at d in
      let long = long_enough (length before) (posed moment s) unbroken.came in
      let room : max_log ≤ length (take k after ++ drop k before) =
      omega (arith, length-append (take k after) (drop k before), length_front n k (drop k before) l h, length-drop k before) in
      let g = goes_on room e (begins n k (drop k before) l h) in
      let all : k + (size - k) ≡ size = omega arith in (
        g.0,
        g.1 ∙ ap (λ xs. take size after ++ xs) (beyond n k (drop k before) l h ∙ drop-drop (size - k) k before ∙ ap (λ j. drop j before) all)
            ∙ ap (λ xs. xs ++ drop size before) unbroken.bytes ∙ sym unbroken.buffer,
      )

  only_fifteen : {n place : ℕ} {found left : List ℕ} → ResumeCall s moment n found left (refuses 15 place) → Begun n found (take size after) → ⊥
  unfolding resumed_outcome resumed log_answer
  only_fifteen {found = found} d b = go (ltb (length found) max_log) refl
    where
      go : (t : Bool) → ltb (length found) max_log ≡ t → ⊥
      go true h =
          let l = rw (short_eight _ _ (posed moment s) unbroken.came h, resumed) at d.said in
          omega (arith, ap number_of (kinds_same 15 _ 8 0 l.answered))
      go false h = let e = (goes_on (ltb-false _ _ h) d b).0 in let z : ◌≡◌ {A = ℕ} 0 1 = cc in omega arith

-- ---- the claims

module _ {s : List ℕ} {moment : Moment} {found left : List ℕ} where
  -- what was carried on and written
  as_unbroken : {n size steps total : ℕ} → ResumeCall s moment n found left (log_written size steps total)
      → LogCall s moment found left (log_written size steps total)
  unfolding resumed_outcome resumed log_answer
  as_unbroken {n} {size} {steps} {total} d = log_said (go (log_outcome (length found) (posed moment s)) d.said)
    where
      go : (o : LogOutcome) → LoggedAs (resumed n found o) found left (log_written size steps total)
          → LoggedAs o found left (log_written size steps total)
      go (refused_with k p) l = l
      go (logged g) l = at (is_begun n found (log_bytes g)) l
        where
          at : (b : Bool) → LoggedAs (cond b (logged g) (refused_with 15 0)) found left (log_written size steps total)
              → LoggedAs (logged g) found left (log_written size steps total)
          at true l = l
          at false l = let e = l.answered in let z : ◌≡◌ {A = ℕ} 0 1 = cc in absurd (omega arith)

  -- a refusal that comes before 15
  refused_alike : {n : ℕ} {refusal : Refusal} {before after : List ℕ} {r : LogAnswer} → LogCall s moment before after (Err refusal)
      → length found ≡ length before → ResumeCall s moment n found left r → (r ≡ Err refusal) × (left ≡ found)
  unfolding resumed_outcome resumed log_answer buffer_after
  refused_alike {n} {refusal} {before} {after} {r} c same d =
      go (log_outcome (length before) (posed moment s)) c.said (rw same at d.said)
    where
      go : (o : LogOutcome) → LoggedAs o before after (Err refusal) → LoggedAs (resumed n found o) found left r
          → (r ≡ Err refusal) × (left ≡ found)
      go (logged l) w x = let e = w.answered in let z : ◌≡◌ {A = ℕ} 0 1 = cc in absurd (omega arith)
      go (refused_with k p) w x = (x.answered ∙ sym w.answered, x.buffer)

pub carries_on : (s : List ℕ) (moment : Moment) → CarriesOn s moment
carries_on s moment =
    record {
      whichever = λ n junk c h room d. carried c n junk h room d;
      broken_off = λ k c same h l d. broken_off c k same h l d;
      again = λ d. as_unbroken d;
      from_none = λ d. log_call d;
      refuses = λ c same d. refused_alike c same d;
      fifteen = λ c room f d. gives_fifteen c room d f;
      fifteen_only = λ c d b. only_fifteen c d b;
    }
