-- Carrying on after a restart (document 02, E8): what is claimed of the unbroken call and of the one that carries on, for any bytes and by their contracts
-- alone. `carries_on` (proofs/Restarts) shows it.
use Rattle.std.specs.Prelude.{◌≡◌, List, ◌++◌, ℕ, ◌-◌, ◌≤◌, length, take, drop, Err}
use Rattle.dates.specs.declared.Moment.{Moment}
use Rattle.records.specs.Limits.{max_log}
use Rattle.log_form.specs.Restarts.{written_up_to, Begun}
use Rattle.records.specs.Refusals.{refuses as refuses_with}
use Rattle.records.specs.declared.refusal.Refusal.{Refusal}
use Rattle.engine.specs.Calls.{LogAnswer, log_written, LogCall, ResumeCall}

-- Of one book at one moment. `before` and `after` are the unbroken call's buffer, `found` and `left` that of the call that carries on from n bytes.
-- Ruled out: a log that is another one by where the restart fell; a beginning that some other book wrote carried on.
pub record CarriesOn (s : List ℕ) (moment : Moment) : Type 0 where
  -- Whichever byte the restart fell at, zero and the whole log included, and whatever stands behind it: the unbroken call's log and answer, later bytes as
  -- found.
  pub whichever : {before after left : List ℕ} {size steps total : ℕ} (n : ℕ) (junk : List ℕ) {r : LogAnswer} → LogCall s moment before after
      (log_written size steps total) → n ≤ size → max_log ≤ length (take n after ++ junk) → ResumeCall s moment n (take n after ++ junk) left r
      → (r ≡ log_written size steps total) × (left ≡ take size after ++ drop (size - n) junk)
  -- While a log is written, the buffer holds its first k bytes and then the old contents (log_form::put_rest). Broken off there and carried on from k bytes
  -- or fewer, the whole buffer is at last as the unbroken call leaves it. A buffer keeps its length.
  pub broken_off : {before after left : List ℕ} {size steps total : ℕ} (k : ℕ) {n : ℕ} {r : LogAnswer} → LogCall s moment before after
      (log_written size steps total) → length after ≡ length before → k ≤ size → n ≤ k
      → ResumeCall s moment n (written_up_to k (take size after) before) left r → (r ≡ log_written size steps total) × (left ≡ after)
  -- A call that carries on and writes is as an unbroken call on what it found: so it may be broken off and carried on in turn.
  pub again : {found left : List ℕ} {size steps total n : ℕ} → ResumeCall s moment n found left (log_written size steps total)
      → LogCall s moment found left (log_written size steps total)
  -- From no byte it is the unbroken call, refusals included.
  pub from_none : {found left : List ℕ} {r : LogAnswer} → ResumeCall s moment 0 found left r → LogCall s moment found left r
  -- Where the unbroken call refuses a buffer of the same length, so does this one, from any number of bytes.
  pub refuses : {before after found left : List ℕ} {n : ℕ} {refusal : Refusal} {r : LogAnswer} → LogCall s moment before after (Err refusal)
      → length found ≡ length before → ResumeCall s moment n found left r → (r ≡ Err refusal) × (left ≡ found)
  -- 15 where there is a log and what was found does not begin it, or is more than the buffer has; and nowhere else.
  pub fifteen : {before after found left : List ℕ} {size steps total n : ℕ} {r : LogAnswer} → LogCall s moment before after
      (log_written size steps total) → max_log ≤ length found → (Begun n found (take size after) → ⊥) → ResumeCall s moment n found left r
      → (r ≡ refuses_with 15 0) × (left ≡ found)
  pub fifteen_only : {before after found left : List ℕ} {size steps total n place : ℕ} → LogCall s moment before after
      (log_written size steps total) → ResumeCall s moment n found left (refuses_with 15 place) → Begun n found (take size after) → ⊥
