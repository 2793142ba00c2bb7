-- Putting a log record by record, as its bytes are read.
-- Assumes nothing.
use mathlib.Core.Path.{◌≡◌, refl, sym, ap, ◌∙◌}
use mathlib.Core.Bool.{Bool, true, false}
use mathlib.Core.List.{List, [], ◌∷◌, ◌++◌, append_assoc}
use Prim.Native.Nat.{ℕ, zero, suc, ◌+◌, ◌-◌, ◌≤◌, ◌<◌}
use native.Mathlib.Numerals.{add-one}
use native.Mathlib.Omega.{arith}
use lib.ListN.{length, get_or, take, drop, length-drop}
use lib.Seq.{take_all, drop-drop}
use Rattle.log_form.specs.Format.{Log, ST, begins, is_log, read_records, read_log}
use Rattle.log_form.specs.Laws.Parsing.{Bytes}
use Rattle.log_form.specs.Promises.{Put}
use Rattle.printing.specs.Text.{step_text, done_text, log_text}
use Rattle.printing.specs.Fields.{record_size, record_in, total_in}
use Rattle.printing.specs.Promises.{LinePut, Printable, LogPut}
use Rattle.printing.specs.declared.lines.Line.{Line}
use Rattle.log_form.proofs.LeftLaws.{Left, left_all, left_as, left_part, left_last, part_room}
use Rattle.printing.proofs.FrontLaws.{put_front}
use Rattle.printing.proofs.ReadLaws.{StepRead, step_read, EndRead, end_read}
use Rattle.printing.proofs.LogLaws.{rest_text, step_text_lem, end_text, no_turns, same_log, text_length}

-- The bytes from a place on, as the code cuts them off.
abbrev pub tail : List ℕ → ℕ → List ℕ
tail log from = take (length log - from) (drop from log)

pub tail_is : (log : List ℕ) (from : ℕ) → tail log from ≡ drop from log
tail_is log from = take_all (length log - from) (drop from log) (omega (arith, length-drop from log))

-- after so many bytes more
tail_tail : (log : List ℕ) (from size : ℕ) → drop size (tail log from) ≡ tail log (from + size)
tail_tail log from size = ap (drop size) (tail_is log from) ∙ drop-drop size from log ∙ sym (tail_is log (from + size))

-- with any number of turns
next_step : (choices turns place : ℕ) (s : List ℕ) {l : Log} → read_records choices turns place s ≡ is_log l → begins ST s ≡ true
    → (fewer : ℕ) × StepRead choices fewer s l
next_step choices zero place s e b = no_turns choices place s e
next_step choices (suc turns) place s e b = (turns, step_read choices turns place s e b)

no_step : (choices turns place : ℕ) (s : List ℕ) {l : Log} → read_records choices turns place s ≡ is_log l → begins ST s ≡ false → EndRead s l
no_step choices zero place s e b = no_turns choices place s e
no_step choices (suc turns) place s e b = end_read choices turns place s e b

read_long : (choices turns place : ℕ) (s : List ℕ) {l : Log} → read_records choices turns place s ≡ is_log l → 7 ≤ length s
read_long choices turns place s e = go (begins ST s) refl
  where
    go : (b : Bool) → begins ST s ≡ b → 7 ≤ length s
    go true b = omega (arith, (next_step choices turns place s e b).1.fits)
    go false b = omega (arith, (no_step choices turns place s e b).whole)

module _ (out₀ log : List ℕ) where
  -- The log is put up to the byte `from`; the line that comes next has this number.
  pub record Walking (out : List ℕ) (at from number : ℕ) : Type 0 where
    pub choices : ℕ
    pub says : Log
    pub whole : read_log choices log ≡ is_log says
    pub room : length (log_text says) ≤ length out₀
    pub within : from ≤ length log
    pub counted : number ≤ suc from
    pub turns : ℕ
    pub place : ℕ
    pub rest : Log
    pub reads : read_records choices turns place (tail log from) ≡ is_log rest
    pub left : Left out₀ 0 (log_text says) out at (rest_text number rest ∷ [])

  pub walking_none : Printable log out₀ → Bytes log → Walking out₀ 0 0 1
  unfolding read_log log_text rest_text
  walking_none w h = record {
    choices = w.choices;
    says = w.says;
    whole = w.reads;
    room = omega (arith, w.room, text_length w.choices (suc (length log)) 0 1 log h (omega (arith, w.short)) w.reads);
    within = omega arith;
    counted = omega arith;
    turns = suc (length log);
    place = 0;
    rest = w.says;
    reads = rw (tail_is log 0) w.reads;
    left = left_all out₀ 0 (log_text w.says);
  }

  module _ {out : List ℕ} {at from number : ℕ} (w : Walking out at from number) where
    pub walking_long : 7 ≤ length (tail log from)
    walking_long = read_long w.choices w.turns w.place (tail log from) w.reads

    module _ (b : begins ST (tail log from) ≡ true) where
      step : (fewer : ℕ) × StepRead w.choices fewer (tail log from) w.rest
      step = next_step w.choices w.turns w.place (tail log from) w.reads b

      pub step_fits : record_size (tail log from) ≤ length (tail log from)
      step_fits = step.1.fits

      next : Left out₀ 0 (log_text w.says) out at (step_text number (record_in (tail log from)) ∷ rest_text (suc number) step.1.rest ∷ [])
      next = left_as _ w.left (ap (λ t. t ++ []) (step_text_lem number step.1)
          ∙ append_assoc (step_text number (record_in (tail log from))) (rest_text (suc number) step.1.rest) [])

      pub step_room : at + length (step_text number (record_in (tail log from))) ≤ length out
      step_room = part_room next (omega (arith, w.room))

      module _ {out' : List ℕ} {r : Line} (p : LinePut out at number (tail log from) out' r) where
        pub step_within : from + r.size ≤ length log
        step_within = omega (arith, p.length_is, step_fits, ap length (tail_is log from), length-drop from log, w.within)

        pub step_less : length log - (from + r.size) < length log - from
        step_less = omega (arith, p.length_is, step_within)

        pub walking_more : Walking out' r.next (from + r.size) (number + 1)
        walking_more = record {
          choices = w.choices;
          says = w.says;
          whole = w.whole;
          room = w.room;
          within = step_within;
          counted = omega (arith, p.length_is, w.counted);
          turns = step.0;
          place = step.1.place;
          rest = step.1.rest;
          reads = rw (p.length_is, ← tail_tail log from (record_size (tail log from))) step.1.reads;
          left = rw (add-one number) (left_part next p.put);
        }

    module _ (b : begins ST (tail log from) ≡ false) where
      last : Left out₀ 0 (log_text w.says) out at (done_text (get_or (tail log from) 2 0) (total_in (tail log from)) ∷ [])
      last = left_as _ w.left (ap (λ t. t ++ []) (end_text number (no_step w.choices w.turns w.place (tail log from) w.reads b)))

      pub end_room : at + length (done_text (get_or (tail log from) 2 0) (total_in (tail log from))) ≤ length out
      end_room = part_room last (omega (arith, w.room))

      pub walking_end : {out' : List ℕ} {r : ℕ} → Put out at (done_text (get_or (tail log from) 2 0) (total_in (tail log from))) out' r → LogPut log out₀ out' r
      unfolding read_log
      walking_end {out'} {r} p = record {
        text_of = λ choices l e.
            let same : l ≡ w.says = same_log choices w.choices (suc (length log)) (suc (length log)) 0 0 log e w.whole in
            rw same (put_front (left_last last p) w.room);
      }
