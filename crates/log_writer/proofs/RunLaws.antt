-- The loop of the log: what holds after some steps, what one more changes, and the end.
-- Assumes nothing.
use mathlib.Core.Path.{◌≡◌, refl, sym, ap, ap₂, ◌∙◌}
use mathlib.Core.List.{List, [], ◌∷◌, ◌++◌, append_assoc, append-nil}
use mathlib.Core.Bool.{true, false}
use Prim.Native.Nat.{ℕ, zero, suc, ◌+◌, ◌-◌, ◌*◌, ◌^◌, ◌≤◌, ◌<◌}
use native.Mathlib.Nat.{zero-add}
use native.Mathlib.Omega.{arith}
use lib.Count.{ones-le}
use lib.ListN.{length, length-append}
use Rattle.sets.specs.Sets.{union, count, Within}
use Rattle.sets.specs.Laws.Bits.{union_lt}
use Rattle.sets.specs.Laws.Subset.{within_le, within_trans}
use Rattle.sets.specs.Laws.Count.{ones_union}
use Rattle.literals.specs.declared.LiteralSet.{LiteralSet}
use Rattle.records.specs.Limits.{max_choices, max_step_bytes, max_log}
use Rattle.consequence.specs.Laws.Masks.{to_theory, of_theory}
use Rattle.step.specs.Meaning.{Step, Answer, nothing_left, step, step_of, goals}
use Rattle.step.specs.Promises.{Asked, mask_question, next_of}
use Rattle.step.specs.Laws.TheStep.{asked_sound, goals_choices}
use Rattle.std.specs.Prelude.{Option, Some, None}
use Rattle.log_form.specs.declared.Step as shown
use Rattle.log_form.specs.Format.{records_bytes, ok_bytes, log_bytes}
use Rattle.log_writer.specs.Meaning.{with_new, run_from, run_of, record_of, costs_written, log_of}
use Rattle.log_writer.specs.Promises.{put_step, step_bytes, steps_bytes, total_of, LogAsked, LogWritten}
use Rattle.log_writer.specs.Laws.Growth as growth
use Rattle.log_form.proofs.ListLaws.{list_length}
use Rattle.log_form.proofs.RecordLaws.{step_length, ok_length}
use Rattle.log_form.proofs.StoreLaws.{put_append, put_none, put_length, put_whole}
use Rattle.log_form.specs.Promises.{Put}

-- ---- steps in a row

bytes_snoc : (ss : List Step) (s : Step) → steps_bytes (ss ++ (s ∷ [])) ≡ steps_bytes ss ++ step_bytes s
unfolding records_bytes
bytes_snoc [] s = append-nil (step_bytes s)
bytes_snoc (x ∷ ss) s = ap (λ l. step_bytes x ++ l) (bytes_snoc ss s) ∙ sym (append_assoc (step_bytes x) (steps_bytes ss) (step_bytes s))

total_snoc : (ss : List Step) (s : Step) → total_of (ss ++ (s ∷ [])) ≡ total_of ss + s.cost
unfolding costs_written
total_snoc [] s = omega arith
total_snoc (x ∷ ss) s = omega (arith, total_snoc ss s)

-- ---- the next step's answer, taken back

-- a step is made of the parts that were answered
pub of_parts : {s : Step} {x : shown.Step} → s.goal ≡ x.goal → record { yes = s.reasons_on; no = s.reasons_off } ≡ x.reasons
    → record { yes = s.new_on; no = s.new_off } ≡ x.new → s.cost ≡ x.cost → s ≡ put_step x
of_parts a b c d = rw (← a, ← b, ← c, ← d) refl

pub answered_step : (a : Answer) {x : shown.Step} {r : Option shown.Step} → r ≡ next_of a → r ≡ Some x → a ≡ step (put_step x)
answered_step nothing_left e f = let z : ◌≡◌ {A = ℕ} 0 1 = cc in absurd (omega arith)
answered_step (step s) {x} e f = same (sym e ∙ f)
  where
    same : next_of (step s) ≡ Some x → step s ≡ step (put_step x)
    same h = ap step (of_parts (cc) (cc) (cc) (cc))

pub answered_nothing : (a : Answer) {r : Option shown.Step} → r ≡ next_of a → r ≡ None → a ≡ nothing_left
answered_nothing nothing_left e f = refl
answered_nothing (step s) e f = let z : ◌≡◌ {A = ℕ} 0 1 = cc in absurd (omega arith)

-- ---- the log

module _ {n : ℕ} {ys ns : List ℕ} {ch : ℕ} {table : List (List ℕ)} {c facts : LiteralSet} (lg : LogAsked n ys ns ch table c facts) where
  module _ {known : LiteralSet} (a : Asked n ys ns ch table c known) {s : Step} (e : step_of (mask_question n ys ns ch table c known) ≡ step s) where
    -- what is asked next
    pub asked_more : Asked n ys ns ch table c (record { yes = union known.yes s.new_on; no = union known.no s.new_off })
    asked_more = record {
      posed = a.posed;
      few = a.few;
      choices_below = a.choices_below;
      rows = a.rows;
      yes_choices = a.yes_choices;
      no_choices = a.no_choices;
      known_yes = (growth.sound_more lg.forced (asked_sound a) e).known_on;
      known_no = (growth.sound_more lg.forced (asked_sound a) e).known_off;
      model = a.model;
      forces = λ f m. of_theory ch ((growth.sound_more lg.forced (asked_sound a) e).forces f (to_theory ch m));
      cheap = a.cheap;
    }

    pub goals_fewer : count (goals (mask_question n ys ns ch table c
        (record { yes = union known.yes s.new_on; no = union known.no s.new_off }))) < count (goals (mask_question n ys ns ch table c known))
    goals_fewer = growth.goals_fewer lg.forced (asked_sound a) e

    -- ---- how long the record is

    -- a set over choices
    few : (on off : ℕ) → Within on c.yes → Within off c.no → union on off < 2 ^ max_choices
    few on off x y =
        union_lt max_choices on off (omega (arith, a.rows, within_le on ch (within_trans _ _ _ x a.yes_choices)))
        (omega (arith, a.rows, within_le off ch (within_trans _ _ _ y a.no_choices)))

    pub step_short : length (step_bytes s) ≤ max_step_bytes
    step_short =
        let is = growth.is lg.forced (asked_sound a) e in
        let reasons : ℕ = union s.reasons_on s.reasons_off in
        let learnt : ℕ = union s.new_on s.new_off in
        let reasons_few = few _ _ (within_trans _ _ _ is.is_candidate.on_known a.known_yes)
        (within_trans _ _ _ is.is_candidate.off_known a.known_no) in
        let learnt_few = few _ _ (growth.new_within lg.forced (asked_sound a) e true) (growth.new_within lg.forced (asked_sound a) e false) in
        omega (
          arith,
          step_length (record_of s),
          list_length s.reasons_on s.reasons_off,
          list_length s.new_on s.new_off,
          ones_union reasons learnt (growth.reasons_new_apart lg.forced (asked_sound a) e),
          ones-le max_choices (union reasons learnt) (union_lt max_choices reasons learnt reasons_few learnt_few),
        )

  -- ---- the loop

  -- after some steps: they are written, and as many goals are fewer
  pub record Logging (before bytes : List ℕ) (at : ℕ) (known : LiteralSet) (steps total : ℕ) : Type 0 where
    pub taken : List Step
    pub turns : ℕ
    pub so_far : run_of (mask_question n ys ns ch table c facts) ≡ taken ++ run_from turns (mask_question n ys ns ch table c known)
    pub enough : count (goals (mask_question n ys ns ch table c known)) ≤ turns
    pub room : max_log ≤ length before
    pub put : Put before 0 (steps_bytes taken) bytes at
    pub counted : steps ≡ length taken
    pub summed : total ≡ total_of taken
    pub asked : Asked n ys ns ch table c known
    pub left : steps + count (goals (mask_question n ys ns ch table c known)) ≤ max_choices
    pub short : at ≤ max_step_bytes * steps
    pub cheap : total ≤ 65535 * steps

  goals_few : (known : LiteralSet) → Asked n ys ns ch table c known → count (goals (mask_question n ys ns ch table c known)) ≤ max_choices
  goals_few known a =
      ones-le max_choices _ (omega (arith, a.rows, within_le _ ch (goals_choices (mask_question n ys ns ch table c known) (asked_sound a))))

  pub logging_none : {before : List ℕ} → max_log ≤ length before → Logging before before 0 facts 0 0
  unfolding run_of records_bytes costs_written
  logging_none r = record {
    taken = [];
    turns = count (goals (mask_question n ys ns ch table c facts));
    so_far = refl;
    enough = omega arith;
    room = r;
    put = put_none _ 0;
    counted = refl;
    summed = refl;
    asked = lg.asked;
    left = omega (arith, goals_few facts lg.asked);
    short = omega arith;
    cheap = omega arith;
  }

  module _ {before bytes : List ℕ} {at : ℕ} {known : LiteralSet} {steps total : ℕ} (w : Logging before bytes at known steps total) where
    bytes_room : max_log ≤ length bytes
    bytes_room = omega (arith, put_length _ w.put, w.room)

    module _ {s : Step} (e : step_of (mask_question n ys ns ch table c known) ≡ step s) where
      pub step_open : steps < max_choices
      step_open = omega (arith, w.left, goals_fewer w.asked e)

      pub logging_room : at + length (step_bytes s) ≤ length bytes
      logging_room = omega (arith, bytes_room, w.short, step_open, step_short w.asked e)

      pub logging_more : {out : List ℕ} {next : ℕ} → s.cost < 65536 → Put bytes at (step_bytes s) out next
          → Logging before out next (record { yes = union known.yes s.new_on; no = union known.no s.new_off }) (steps + 1) (total + s.cost)
      unfolding run_from with_new
      logging_more {out} {next} k p = record {
        taken = w.taken ++ (s ∷ []);
        turns = w.turns - 1;
        so_far = w.so_far ∙ ap (λ r. w.taken ++ r) (one (w.turns - 1) (omega (arith, goals_fewer w.asked e, w.enough)))
            ∙ sym (append_assoc w.taken (s ∷ []) _);
        enough = omega (arith, goals_fewer w.asked e, w.enough);
        room = w.room;
        put = rw (bytes_snoc w.taken s) (put_append (steps_bytes w.taken) (step_bytes s) w.put p);
        counted = rw (length-append w.taken (s ∷ []), w.counted) refl;
        summed = rw (total_snoc w.taken s, w.summed) refl;
        asked = asked_more w.asked e;
        left = omega (arith, w.left, goals_fewer w.asked e);
        short = omega (arith, w.short, p.place, step_short w.asked e);
        cheap = omega (arith, w.cheap);
      }
        where
          one : (t : ℕ) → w.turns ≡ suc t → run_from w.turns (mask_question n ys ns ch table c known)
              ≡ s ∷ run_from t (mask_question n ys ns ch table c (record { yes = union known.yes s.new_on; no = union known.no s.new_off }))
          one t q = rw (q, e, run_from) refl

    pub end_room : at + length (ok_bytes steps total) ≤ length bytes
    end_room = omega (arith, ok_length steps total, bytes_room, w.short, w.left)

    -- the end: nothing is left
    last_left : (t : ℕ) → step_of (mask_question n ys ns ch table c known) ≡ nothing_left → run_from t (mask_question n ys ns ch table c known) ≡ []
    unfolding run_from
    last_left zero e = refl
    last_left (suc t) e = rw (e, run_from) refl

    run_done : step_of (mask_question n ys ns ch table c known) ≡ nothing_left → run_of (mask_question n ys ns ch table c facts) ≡ w.taken
    run_done e = w.so_far ∙ ap (λ r. w.taken ++ r) (last_left w.turns e) ∙ append-nil w.taken

    written : {after : List ℕ} {size : ℕ} → Put bytes at (ok_bytes steps total) after size
        → LogWritten w.taken before after (record { size = size; steps = steps; total = total })
    unfolding log_bytes
    written {after} {size} o =
        let same : ok_bytes steps total ≡ ok_bytes (length w.taken) (total_of w.taken) = ap₂ ok_bytes w.counted w.summed in
        let all : Put before 0 (log_bytes (log_of w.taken)) after size =
        put_append (steps_bytes w.taken) (ok_bytes (length w.taken) (total_of w.taken)) w.put (rw same at o) in
        let long : size ≡ length (log_bytes (log_of w.taken)) = all.place ∙ zero-add (length (log_bytes (log_of w.taken))) in
        let fits : length (log_bytes (log_of w.taken)) ≤ max_log = omega (arith, long, o.place, ok_length steps total, w.short, w.left) in
        record {
          buffer = put_whole (log_bytes (log_of w.taken)) all (omega (arith, fits, w.room));
          answered = rw (long, w.counted, w.summed) refl;
          short = fits;
        }

    -- what is written where nothing is left
    pub logging_ended : {after : List ℕ} {size : ℕ} → step_of (mask_question n ys ns ch table c known) ≡ nothing_left
        → Put bytes at (ok_bytes steps total) after size
        → LogWritten (run_of (mask_question n ys ns ch table c facts)) before after (record { size = size; steps = steps; total = total })
    logging_ended e o = rw (run_done e) (written o)
