-- The text of the records that are left, as a log is read: its first line, its length, and that the choices do not matter to it.
-- Assumes nothing.
use mathlib.Core.Path.{◌≡◌, refl, sym, ap, ◌∙◌}
use mathlib.Core.Logic.{◌⊎◌, inl, inr, ⊎_elim}
use mathlib.Core.Bool.{Bool, true, false}
use mathlib.Core.List.{List, ◌++◌, append_assoc}
use Prim.Native.Nat.{ℕ, zero, suc, ◌+◌, ◌-◌, ◌*◌, ◌≤◌, ◌<◌}
use native.Mathlib.Omega.{arith}
use lib.ListN.{length, get_or, take, drop, length-append, length-drop, length-take}
use lib.Seq.{get_or-drop}
use Rattle.log_form.specs.Format.{Log, ST, begins, is_log, read_records}
use Rattle.log_form.specs.Laws.Parsing.{Bytes}
use Rattle.printing.specs.Text.{step_text, steps_text, done_text}
use Rattle.printing.specs.Fields.{facts_end, new_end, record_size, record_in, total_in}
use Rattle.printing.proofs.DecimalLaws.{decimal_short}
use Rattle.printing.proofs.LiteralLaws.{literal_length, literals_length}
use Rattle.printing.proofs.LineLaws.{step_length, done_length}
use Rattle.printing.proofs.ReadLaws.{StepRead, step_read, EndRead, end_read}

-- The text of the records of a log that are left, the first of them with this number, and of its end.
unfoldable pub rest_text : ℕ → Log → List ℕ
rest_text number l = steps_text number l.records ++ done_text l.steps l.total

pub step_text_lem : {choices turns : ℕ} {s : List ℕ} {l : Log} (number : ℕ) (w : StepRead choices turns s l)
    → rest_text number l ≡ step_text number (record_in s) ++ rest_text (suc number) w.rest
unfolding rest_text steps_text
step_text_lem {s = s} number w = rw w.is (append_assoc (step_text number (record_in s)) (steps_text (suc number) w.rest.records)
    (done_text w.rest.steps w.rest.total))

pub end_text : {s : List ℕ} {l : Log} (number : ℕ) → EndRead s l → rest_text number l ≡ done_text (get_or s 2 0) (total_in s)
unfolding rest_text steps_text
end_text number w = rw w.is refl

-- an ST record comes next, or none does
split : (b : Bool) → (b ≡ true) ⊎ (b ≡ false)
split true = inl refl
split false = inr refl

-- no turns, no log
pub no_turns : {A : Type 0} (choices place : ℕ) (s : List ℕ) {l : Log} → read_records choices zero place s ≡ is_log l → A
unfolding read_records
no_turns choices place s e = let z : ◌≡◌ {A = ℕ} 0 1 = cc in absurd (omega arith)

-- ---- the choices do not matter to what a log says

ends_same : {s : List ℕ} {l l' : Log} → EndRead s l → EndRead s l' → l ≡ l'
ends_same w w' = w.is ∙ sym w'.is

steps_same : {choices choices' turns turns' : ℕ} {s : List ℕ} {l l' : Log} (w : StepRead choices turns s l) (w' : StepRead choices' turns' s l')
    → w.rest ≡ w'.rest → l ≡ l'
steps_same w w' e = w.is ∙ rw e (sym w'.is)

pub same_log : (choices choices' turns turns' place place' : ℕ) (s : List ℕ) {l l' : Log}
    → read_records choices turns place s ≡ is_log l → read_records choices' turns' place' s ≡ is_log l' → l ≡ l'
same_log choices choices' zero turns' place place' s e f = no_turns choices place s e
same_log choices choices' (suc turns) zero place place' s e f = no_turns choices' place' s f
same_log choices choices' (suc turns) (suc turns') place place' s e f = ⊎_elim
    (λ b. let w = step_read choices turns place s e b in
    let w' = step_read choices' turns' place' s f b in
    steps_same w w' (same_log choices choices' turns turns' w.place w'.place (drop (record_size s) s) w.reads w'.reads))
    (λ b. ends_same (end_read choices turns place s e b) (end_read choices' turns' place' s f b))
    (split (begins ST s))

-- ---- how long the text is

bytes_drop : (n : ℕ) (s : List ℕ) → Bytes s → Bytes (drop n s)
bytes_drop n s h i = rw (get_or-drop n s i 0) (h (n + i))

-- six bytes for each byte of the record
record_length : (number : ℕ) (s : List ℕ) → Bytes s → number < 1000 → length (step_text number (record_in s)) ≤ 6 * record_size s
unfolding record_in
record_length number s h k =
    omega (
      arith,
      step_length number (record_in s),
      decimal_short 2 number (omega arith),
      literal_length (get_or s 2 0),
      literals_length (take (get_or s 3 0) (drop 4 s)),
      length-take (get_or s 3 0) (drop 4 s),
      literals_length (take (get_or s (facts_end s) 0) (drop (facts_end s + 1) s)),
      length-take (get_or s (facts_end s) 0) (drop (facts_end s + 1) s),
      decimal_short 4 (record_in s).cost (omega (arith, h (new_end s), h (new_end s + 1))),
    )

end_length : (s : List ℕ) → Bytes s → length (done_text (get_or s 2 0) (total_in s)) ≤ 42
end_length s h = omega (arith, done_length (get_or s 2 0) (total_in s) (h 2) (omega (arith, h 3, h 4, h 5, h 6)))

pub text_length : (choices turns place number : ℕ) (s : List ℕ) {l : Log}
    → Bytes s → 7 * number + length s ≤ 7000 → read_records choices turns place s ≡ is_log l → length (rest_text number l) ≤ 6 * length s
text_length choices zero place number s h k e = no_turns choices place s e
text_length choices (suc turns) place number s h k e = ⊎_elim
    (λ b. let w = step_read choices turns place s e b in
    let shorter : length (drop (record_size s) s) ≡ length s - record_size s = length-drop (record_size s) s in
    omega (
      arith,
      w.fits,
      shorter,
      ap length (step_text_lem number w),
      length-append (step_text number (record_in s)) (rest_text (suc number) w.rest),
      record_length number s h (omega (arith, w.fits)),
      text_length choices turns w.place (suc number) (drop (record_size s) s) (bytes_drop (record_size s) s h) (omega (arith, w.fits, shorter)) w.reads,
    ))
    (λ b. let w = end_read choices turns place s e b in omega (arith, w.whole, ap length (end_text number w), end_length s h))
    (split (begins ST s))
