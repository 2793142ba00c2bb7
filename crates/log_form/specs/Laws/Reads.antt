-- Writing and reading a log: a log that bytes can hold is read back from its bytes, and bytes that are read as a log are that log's bytes.
-- Assumes nothing.
use Rattle.std.specs.Prelude.{◌≡◌, Bool, true, false, cond, ◌&&◌, eqb, ltb, pos, negsuc, length}
use Rattle.std.proofs.Math.Path.{refl, ap, ap₂}
use mathlib.Core.List.{List, [], ◌∷◌, ◌++◌, map, append_assoc}
use Prim.Native.Nat.{ℕ, zero, suc, ◌+◌, ◌-◌, ◌*◌, ◌/◌, ◌%◌, ◌^◌, ◌≤◌, ◌<◌}
use Rattle.std.proofs.Math.Nat.{div-div-eq-div-mul}
use Rattle.std.proofs.Common.{arith, length-append, take_at, drop_at, lt-ltb, le-ltb, le-leb, eqb-true}
use Rattle.std.proofs.Math.Dec.{leb}
use Rattle.std.proofs.Math.ListN.{get_or, length-map}
use Rattle.sets.specs.Sets.{has}
use Rattle.sets.specs.Laws.Bits.{member_lt}
use Rattle.sets.specs.Laws.Subset.{has_true}
use Rattle.literals.specs.Literal.{Literal, variable, of_byte, byte_of}
use Rattle.literals.specs.Laws.{and_both}
use Rattle.log_form.specs.Format.{StepRecord, Log, ST, OK, two_bytes, four_bytes, list_bytes, record_bytes, records_bytes, ok_bytes, log_bytes, Parsed, parsed}
use Rattle.log_form.specs.Format.{malformed, parse_bytes, begins, rising_over, parse_list, parse_record, LogRead, is_log, not_log, with_record, read_end}
use Rattle.log_form.specs.Format.{read_records, read_log}
use Rattle.log_form.specs.Laws.Parsing.{Each, Bytes, literal_back, map_back, two_written, four_written, all_elements, Ensures, of_parsed, of_malformed}
use Rattle.log_form.specs.Laws.Parsing.{ensures_cond, ensures_and, cut, begins_with}

-- ---- what bytes can hold

-- A record whose bytes are read back as it: its goal is over a variable up to 127, its lists rise strictly over choices, its cost fits two bytes.
pub record Fits (choices : ℕ) (r : StepRecord) : Type 0 where
  pub goal_fits : variable r.goal ≤ 127
  pub reasons_rise : rising_over choices 0 r.reasons ≡ true
  pub new_rise : rising_over choices 0 r.new ≡ true
  pub cost_fits : r.cost < 65536

-- Each record fits.
abbrev pub AllFit : ℕ → List StepRecord → Type 0
AllFit choices rs = Each (Fits choices) rs

-- A log whose bytes are read back as it.
pub record InForm (choices : ℕ) (l : Log) : Type 0 where
  pub each : AllFit choices l.records
  pub total_fits : l.total < 4294967296

-- ---- what is written is read back

-- a literal's byte is read as the literal
pub byte_back : (l : Literal) → variable l ≤ 127 → of_byte (byte_of l) ≡ l
unfolding variable of_byte byte_of
byte_back (pos v) h = rw (lt-ltb v 128 (omega arith)) refl
byte_back (negsuc v) h = rw (le-ltb (255 - v) 128 (omega arith)) (ap negsuc (omega arith))

-- a number's four bytes are read as the number
four_back : (n : ℕ) → n < 4294967296 → 16777216 * (n / 16777216 % 256) + 65536 * (n / 65536 % 256) + 256 * (n / 256 % 256) + n % 256 ≡ n
four_back n h =
    let first : n / 16777216 % 256 ≡ n / 16777216 = omega arith in
    let second : 256 * (n / 16777216) + n / 65536 % 256 ≡ n / 65536 = omega (arith, div-div-eq-div-mul n 65536 256) in
    let third : 256 * (n / 65536) + n / 256 % 256 ≡ n / 256 = omega (arith, div-div-eq-div-mul n 256 256) in
    omega arith

-- the first bytes, and the rest
front_back : (n : ℕ) (a : List ℕ) → length a ≡ n → (rest : List ℕ) → parse_bytes n (a ++ rest) ≡ parsed a rest
unfolding parse_bytes
front_back n a e rest = rw (le-leb n (length (a ++ rest)) (omega (arith, length-append a rest)), take_at a rest n e, drop_at a rest n e) refl

-- a record begins with its mark
record_begins : (r : StepRecord) (rest : List ℕ) → begins ST (record_bytes r ++ rest) ≡ true
unfolding begins record_bytes
record_begins r rest = rw (le-leb 2 (length (record_bytes r ++ rest)) (omega arith)) refl

-- each record has a byte or more, so there are turns enough
records_length : (rs : List StepRecord) → length rs ≤ length (records_bytes rs)
unfolding records_bytes record_bytes
records_length [] = omega arith
records_length (r ∷ rs) = omega (arith, length-append (record_bytes r) (records_bytes rs), records_length rs)

module _ (choices : ℕ) (below : choices < 2 ^ 127) where
  -- so are the literals of a list that rises over choices, since each of its variables is up to 127
  literals_back : (last : ℕ) (ls : List Literal) → rising_over choices last ls ≡ true → map of_byte (map byte_of ls) ≡ ls
  unfolding rising_over
  literals_back last [] e = refl
  literals_back last (l ∷ ls) e =
      let both = and_both (ltb last (variable l) && has choices (variable l - 1)) (rising_over choices (variable l) ls) e in
      let chosen = (and_both (ltb last (variable l)) (has choices (variable l - 1)) both.0).1 in
      let fits = member_lt 127 choices (variable l - 1) (has_true choices (variable l - 1) chosen) below in
      ap₂ (λ x xs. x ∷ xs) (byte_back l (omega arith)) (literals_back (variable l) ls both.1)

  list_back : (ls : List Literal) → rising_over choices 0 ls ≡ true → (rest : List ℕ) → parse_list choices (list_bytes ls ++ rest) ≡ parsed ls rest
  unfolding parse_list list_bytes
  list_back ls e rest =
      rw (front_back 1 (length ls ∷ []) refl, front_back (length ls) (map byte_of ls) (length-map ls byte_of), literals_back 0 ls e, e) refl

  record_back : (r : StepRecord) → Fits choices r → (rest : List ℕ) → parse_record choices (record_bytes r ++ rest) ≡ parsed r rest
  unfolding parse_record record_bytes two_bytes
  record_back r f rest =
      rw (
        append_assoc (list_bytes r.reasons ++ list_bytes r.new),
        append_assoc (list_bytes r.reasons),
        front_back 3 (0x53 ∷ 0x54 ∷ byte_of r.goal ∷ []) refl,
        list_back r.reasons f.reasons_rise,
        list_back r.new f.new_rise,
        front_back 2 (two_bytes r.cost) refl,
        byte_back r.goal f.goal_fits,
      )
      (ap (λ c. parsed (record { goal = r.goal; reasons = r.reasons; new = r.new; cost = c }) rest) (omega arith))

  -- each record takes one turn, and OK takes one
  records_back : (rs : List StepRecord) (steps total turns place : ℕ) → AllFit choices rs → total < 4294967296 → length rs < turns
      → read_records choices turns place (records_bytes rs ++ ok_bytes steps total) ≡ is_log (record { records = rs; steps = steps; total = total })
  unfolding read_records records_bytes ok_bytes four_bytes read_end begins
  records_back rs steps total zero place f t h = absurd (omega arith)
  records_back [] steps total (suc turns) place f t h = ap (λ n. is_log (record { records = []; steps = steps; total = n })) (four_back total t)
  records_back (r ∷ rs) steps total (suc turns) place f t h =
      rw (append_assoc, record_begins r, record_back r f.0)
      (ap (with_record r) (records_back rs steps total turns _ f.1 t (omega arith)))

-- what was written is read back
pub read_written : (choices : ℕ) (l : Log) → choices < 2 ^ 127 → InForm choices l → read_log choices (log_bytes l) ≡ is_log l
unfolding read_log log_bytes
read_written choices l below f =
    records_back choices below l.records l.steps l.total _ 0 f.each f.total_fits
    (omega (arith, length-append (records_bytes l.records) (ok_bytes l.steps l.total), records_length l.records))

-- two logs in form with the same bytes are one
pub one_log : (choices : ℕ) (l k : Log) → choices < 2 ^ 127 → InForm choices l → InForm choices k → log_bytes l ≡ log_bytes k → l ≡ k
one_log choices l k below f g e = cc (read_written choices l below f, read_written choices k below g)

-- ---- what is read was written

-- What the seven bytes of OK are read as.
abbrev ok_read : List ℕ → Log
ok_read s = record { records = []; steps = get_or s 2 0; total = 16777216 * get_or s 3 0 + 65536 * get_or s 4 0 + 256 * get_or s 5 0 + get_or s 6 0 }

module _ (choices : ℕ) where
  -- A list of literals, and the bytes after it.
  record ListRead (s : List ℕ) (ls : List Literal) (rest : List ℕ) : Type 0 where
    whole : s ≡ list_bytes ls ++ rest
    rest_bytes : Bytes rest

  list_read : (s : List ℕ) → Bytes s → Ensures (ListRead s) (parse_list choices s)
  unfolding parse_list list_bytes
  list_read s b =
      ensures_and (cut 1 s b) (λ n rest c.
      ensures_and (cut (get_or n 0 0) rest c.rest_bytes) (λ bs end d.
      let back = map_back bs d.front_bytes in
      ensures_cond (rising_over choices 0 (map of_byte bs)) _ _ (λ e. record {
        whole = cc (all_elements 1 0 n c.size, length-map bs of_byte);
        rest_bytes = d.rest_bytes;
      })))

  -- An ST record, and the bytes after it.
  record RecordAt (s : List ℕ) (r : StepRecord) (rest : List ℕ) : Type 0 where
    whole : s ≡ record_bytes r ++ rest
    rest_bytes : Bytes rest

  record_at : (s : List ℕ) → Bytes s → begins ST s ≡ true → Ensures (RecordAt s) (parse_record choices s)
  unfolding parse_record record_bytes
  record_at s b m =
      ensures_and (cut 3 s b) (λ head after-head h.
      ensures_and (list_read after-head h.rest_bytes) (λ reasons after-reasons p.
      ensures_and (list_read after-reasons p.rest_bytes) (λ new after-new q.
      ensures_and (cut 2 after-new q.rest_bytes) (λ cost rest c.
      let begun = begins_with ST s m in
      let goal = literal_back (get_or head 2 0) (h.front_bytes 2) in
      of_parsed (record {
        whole = cc (
          all_elements 3 0 head h.size,
          all_elements 2 0 cost c.size,
          two_written (get_or cost 0 0) (get_or cost 1 0) (c.front_bytes 0) (c.front_bytes 1),
          append_assoc (list_bytes reasons ++ list_bytes new) (two_bytes (256 * get_or cost 0 0 + get_or cost 1 0)) rest,
          append_assoc (list_bytes reasons) (list_bytes new) (two_bytes (256 * get_or cost 0 0 + get_or cost 1 0) ++ rest),
        );
        rest_bytes = c.rest_bytes;
      })))))

  -- What the bytes s are read as is correct: where it is a log, they are that log's.
  data Correct (s : List ℕ) : LogRead → Type 0 where
    of_log : {l : Log} → s ≡ log_bytes l → Correct s (is_log l)
    of_no_log : {place : ℕ} → Correct s (not_log place)

  correct_cond : {s : List ℕ} (t : Bool) (x y : LogRead) → (t ≡ true → Correct s x) → Correct s y → Correct s (cond t x y)
  correct_cond true x y h k = h refl
  correct_cond false x y h k = k

  end_read : (place : ℕ) (s : List ℕ) → Bytes s → Correct s (read_end place s)
  unfolding read_end ok_bytes log_bytes records_bytes
  end_read place s b =
      correct_cond (begins OK s && leb 7 (length s)) _ _
      (λ m.
      let begun = begins_with OK s (and_both (begins OK s) _ m).0 in
      correct_cond (eqb (length s) 7) _ _
      (λ e. of_log {l = ok_read s}
      (cc (all_elements 7 0 s (eqb-true (length s) 7 e), four_written (get_or s 3 0) (get_or s 4 0) (get_or s 5 0) (get_or s 6 0) (b 3) (b 4) (b 5) (b 6))))
      of_no_log)
      of_no_log

  -- one record, and a log after it
  with_record_lem : {s rest : List ℕ} {r : StepRecord} {m : LogRead} → RecordAt s r rest → Correct rest m → Correct s (with_record r m)
  unfolding log_bytes records_bytes
  with_record_lem {r = r} a (of_log {l} t) =
      of_log {l = record { records = r ∷ l.records; steps = l.steps; total = l.total }}
      (cc (append_assoc (record_bytes r) (records_bytes l.records) (ok_bytes l.steps l.total)))
  with_record_lem a of_no_log = of_no_log

  -- one turn: a record, and what the bytes after it are read as
  record_read : {s : List ℕ} {p : Parsed StepRecord} (turns place : ℕ) → Ensures (RecordAt s) p
      → ((place : ℕ) (rest : List ℕ) → Bytes rest → Correct rest (read_records choices turns place rest))
      → Correct s (elim p [
        | parsed r rest ↦ with_record r (read_records choices turns (place + (length s - length rest)) rest)
        | malformed ↦ not_log place
      ])
  record_read turns place (of_parsed a) others = with_record_lem a (others _ _ a.rest_bytes)
  record_read turns place of_malformed others = of_no_log

  records_read : (turns place : ℕ) (s : List ℕ) → Bytes s → Correct s (read_records choices turns place s)
  unfolding read_records
  records_read zero place s b = of_no_log
  records_read (suc turns) place s b = correct_cond _ _ _ (λ m. record_read turns place (record_at s b m) (records_read turns)) (end_read place s b)

  -- bytes that are read as a log are that log's bytes
  pub read_form : (s : List ℕ) (l : Log) → Bytes s → read_log choices s ≡ is_log l → s ≡ log_bytes l
  unfolding read_log
  read_form s l b e = told (rw e at (records_read (suc (length s)) 0 s b))
    where
      told : Correct s (is_log l) → s ≡ log_bytes l
      told (of_log t) = t
