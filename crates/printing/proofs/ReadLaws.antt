-- What bytes say that are read as a log: the first record and the others, or the end.
-- Assumes nothing.
use mathlib.Core.Path.{◌≡◌, refl}
use mathlib.Core.Bool.{Bool, true, false, cond, ◌&&◌}
use mathlib.Core.List.{List, [], ◌∷◌}
use Prim.Native.Nat.{ℕ, suc, ◌+◌, ◌-◌, ◌≤◌}
use native.Mathlib.Omega.{arith}
use lib.Dec.{eqb, leb}
use lib.ListN.{length, get_or, drop}
use borrow.Author.Tests.{eqb-true}
use Rattle.log_form.specs.Format.{StepRecord, Log, ST, OK, begins, Parsed, parsed, malformed, parse_record, LogRead, is_log, not_log, with_record, read_end}
use Rattle.log_form.specs.Format.{read_records}
use Rattle.printing.specs.Fields.{record_size, record_in, total_in}
use Rattle.printing.proofs.ParseLaws.{RecordParsed, record_parsed}

-- an ST record, and then the rest
pub record StepRead (choices turns : ℕ) (s : List ℕ) (l : Log) : Type 0 where
  pub fits : record_size s ≤ length s
  pub place : ℕ
  pub rest : Log
  pub reads : read_records choices turns place (drop (record_size s) s) ≡ is_log rest
  pub is : l ≡ record { records = record_in s ∷ rest.records; steps = rest.steps; total = rest.total }

-- OK, and no byte more
pub record EndRead (s : List ℕ) (l : Log) : Type 0 where
  pub whole : length s ≡ 7
  pub is : l ≡ record { records = []; steps = get_or s 2 0; total = total_in s }

module _ (choices turns place : ℕ) (s : List ℕ) {l : Log} where
  -- the rest is a log too
  step_from_lem : (r : StepRecord) (after : List ℕ) (k : ℕ) (read : LogRead) → RecordParsed s r after
      → read_records choices turns k after ≡ read → with_record r read ≡ is_log l → StepRead choices turns s l
  step_from_lem r after k (is_log rest) w e f = record {
    fits = w.fits;
    place = k;
    rest = rest;
    reads = rw w.rest_is at e;
    is = rw (← w.is) (cc);
  }
  step_from_lem r after k (not_log j) w e f = let z : ◌≡◌ {A = ℕ} 0 1 = cc in absurd (omega arith)

  parsed_from : (p : Parsed StepRecord) → parse_record choices s ≡ p
      → elim p [
        | parsed r rest ↦ with_record r (read_records choices turns (place + (length s - length rest)) rest)
        | malformed ↦ not_log place
      ] ≡ is_log l → StepRead choices turns s l
  parsed_from (parsed r after) e f = step_from_lem r after _ _ (record_parsed choices s e) refl f
  parsed_from malformed e f = let z : ◌≡◌ {A = ℕ} 0 1 = cc in absurd (omega arith)

  pub step_read : read_records choices (suc turns) place s ≡ is_log l → begins ST s ≡ true → StepRead choices turns s l
  unfolding read_records
  step_read e t = parsed_from (parse_record choices s) refl (rw (t, read_records) at e)

  end_from : (b d : Bool) → eqb (length s) 7 ≡ d
      → cond b (cond d (is_log (record { records = []; steps = get_or s 2 0; total = total_in s })) (not_log (place + 7))) (not_log place) ≡ is_log l → EndRead s l
  end_from true true h f = record { whole = eqb-true (length s) 7 h; is = cc }
  end_from true false h f = let z : ◌≡◌ {A = ℕ} 0 1 = cc in absurd (omega arith)
  end_from false d h f = let z : ◌≡◌ {A = ℕ} 0 1 = cc in absurd (omega arith)

  pub end_read : read_records choices (suc turns) place s ≡ is_log l → begins ST s ≡ false → EndRead s l
  unfolding read_records read_end
  end_read e t = end_from (begins OK s && leb 7 (length s)) (eqb (length s) 7) refl (rw (t, read_records) at e)
