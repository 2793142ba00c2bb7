-- What the functions of the log ask and say.
use Rattle.std.specs.Prelude.{◌≡◌, List, ◌++◌, map, ℕ, ◌≤◌, length, drop}
use Rattle.literals.specs.declared.LiteralSet.{LiteralSet}
use Rattle.records.specs.Limits.{max_log}
use Rattle.consequence.specs.Promises.{mask_theory}
use Rattle.step.specs.Meaning.{Step}
use Rattle.step.specs.IsStep.{ForcedBy}
use Rattle.step.specs.Promises.{Asked}
use Rattle.log_form.specs.declared.Step as shown
use Rattle.log_form.specs.Format.{record_bytes, records_bytes, log_bytes}
use Rattle.log_writer.specs.Meaning.{record_of, costs_written, log_of}
use Rattle.log_writer.specs.declared.Written.{Written}

-- A step as its record's writer is handed it.
abbrev pub put_step : shown.Step → Step
put_step s =
    record { goal = s.goal; reasons_on = s.reasons.yes; reasons_off = s.reasons.no; new_on = s.new.yes; new_off = s.new.no; cost = s.cost }

-- The bytes of a step's record, and of several.
abbrev pub step_bytes : Step → List ℕ
step_bytes s = record_bytes (record_of s)

abbrev pub steps_bytes : List Step → List ℕ
steps_bytes ss = records_bytes (map record_of ss)

-- The sum of the step costs.
abbrev pub total_of : List Step → ℕ
total_of ss = costs_written (map record_of ss)

-- ---- the whole log

-- What the next step asks, where the consequence is what the given facts force.
pub record LogAsked (n : ℕ) (ys ns : List ℕ) (ch : ℕ) (table : List (List ℕ)) (c facts : LiteralSet) : Type 0 where
  pub asked : Asked n ys ns ch table c facts
  pub forced : ForcedBy (mask_theory n ys ns ch) c facts

-- The buffer holds the log of these steps and then its old bytes, and the answer is the log's length, its steps and its total.
pub record LogWritten (ss : List Step) (before after : List ℕ) (r : Written) : Type 0 where
  pub buffer : after ≡ log_bytes (log_of ss) ++ drop (length (log_bytes (log_of ss))) before
  pub answered : r ≡ record { size = length (log_bytes (log_of ss)); steps = length ss; total = total_of ss }
  pub short : length (log_bytes (log_of ss)) ≤ max_log
