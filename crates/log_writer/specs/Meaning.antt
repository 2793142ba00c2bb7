-- The log of a problem (document 01, "The log"): the steps that it is made of.
use Rattle.std.specs.Prelude.{List, [], ◌∷◌, map, ℕ, zero, suc, ◌+◌, length}
use Rattle.sets.specs.Sets.{union, count}
use Rattle.literals.specs.Literal.{literals_of}
use Rattle.problem.specs.Problem.{Problem, given}
use Rattle.step.specs.Meaning.{Question, question_of, goals, Step, nothing_left, step, step_of}
use Rattle.log_form.specs.Format.{StepRecord, Log}

-- ---- the steps of a log

-- The question after a step: its new literals are known.
unfoldable pub with_new : Question → Step → Question
with_new q s =
    record {
      theory = q.theory;
      table = q.table;
      con_on = q.con_on;
      con_off = q.con_off;
      known_on = union q.known_on s.new_on;
      known_off = union q.known_off s.new_off;
    }

-- Take the step, add its new literals to K, repeat until nothing is left, in at most so many turns.
unfoldable pub run_from : ℕ → Question → List Step
run_from zero q = []
run_from (suc turns) q = elim (step_of q) [ nothing_left ↦ [] | step s ↦ s ∷ run_from turns (with_new q s) ]

-- The steps of a question. Each closes a goal, so that after as many turns as there are goals nothing is left.
unfoldable pub run_of : Question → List Step
run_of q = run_from (count (goals q)) q

-- The steps of a problem: from the given facts.
unfoldable pub run_for : Problem → List Step
run_for p = run_of (question_of p (given p))

-- ---- the log that they make

-- The ST record of a step.
abbrev pub record_of : Step → StepRecord
record_of s = record { goal = s.goal; reasons = literals_of s.reasons_on s.reasons_off; new = literals_of s.new_on s.new_off; cost = s.cost }

-- The sum of the costs written.
unfoldable pub costs_written : List StepRecord → ℕ
costs_written [] = 0
costs_written (r ∷ rs) = r.cost + costs_written rs

-- The log of these steps: their records, and in OK their number and the sum of their costs.
abbrev pub log_of : List Step → Log
log_of ss = record { records = map record_of ss; steps = length ss; total = costs_written (map record_of ss) }
