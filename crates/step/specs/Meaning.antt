-- One step (document 01, "One step"): the candidates, what they cost, their order, and the step.
-- A literal is a variable with a sign, and element v of a mask stands for variable v + 1; a set of literals is two masks: `on` holds the variables
-- that it says yes of, `off` those that it says no of. Everything is for any number of variables.
use Rattle.std.specs.Prelude.{Bool, true, false, cond, ◌&&◌, ◌||◌, List, [], ◌∷◌, ◌++◌, ℕ, zero, suc, ◌+◌, ◌*◌, ◌^◌, eqb, ltb}
use Rattle.std.specs.Int.Count.{count_trailing_zeros}
use Rattle.sets.specs.Sets.{bit, has, union, inter, diff, insert, subset, count}
use Rattle.items.specs.Weights.{sum_below}
use Rattle.literals.specs.Literal.{Literal, literal_of}
use Rattle.literals.specs.declared.LiteralSet.{LiteralSet}
use Rattle.problem.specs.Problem.{Problem, cost_of}
use Rattle.consequence.specs.Meaning.{consequence_of, Theory, theory_of, contradicts, yes_forced, no_forced}

-- ---- what is asked

-- The theory of a problem, the costs of the literals over its choices, its consequence, and the known set K.
pub record Question : Type 0 where
  pub theory : Theory
  pub table : List (List ℕ)
  pub con_on : ℕ
  pub con_off : ℕ
  pub known_on : ℕ
  pub known_off : ℕ

abbrev pub asking : Theory → List (List ℕ) → LiteralSet → LiteralSet → Question
asking t table c known =
    record { theory = t; table = table; con_on = c.yes; con_off = c.no; known_on = known.yes; known_off = known.no }

-- What is asked of a problem with a known set.
abbrev pub question_of : Problem → LiteralSet → Question
question_of p known = asking (theory_of p) p.costs (consequence_of p) known

-- ---- costs

-- The cost of a set of n variables: the sum of the costs of its literals.
unfoldable pub set_cost : List (List ℕ) → ℕ → ℕ → ℕ → ℕ
set_cost table n on off = sum_below n (λ v. bit on v * cost_of table v 0 + bit off v * cost_of table v 1)

module _ (q : Question) where
  -- ---- goals

  -- A goal is a literal of the consequence outside K: those that say yes, those that say no, and the variables of both.
  unfoldable pub yes_goals : ℕ
  yes_goals = diff q.con_on q.known_on

  unfoldable pub no_goals : ℕ
  no_goals = diff q.con_off q.known_off

  unfoldable pub goals : ℕ
  goals = union yes_goals no_goals

  -- The goal over variable v + 1.
  unfoldable pub goal_literal : ℕ → Literal
  goal_literal v = literal_of v (has yes_goals v)

  -- ---- candidates

  -- A set S of literals from K, given by its variables s.
  unfoldable pub reasons_on : ℕ → ℕ
  reasons_on s = inter s q.known_on

  unfoldable pub reasons_off : ℕ → ℕ
  reasons_off s = inter s q.known_off

  -- S with the opposite of the goal over variable v + 1.
  unfoldable pub against_on : ℕ → ℕ → ℕ
  against_on s v = cond (has no_goals v) (insert (reasons_on s) v) (reasons_on s)

  unfoldable pub against_off : ℕ → ℕ → ℕ
  against_off s v = cond (has yes_goals v) (insert (reasons_off s) v) (reasons_off s)

  -- No filling obeys the rules and makes S and the opposite of the goal true. Only S and the rules count, not facts left out of S.
  unfoldable pub refutes : ℕ → ℕ → Bool
  refutes v s = contradicts q.theory (against_on s v) (against_off s v)

  -- A candidate is a set S of literals from K and one goal. (As `elim`s: what the first tests shut out is not computed.)
  unfoldable pub is_candidate : ℕ → ℕ → Bool
  is_candidate v s =
      elim (has goals v) [
        | true ↦ elim (subset s (union q.known_on q.known_off)) [ true ↦ refutes v s | false ↦ false ]
        | false ↦ false
      ]

  -- Its cost is the sum of the costs of the literals in S plus the cost of the opposite of the goal.
  unfoldable pub candidate_cost : ℕ → ℕ → ℕ
  candidate_cost v s = set_cost q.table q.theory.variables (against_on s v) (against_off s v)

-- ---- the order

-- A candidate's cost, the variable of its goal, and the variables of its set as a mask, which is the sum of 2 ^ (variable - 1) over them. It has as many
-- facts as variables, since K says one thing of a variable.
pub record Candidate : Type 0 where
  pub cost : ℕ
  pub goal : ℕ
  pub reasons : ℕ

-- Less, or equal and first by what comes after.
unfoldable pub before : ℕ → ℕ → Bool → Bool
before a b tie = ltb a b || (eqb a b && tie)

-- The least cost; on equal cost fewer facts, then the goal with the lower variable, then the smaller sum (document 02, E6).
unfoldable pub earlier : Candidate → Candidate → Bool
earlier a b =
    before a.cost b.cost
    (before (count a.reasons) (count b.reasons) (before a.goal b.goal (ltb a.reasons b.reasons)))

-- The first, in an order, of a candidate and a list of them.
unfoldable pub first_of : (Candidate → Candidate → Bool) → Candidate → List Candidate → Candidate
first_of order c [] = c
first_of order c (d ∷ ds) = elim (order d c) [ true ↦ first_of order d ds | false ↦ first_of order c ds ]

-- ---- the step

module _ (q : Question) where
  unfoldable pub candidate : ℕ → ℕ → Candidate
  candidate v s = record { cost = candidate_cost q v s; goal = v; reasons = s }

  -- The candidates with the goal over variable v + 1 and a set below k.
  unfoldable pub candidates_for : ℕ → ℕ → List Candidate
  candidates_for v zero = []
  candidates_for v (suc s) =
      elim (is_candidate q v s) [ true ↦ candidate v s ∷ candidates_for v s | false ↦ candidates_for v s ]

  -- The candidates with a goal below k.
  unfoldable pub candidates_below : ℕ → List Candidate
  candidates_below zero = []
  candidates_below (suc v) =
      elim (has (goals q) v) [
        | true ↦ candidates_for v (2 ^ q.theory.variables) ++ candidates_below v
        | false ↦ candidates_below v
      ]

  -- All candidates.
  unfoldable pub candidates : List Candidate
  candidates = candidates_below q.theory.variables

  -- All of K with the goal of the lowest variable: one of them, since K with the opposite of a goal contradicts the rules (`known_contradicts`, Theorems).
  unfoldable pub all_known : Candidate
  all_known = candidate (count_trailing_zeros q.theory.variables (goals q)) (union q.known_on q.known_off)

  -- The first of them.
  unfoldable pub the_step : Candidate
  the_step = first_of earlier all_known candidates

-- A step as it is answered: the goal, the reasons, the new literals and the cost.
pub record Step : Type 0 where
  pub goal : Literal
  pub reasons_on : ℕ
  pub reasons_off : ℕ
  pub new_on : ℕ
  pub new_off : ℕ
  pub cost : ℕ

pub data Answer : Type 0 where
  nothing_left : Answer
  step : Step → Answer

module _ (q : Question) where
  -- The new literals are all literals over choices true in every filling that obeys the rules and S, less K.
  unfoldable pub new_on : ℕ → ℕ
  new_on s = diff (yes_forced q.theory (reasons_on q s) (reasons_off q s)) q.known_on

  unfoldable pub new_off : ℕ → ℕ
  new_off s = diff (no_forced q.theory (reasons_on q s) (reasons_off q s)) q.known_off

  unfoldable pub step_from : Candidate → Step
  step_from c =
      record {
        goal = goal_literal q c.goal;
        reasons_on = reasons_on q c.reasons;
        reasons_off = reasons_off q c.reasons;
        new_on = new_on c.reasons;
        new_off = new_off c.reasons;
        cost = c.cost;
      }

  -- "Nothing left" where there is no goal, and in no other case; otherwise the step of a candidate.
  unfoldable pub answer_with : Candidate → Answer
  answer_with c = elim (eqb (goals q) 0) [ true ↦ nothing_left | false ↦ step (step_from c) ]

  -- The answer from K.
  unfoldable pub step_of : Answer
  step_of = answer_with (the_step q)
