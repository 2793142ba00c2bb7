-- The order of the candidates before E6, and what E6 changes (document 02). Only that claim and its worked rows (engine/specs/Orders) use that order.
use Rattle.std.specs.Prelude.{◌≡◌, Bool, ℕ, ◌+◌, ◌≤◌, ◌<◌, ltb}
use Rattle.sets.specs.Sets.{count}
use Rattle.step.specs.Meaning.{Question, Candidate, before, first_of, candidates, all_known, Step, Answer, nothing_left, step, answer_with, step_of}
use Rattle.step.specs.IsStep.{Candidature, placed}

-- The least cost; on equal cost the goal with the lower variable, however many facts there are, then the smaller sum.
unfoldable pub lower_goal_first : Candidate → Candidate → Bool
lower_goal_first a b = before a.cost b.cost (before a.goal b.goal (ltb a.reasons b.reasons))

-- The first of the candidates in that order.
unfoldable pub lower_goal_candidate : Question → Candidate
lower_goal_candidate q = first_of lower_goal_first (all_known q) (candidates q)

-- The answer from K with it.
unfoldable pub lower_goal_step : Question → Answer
lower_goal_step q = answer_with q (lower_goal_candidate q)

-- Some candidate of least cost has fewer facts than a step.
pub record FewerFacts (q : Question) (s : Step) : Type 0 where
  pub on : ℕ
  pub off : ℕ
  pub variable : ℕ
  pub says : Bool
  pub is_candidate : Candidature q on off variable says
  pub least_cost : (a b v : ℕ) (y : Bool) → Candidature q a b v y → (placed q on off variable says).cost ≤ (placed q a b v y).cost
  pub fewer : count on + count off < count s.reasons_on + count s.reasons_off

-- The same of an answer: it is a step, and some candidate of least cost has fewer facts.
abbrev pub FewerThan : Question → Answer → Type 0
FewerThan q nothing_left = ⊥
FewerThan q (step s) = FewerFacts q s

-- Two answers are steps of the same cost, or nothing is left in both.
abbrev pub SameCost : Answer → Answer → Type 0
SameCost nothing_left nothing_left = Unit {0}
SameCost nothing_left (step s) = ⊥
SameCost (step s) nothing_left = ⊥
SameCost (step s) (step r) = s.cost ≡ r.cost

-- From one known set the step (goal, reasons, new literals and cost) differs from that of the order before E6 exactly where some candidate of least cost has
-- fewer facts than that one, and both cost the same (`changes_exactly`, Theorems).
pub record ChangesExactly (q : Question) : Type 0 where
  pub differs_fewer : (step_of q ≡ lower_goal_step q → ⊥) → FewerThan q (lower_goal_step q)
  pub fewer_differs : FewerThan q (lower_goal_step q) → step_of q ≡ lower_goal_step q → ⊥
  pub cost_same : SameCost (step_of q) (lower_goal_step q)
