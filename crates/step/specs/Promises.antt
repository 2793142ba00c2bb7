-- What the functions of the step ask and say.
use Rattle.std.specs.Prelude.{◌≡◌, Bool, not, List, [], ℕ, ◌+◌, ◌*◌, ◌/◌, ◌%◌, ◌^◌, ◌≤◌, ◌<◌, length, Option, Some, None}
use Rattle.sets.specs.Sets.{bit, union, diff, count, Within}
use Rattle.items.specs.Weights.{sum_below}
use Rattle.items.specs.Cheapest.{Least, Minimum}
use Rattle.items.specs.Promises.{weight_in}
use Rattle.literals.specs.declared.LiteralSet.{LiteralSet}
use Rattle.literals.specs.Literal.{literal_of}
use Rattle.witnesses.specs.Promises.{Pooled}
use Rattle.records.specs.Limits.{max_variables, max_choices, max_cost}
use Rattle.sat.specs.Meaning.{Model}
use Rattle.sat.specs.Promises.{Posed}
use Rattle.consequence.specs.Meaning.{yes_forced, no_forced, NoModelOf}
use Rattle.consequence.specs.Promises.{mask_theory, Propagated}
use Rattle.problem.specs.Problem.{cost_of, literal_cost}
use Rattle.step.specs.Meaning.{Question, asking, goals, against_on, against_off, candidate_cost, Answer, nothing_left, Step, step, step_from}
use Rattle.witnesses.specs.declared.Aim.{Aim}
use Rattle.witnesses.specs.declared.Part.{Part}
use Rattle.log_form.specs.declared.Step as log
use Rattle.problem.specs.Masked.{yes_in, no_in, of_rules}
use Rattle.problem.specs.declared.MaskedProblem.{MaskedProblem}

-- ---- costs

-- The cost of the known literal over variable v + 1, and 0 where there is none.
unfoldable pub known_cost : List (List ℕ) → ℕ → ℕ → ℕ → ℕ
known_cost table on off v = bit on v * cost_of table v 0 + bit off v * cost_of table v 1

-- ---- the order as one number

-- What a key has room for: the cost of each variable's literal and of a goal's opposite, the number of facts, variables of goals, and sets of choices.
abbrev pub cost_room : ℕ
cost_room = max_cost * (max_variables + 1) + 1

abbrev pub count_room : ℕ
count_room = max_choices + 1

abbrev pub goal_room : ℕ
goal_room = max_choices

abbrev pub set_room : ℕ
set_room = 2 ^ max_choices

-- What a key gains for a goal's variable one higher, for one fact more, and for one unit of cost more.
abbrev pub goal_unit : ℕ
goal_unit = set_room

abbrev pub fact_unit : ℕ
fact_unit = goal_room * goal_unit

abbrev pub cost_unit : ℕ
cost_unit = count_room * fact_unit

-- Part of a key: a cost, a number of facts, and what comes after them.
abbrev pub key_part : ℕ → ℕ → ℕ → ℕ
key_part cost facts rest = cost * cost_unit + facts * fact_unit + rest

-- The key of a candidate: its cost, the number of its facts, its goal's variable, and its set. Of two candidates the first in the order has the lesser key.
abbrev pub key_of : ℕ → ℕ → ℕ → ℕ
key_of cost goal s = key_part cost (count s) (goal * goal_unit + s)

-- There is room for it in a key, which is then a number of 64 bits.
pub record Small (cost goal s : ℕ) : Type 0 where
  pub cost_small : cost < cost_room
  pub goal_small : goal < goal_room
  pub set_small : s < set_room

-- ---- the known literals as items

-- What a literal over variable v + 1 of this cost adds to a key: its cost, one fact, and its variable in the set.
abbrev pub literal_weight : ℕ → ℕ → ℕ
literal_weight cost v = key_part cost 1 (2 ^ v)

-- What the known literal over variable v + 1 adds to a key, and 0 where there is none.
unfoldable pub item_weight : List (List ℕ) → ℕ → ℕ → ℕ → ℕ
item_weight table on off v = known_cost table on off v * cost_unit + bit (union on off) v * (fact_unit + 2 ^ v)

pub record Weighed (table : List (List ℕ)) (on off : ℕ) (ws : List ℕ) : Type 0 where
  pub rows : length ws ≡ max_choices
  pub weighs : (v : ℕ) → v < max_choices → weight_in ws v ≡ item_weight table on off v

-- The sum of all weights.
abbrev pub sum_of : List ℕ → ℕ
sum_of ws = sum_below max_choices (weight_in ws)

-- ---- the search over all goals

-- What the arguments ask.
abbrev pub mask_question : ℕ → List ℕ → List ℕ → ℕ → List (List ℕ) → LiteralSet → LiteralSet → Question
mask_question n ys ns ch table c k = asking (mask_theory n ys ns ch) table c k

-- The goal over variable v + 1, and all sets of known variables.
abbrev pub aim_at : List (List ℕ) → LiteralSet → ℕ → Bool → Aim
aim_at table k v says =
    record {
      goal = v;
      says = says;
      known = k;
      key = key_part (literal_cost table (literal_of v (not says))) 0 (v * goal_unit);
    }

abbrev pub whole : Aim → Part
whole aim = record { chosen = 0; limit = union aim.known.yes aim.known.no; key = aim.key }

-- The variables of the goals.
abbrev pub open_goals : LiteralSet → LiteralSet → ℕ
open_goals c k = union (diff c.yes k.yes) (diff c.no k.no)

-- Rules and a consequence of few variables, within it what is known, and costs that are small.
pub record Ready (n : ℕ) (ys ns : List ℕ) (table : List (List ℕ)) (c k : LiteralSet) : Type 0 where
  pub posed : Posed n ys ns c.yes c.no
  pub few : n ≤ max_variables
  pub rows : union c.yes c.no < 2 ^ max_choices
  pub known_yes : Within k.yes c.yes
  pub known_no : Within k.no c.no
  pub cheap : (v column : ℕ) → cost_of table v column ≤ max_cost

-- The same where a goal is left, and what is known forces the consequence.
pub record ReadyWithGoal (n : ℕ) (ys ns : List ℕ) (table : List (List ℕ)) (c k : LiteralSet) : Type 0 where
  pub ready : Ready n ys ns table c k
  pub forces : (f : ℕ) → Model n ys ns k.yes k.no f → Model n ys ns c.yes c.no f
  pub goal_left : 0 < open_goals c k

-- A candidate, in the logical form: v is the variable of a goal, and no filling obeys the rules and makes the set s of known literals and the
-- opposite of the goal true.
pub record Picks (q : Question) (v s : ℕ) : Type 0 where
  pub goal : bit (goals q) v ≡ 1
  pub known : Within s (union q.known_on q.known_off)
  pub refuted : NoModelOf q.theory (against_on q s v) (against_off q s v)

-- A goal and a set, and their key.
pub record GoalAndSet : Type 0 where
  pub goal : ℕ
  pub set : ℕ

abbrev pub key_of_pair : Question → GoalAndSet → ℕ
key_of_pair q x = key_of (candidate_cost q x.goal x.set) x.goal x.set

abbrev pub Picked : Question → GoalAndSet → Type 0
Picked q x = Picks q x.goal x.set

-- r is the least key of all candidates. The choices do not matter to it.
pub record LeastFound (n : ℕ) (ys ns : List ℕ) (table : List (List ℕ)) (c k : LiteralSet) (r : ℕ) : Type 0 where
  pub cheapest : (ch : ℕ) → Minimum (Picked (mask_question n ys ns ch table c k)) (key_of_pair (mask_question n ys ns ch table c k)) r

-- r is the least of a bound and the keys of all candidates.
pub record LeastUnder (n : ℕ) (ys ns : List ℕ) (table : List (List ℕ)) (c k : LiteralSet) (bound r : ℕ) : Type 0 where
  pub cheapest : (ch : ℕ) → Least (Picked (mask_question n ys ns ch table c k)) (key_of_pair (mask_question n ys ns ch table c k)) bound r

-- The same while the goals of `left` are still to be tried.
pub record Trying (q : Question) (left : ℕ) (x : GoalAndSet) : Type 0 where
  pub picks : Picked q x
  pub tried : bit left x.goal ≡ 0

pub record Searching (n : ℕ) (ys ns : List ℕ) (table : List (List ℕ)) (c k : LiteralSet) (bound left : ℕ) (ms : List ℕ) (best : ℕ) : Type 0 where
  pub untried : Within left (open_goals c k)
  pub cheapest : (ch : ℕ) → Least (Trying (mask_question n ys ns ch table c k) left) (key_of_pair (mask_question n ys ns ch table c k)) bound best
  pub pooled : Pooled n ys ns ms

-- ---- the new literals

-- Reasons that some filling makes true with the rules.
pub record Reasoned (n : ℕ) (ys ns : List ℕ) (ch : ℕ) (r : LiteralSet) : Type 0 where
  pub posed : Posed n ys ns r.yes r.no
  pub choices_below : ch < 2 ^ n
  pub model : (f : ℕ) × Model n ys ns r.yes r.no f

-- The new literals: what the reasons force, less what is known. What they force was worked out by Algorithm 2, of models of the rules and the reasons.
pub record Learnt (n : ℕ) (ys ns : List ℕ) (ch : ℕ) (reasons k r : LiteralSet) : Type 0 where
  pub yes_new : r.yes ≡ diff (yes_forced (mask_theory n ys ns ch) reasons.yes reasons.no) k.yes
  pub no_new : r.no ≡ diff (no_forced (mask_theory n ys ns ch) reasons.yes reasons.no) k.no
  pub forced : LiteralSet
  pub number : ℕ
  pub propagated : Propagated (mask_theory n ys ns ch) reasons.yes reasons.no forced number

-- ---- the next step

-- The rules and the limits, a consequence over choices that has a model, within it what is known, which forces it, and the costs.
pub record Asked (n : ℕ) (ys ns : List ℕ) (ch : ℕ) (table : List (List ℕ)) (c k : LiteralSet) : Type 0 where
  pub posed : Posed n ys ns c.yes c.no
  pub few : n ≤ max_variables
  pub choices_below : ch < 2 ^ n
  pub rows : ch < 2 ^ max_choices
  pub yes_choices : Within c.yes ch
  pub no_choices : Within c.no ch
  pub known_yes : Within k.yes c.yes
  pub known_no : Within k.no c.no
  pub model : (f : ℕ) × Model n ys ns c.yes c.no f
  pub forces : (f : ℕ) → Model n ys ns k.yes k.no f → Model n ys ns c.yes c.no f
  pub cheap : (v column : ℕ) → cost_of table v column ≤ max_cost

-- A key whose cost fits, and what is known, which some filling makes true with the rules.
pub record Chosen (n : ℕ) (ys ns : List ℕ) (ch : ℕ) (k : LiteralSet) (best : ℕ) : Type 0 where
  pub known : Reasoned n ys ns ch k
  pub cheap : best / cost_unit < cost_room

-- The step that a key stands for. The costs do not matter to it.
abbrev pub step_at : ℕ → List ℕ → List ℕ → ℕ → LiteralSet → LiteralSet → ℕ → Step
step_at n ys ns ch c k best =
    step_from (mask_question n ys ns ch [] c k)
    (record { cost = best / cost_unit; goal = best / goal_unit % goal_room; reasons = best % set_room })

-- ---- of a problem as the code holds it

-- What is asked of it, and what the question must be.
abbrev pub question_in : MaskedProblem → LiteralSet → LiteralSet → Question
question_in p c k = mask_question p.variables (yes_in p) (no_in p) p.choices p.costs c k

abbrev pub AskedIn : MaskedProblem → LiteralSet → LiteralSet → Type 0
AskedIn p c k = of_rules Asked p p.choices p.costs c k

-- The step that a key stands for.
abbrev pub step_in : MaskedProblem → LiteralSet → LiteralSet → ℕ → Step
step_in p c k best = step_at p.variables (yes_in p) (no_in p) p.choices c k best

-- A step as the code answers it.
abbrev pub answered : Step → log.Step
answered s =
    record {
      goal = s.goal;
      reasons = record { yes = s.reasons_on; no = s.reasons_off };
      new = record { yes = s.new_on; no = s.new_off };
      cost = s.cost;
    }

-- The answer for each case.
abbrev pub next_of : Answer → Option log.Step
next_of nothing_left = None
next_of (step s) = Some (answered s)
