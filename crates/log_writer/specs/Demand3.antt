-- Demand 3: one claim about a whole log, all its ST records and its OK together, in the words of document 01, "The log". A set of literals is a list here,
-- as the records have it.
use Rattle.std.specs.Prelude.{◌≡◌, true, ℕ, ◌+◌, ◌^◌, ◌≤◌, ◌<◌, neg_ℤ, length}
use mathlib.Core.List.{List, [], ◌∷◌, ◌++◌, Memᴰ}
use Rattle.literals.specs.Literal.{Literal}
use Rattle.literals.specs.Truth.{holds, all_hold}
use Rattle.sat.specs.Meaning.{obeys_rules}
use Rattle.problem.specs.Problem.{Problem, literal_cost}
use Rattle.consequence.specs.Demand2.{OverChoice, Always}
use Rattle.log_form.specs.Format.{StepRecord, Log, log_bytes, is_log, read_log, rising_over}
use Rattle.log_writer.specs.Meaning.{costs_written}

-- ---- its words

-- A set of literals, also the empty one, forces a literal with the rules when that literal is true in every filling that obeys the rules and makes
-- all of the set true.
pub record Forces (p : Problem) (set : List Literal) (l : Literal) : Type 0 where
  pub forces : (f : ℕ) → f < 2 ^ p.variables → obeys_rules f p.rules ≡ true → all_hold f set ≡ true → holds f l ≡ true

-- A set contradicts the rules when no filling obeys the rules and makes all of the set true.
pub record Contradicts (p : Problem) (set : List Literal) : Type 0 where
  pub none : (f : ℕ) → f < 2 ^ p.variables → obeys_rules f p.rules ≡ true → all_hold f set ≡ true → ⊥

-- A set costs the sum of the costs of its literals.
unfoldable pub cost_of_set : Problem → List Literal → ℕ
cost_of_set p [] = 0
cost_of_set p (l ∷ ls) = literal_cost p.costs l + cost_of_set p ls

-- A choice, which is here a literal over a choice, is known, or unknown.
abbrev pub In : Literal → List Literal → Type 0
In l ls = Memᴰ l ls

abbrev pub Unknown : Problem → List Literal → Literal → Type 0
Unknown p known l = OverChoice p l × (In l known → ⊥)

-- ---- one step

-- What is claimed of a step before which these choices are known.
pub record StepHolds (p : Problem) (known : List Literal) (r : StepRecord) : Type 0 where
  -- the step's reasons lie among these
  pub reasons_known : (l : Literal) → In l r.reasons → In l known
  -- its new choices, its goal among them, do not: they are exactly the unknown ones that its reasons force with the rules
  pub goal_new : In r.goal r.new
  pub new_unknown : (l : Literal) → In l r.new → Unknown p known l
  pub new_forced : (l : Literal) → In l r.new → Forces p r.reasons l
  pub new_all : (l : Literal) → Unknown p known l → Forces p r.reasons l → In l r.new
  -- its reasons with the opposite of its goal contradict the rules, and the cost written is theirs
  pub contradiction : Contradicts p (neg_ℤ r.goal ∷ r.reasons)
  pub cost_theirs : r.cost ≡ cost_of_set p (neg_ℤ r.goal ∷ r.reasons)
  -- every other set that contradicts the rules and consists of known choices and the opposite of exactly one forced, unknown choice costs at least as much
  pub cheapest : (set : List Literal) (g : Literal) → ((l : Literal) → In l set → In l known) → Unknown p known g → Always p g
      → Contradicts p (neg_ℤ g ∷ set) → r.cost ≤ cost_of_set p (neg_ℤ g ∷ set)

-- ---- the whole log

-- Each step holds, and known before it are the given facts and all earlier new choices.
abbrev pub EachHolds : Problem → List Literal → List StepRecord → Type 0
EachHolds p known [] = Unit {0}
EachHolds p known (r ∷ rs) = StepHolds p known r × EachHolds p (known ++ r.new) rs

-- What is known after the last step.
unfoldable pub known_after : List Literal → List StepRecord → List Literal
known_after known [] = known
known_after known (r ∷ rs) = known_after (known ++ r.new) rs

-- Demand 3, of the bytes of a log.
pub record Demand3 (p : Problem) (bytes : List ℕ) : Type 0 where
  -- the log in these bytes: they are its bytes, and in log form they are read as this log and as no other
  pub log : Log
  pub written : bytes ≡ log_bytes log
  pub read : read_log p.choices bytes ≡ is_log log
  -- each step holds
  pub each : EachHolds p p.facts log.records
  -- the steps counted at the end are those written, at most the forced choices not given, and the total is the sum of the costs written
  pub counted : log.steps ≡ length log.records
  pub not_given : List Literal
  pub all_not_given : (l : Literal) → In l not_given → Unknown p p.facts l × Always p l
  pub not_given_rises : rising_over p.choices 0 not_given ≡ true
  pub few : log.steps ≤ length not_given
  pub summed : log.total ≡ costs_written log.records
  -- after the last step, or at once where there is none, exactly the consequence is known
  pub consequence_known : (l : Literal) → OverChoice p l → Always p l → In l (known_after p.facts log.records)
  pub known_consequence : (l : Literal) → In l (known_after p.facts log.records) → OverChoice p l × Always p l

-- Demand 3 of a log's bytes, with the steps and the total that the call returns: they are those of OK.
pub record Explained (p : Problem) (bytes : List ℕ) (steps total : ℕ) : Type 0 where
  pub demand : Demand3 p bytes
  pub steps_said : demand.log.steps ≡ steps
  pub total_said : demand.log.total ≡ total
