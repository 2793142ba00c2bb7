-- What the step is, for every filling and every candidate: the statement that `step_is` (Theorems) proves of the computed meaning.
use Rattle.std.specs.Prelude.{◌≡◌, ◌⊎◌, Bool, true, false, cond, ℕ, ◌^◌, ◌≤◌, ◌<◌}
use Rattle.sets.specs.Sets.{bit, union, insert, count, Within}
use Rattle.literals.specs.Truth.{holds}
use Rattle.literals.specs.declared.LiteralSet.{LiteralSet}
use Rattle.literals.specs.Literal.{literal_of}
use Rattle.consequence.specs.Meaning.{Theory, yes_forced, no_forced, ModelOf, NoModelOf}
use Rattle.step.specs.Meaning.{Question, set_cost, yes_goals, no_goals, Candidate, Step}

-- ---- what is asked

-- The set c is what the given facts force over choices.
pub record ForcedBy (t : Theory) (c facts : LiteralSet) : Type 0 where
  pub yes_forced : c.yes ≡ yes_forced t facts.yes facts.no
  pub no_forced : c.no ≡ no_forced t facts.yes facts.no

-- K lies between the given facts and the consequence.
pub record Between (facts known c : LiteralSet) : Type 0 where
  pub facts_yes : Within facts.yes known.yes
  pub facts_no : Within facts.no known.no
  pub known_yes : Within known.yes c.yes
  pub known_no : Within known.no c.no

-- What is asked makes sense: the consequence is over choices and has a model, and K lies within it and forces it. So it is where K lies between
-- the given facts and the consequence (`between_sound`, Theorems).
pub record Sound (q : Question) : Type 0 where
  pub choices_below : q.theory.choices < 2 ^ q.theory.variables
  pub on_choices : Within q.con_on q.theory.choices
  pub off_choices : Within q.con_off q.theory.choices
  pub known_on : Within q.known_on q.con_on
  pub known_off : Within q.known_off q.con_off
  pub model : (f : ℕ) × ModelOf q.theory q.con_on q.con_off f
  pub forces : (f : ℕ) → ModelOf q.theory q.known_on q.known_off f → ModelOf q.theory q.con_on q.con_off f

-- ---- a set of literals and the opposite of a goal

-- A set with the opposite of the literal over variable v + 1 that says yes or no: its two masks.
abbrev pub opposite_on : Bool → ℕ → ℕ → ℕ
opposite_on says on v = cond says on (insert on v)

abbrev pub opposite_off : Bool → ℕ → ℕ → ℕ
opposite_off says off v = cond says (insert off v) off

-- The literal over variable v + 1 is a goal: a literal of the consequence outside K.
abbrev pub Goal : Question → ℕ → Bool → Type 0
Goal q v true = bit (yes_goals q) v ≡ 1
Goal q v false = bit (no_goals q) v ≡ 1

-- A candidate: a set of literals from K and a goal such that no filling obeys the rules and makes the set and the opposite of the goal true.
pub record Candidature (q : Question) (on off v : ℕ) (says : Bool) : Type 0 where
  pub on_known : Within on q.known_on
  pub off_known : Within off q.known_off
  pub goal : Goal q v says
  pub contradicts : NoModelOf q.theory (opposite_on says on v) (opposite_off says off v)

-- ---- the order

-- Less, or equal and then X.
abbrev pub Lex : ℕ → ℕ → Type 0 → Type 0
Lex a b X = (a < b) ⊎ ((a ≡ b) × X)

-- c comes before d, or is d: by the cost, the number of facts, the goal's variable, and the sum.
abbrev pub Upto : Candidate → Candidate → Type 0
Upto c d = Lex c.cost d.cost (Lex (count c.reasons) (count d.reasons) (Lex c.goal d.goal (c.reasons ≤ d.reasons)))

-- A candidate's place in the order: its cost is that of the set and the opposite of the goal.
abbrev pub placed : Question → ℕ → ℕ → ℕ → Bool → Candidate
placed q on off v says =
    record {
      cost = set_cost q.table q.theory.variables (opposite_on says on v) (opposite_off says off v);
      goal = v;
      reasons = union on off;
    }

-- ---- the step

-- The variables of m are exactly the choices, not among `known`, that have the digit d in every model of the rules and the set.
pub record New (t : Theory) (on off d known m : ℕ) : Type 0 where
  pub sound : (v : ℕ) → bit m v ≡ 1 → (bit t.choices v ≡ 1) × (bit known v ≡ 0) × ((f : ℕ) → ModelOf t on off f → bit f v ≡ d)
  pub complete : (v : ℕ) → v < t.variables → bit t.choices v ≡ 1 → bit known v ≡ 0 → ((f : ℕ) → ModelOf t on off f → bit f v ≡ d) → bit m v ≡ 1

-- The goal is among the new literals.
abbrev pub Gained : Step → ℕ → Bool → Type 0
Gained s v true = bit s.new_on v ≡ 1
Gained s v false = bit s.new_off v ≡ 1

-- The step: the first candidate in the order, and what its reasons force beyond K.
pub record IsStep (q : Question) (s : Step) : Type 0 where
  -- the goal's variable, less 1, and what it says of it
  pub variable : ℕ
  pub says : Bool
  pub goal_said : s.goal ≡ literal_of variable says
  pub is_candidate : Candidature q s.reasons_on s.reasons_off variable says
  pub cost_said : s.cost ≡ (placed q s.reasons_on s.reasons_off variable says).cost
  -- every filling that obeys the rules and makes the reasons true makes the goal true
  pub forced : (f : ℕ) → ModelOf q.theory s.reasons_on s.reasons_off f → holds f s.goal ≡ true
  -- no candidate comes before it; so none costs less
  pub first : (on off v : ℕ) (b : Bool) → Candidature q on off v b → Upto (placed q s.reasons_on s.reasons_off variable says) (placed q on off v b)
  pub cheapest : (on off v : ℕ) (b : Bool) → Candidature q on off v b → s.cost ≤ (placed q on off v b).cost
  pub new_yes : New q.theory s.reasons_on s.reasons_off 1 q.known_on s.new_on
  pub new_no : New q.theory s.reasons_on s.reasons_off 0 q.known_off s.new_off
  pub gained : Gained s variable says
