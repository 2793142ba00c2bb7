-- The theorems about one step, over any number of variables. Their proofs are in Laws.
use Rattle.std.specs.Prelude.{◌≡◌, Bool, false, List, ℕ, ◌^◌, ◌<◌}
use Rattle.literals.specs.declared.LiteralSet.{LiteralSet}
use Rattle.consequence.specs.Meaning.{Theory, contradicts, NoModelOf}
use Rattle.consequence.specs.SameFillings.{SameChoices}
use Rattle.step.specs.Meaning.{Question, asking, Step, nothing_left, step, step_of}
use Rattle.step.specs.IsStep.{ForcedBy, Between, Sound, opposite_on, opposite_off, Goal, IsStep}
use Rattle.step.specs.Laws.Given as given
use Rattle.step.specs.Laws.Known as known-laws
use Rattle.step.specs.Laws.SameFillings as fillings
use Rattle.step.specs.Laws.TheStep as law
use Rattle.step.specs.Laws.Unique as unique

module _ (q : Question) (z : Sound q) where
  -- The step that is answered is the step.
  pub step_is : (s : Step) → step_of q ≡ step s → IsStep q s
  step_is s e = law.step_is q z s e

  -- Nothing is left exactly where K is the consequence.
  pub left_known : step_of q ≡ nothing_left → (q.known_on ≡ q.con_on) × (q.known_off ≡ q.con_off)
  left_known e = law.left_known q z e

  pub known_left : q.known_on ≡ q.con_on → q.known_off ≡ q.con_off → step_of q ≡ nothing_left
  known_left x y = law.known_left q z x y

  -- There is one step: what `IsStep` says leaves no freedom.
  pub step_unique : {a b : Step} → IsStep q a → IsStep q b → a ≡ b
  step_unique x y = unique.step_unique q z x y

-- The step depends on the rules only by the fillings of the choices that they leave (E1).
pub same_step : {t u : Theory} → SameChoices t u → (table : List (List ℕ)) (c known : LiteralSet) → Sound (asking t table c known)
    → Sound (asking u table c known) → step_of (asking t table c known) ≡ step_of (asking u table c known)
same_step s table c known x y = fillings.same_step s table c known x y

-- ---- a next step is always there (E9)

module _ (t : Theory) (table : List (List ℕ)) (c facts known : LiteralSet) (forced : ForcedBy t c facts) (between : Between facts known c) where
  -- For a known set between the given facts and the consequence, and a literal of the consequence outside it, the known set with the opposite of that
  -- literal contradicts the rules.
  pub known_contradicts : (v : ℕ) (says : Bool) → Goal (asking t table c known) v says
      → NoModelOf t (opposite_on says known.yes v) (opposite_off says known.no v)
  known_contradicts v says g = known-laws.known_contradicts (asking t table c known) (given.known_forces forced between) v says g

  module _ (below : t.choices < 2 ^ t.variables) (some : contradicts t facts.yes facts.no ≡ false) where
    -- Such a known set can be asked about,
    pub between_sound : Sound (asking t table c known)
    between_sound = given.between_sound below forced some table between

    -- and where a literal of the consequence is outside it, its next step is there.
    pub some_step : (v : ℕ) (says : Bool) → Goal (asking t table c known) v says
        → (s : Step) × (step_of (asking t table c known) ≡ step s) × IsStep (asking t table c known) s
    some_step v says g = law.some_step (asking t table c known) between_sound v says g
