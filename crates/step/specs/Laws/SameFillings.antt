-- The step depends on the rules only by the fillings of the choices that they leave (E1): by what the step is, and the law of forcing. Assumes nothing.
use Rattle.std.specs.Prelude.{◌≡◌, Bool, List, ℕ, ◌^◌, ◌<◌}
use Rattle.std.proofs.Common.{sym, ap, subst₂, ◌∙◌, arith}
use Rattle.std.proofs.Math.Logic.{by_cases}
use Rattle.std.proofs.Math.Bool.{true, false}
use Rattle.std.proofs.Math.Decide.{ℕ_discrete}
use Rattle.sets.specs.Sets.{bit, union, Within}
use Rattle.sets.specs.Laws.Bits.{member_lt}
use Rattle.sets.specs.Laws.Subset.{within_le, within_trans, within_insert}
use Rattle.literals.specs.Truth.{holds}
use Rattle.literals.specs.declared.LiteralSet.{LiteralSet}
use Rattle.propagation.specs.Promises.{digit}
use Rattle.consequence.specs.Meaning.{Theory, ModelOf}
use Rattle.consequence.specs.SameFillings.{SameChoices, SameForcing}
use Rattle.consequence.proofs.SameFillings.{choices_back, choice_there, same_forcing, forcing_back, same_none, same_digit}
use Rattle.step.specs.Meaning.{asking, yes_goals, no_goals, goals, Candidate, Step, step, step_of}
use Rattle.step.specs.IsStep.{Sound, opposite_on, opposite_off, Goal, Candidature, Upto, placed, New, IsStep}
use Rattle.step.specs.Laws.Costs.{cost_width}
use Rattle.step.specs.Laws.Known.{goal_is}
use Rattle.step.specs.Laws.Order.{lex_le}
use Rattle.step.specs.Laws.TheStep.{step_left, step_open, step_is, sound_forcing, goal_unknown, holds_digit, digit_holds}
use Rattle.step.specs.Laws.Unique.{step_unique}

-- the new literals of a sign
new_same : {t u : Theory} (s : SameChoices t u) {on off known m : ℕ} → SameForcing t u on off → (value : Bool) → New t on off (digit value) known m
    → New u on off (digit value) known m
new_same {t} {u} s k value x =
    record {
      sound = λ v e.
          let w = x.sound v e in
          (choice_there s v w.0, w.1, same_digit k v value (member_lt _ t.choices v w.0 s.below) w.0 w.2);
      complete = λ v h c o a.
          let e = choice_there (choices_back s) v c in
          x.complete v (member_lt _ t.choices v e s.below) e o (same_digit (forcing_back k) v value h c a);
    }

-- ---- one question of two theories

module _ {t u : Theory} (s : SameChoices t u) (table : List (List ℕ)) (c known : LiteralSet) (z : Sound (asking t table c known)) where
  -- what is known is over choices
  on_choices : {on : ℕ} → Within on known.yes → Within on t.choices
  on_choices w = within_trans _ _ _ w (within_trans _ _ _ z.known_on z.on_choices)

  off_choices : {off : ℕ} → Within off known.no → Within off t.choices
  off_choices w = within_trans _ _ _ w (within_trans _ _ _ z.known_off z.off_choices)

  -- one candidate
  module _ {on off v : ℕ} {b : Bool} (k : Candidature (asking t table c known) on off v b) where
    goal_choice : bit t.choices v ≡ 1
    goal_choice = (goal_unknown (asking t table c known) z v (goal_is _ (sound_forcing _ z) v b k.goal).0).0

    -- with the opposite of the goal it is over choices too
    against_choices : (says : Bool) → Within (opposite_on says on v) t.choices × Within (opposite_off says off v) t.choices
    against_choices true = (on_choices k.on_known, within_insert off v _ (off_choices k.off_known) goal_choice)
    against_choices false = (within_insert on v _ (on_choices k.on_known) goal_choice, off_choices k.off_known)

    same_goal : (says : Bool) → Goal (asking t table c known) v says → Goal (asking u table c known) v says
    unfolding yes_goals no_goals
    same_goal true g = g
    same_goal false g = g

    -- so it is a candidate with the other rules
    candidate_same : Candidature (asking u table c known) on off v b
    candidate_same =
        record {
          on_known = k.on_known;
          off_known = k.off_known;
          goal = same_goal b k.goal;
          contradicts = same_none (same_forcing s (against_choices b).0 (against_choices b).1) k.contradicts;
        }

    -- of the same cost, and so at the same place in the order
    placed_same : placed (asking t table c known) on off v b ≡ placed (asking u table c known) on off v b
    placed_same = λ i. record { cost = cost i; goal = v; reasons = union on off }
      where
        under : {m : ℕ} → Within m t.choices → m < 2 ^ t.variables
        under {m} w = omega (arith, s.below, within_le m t.choices w)

        other_under : {m : ℕ} → Within m t.choices → m < 2 ^ u.variables
        other_under {m} w = omega (arith, s.other_below, s.choices_same, within_le m t.choices w)

        cost : (placed (asking t table c known) on off v b).cost ≡ (placed (asking u table c known) on off v b).cost
        cost =
            cost_width table t.variables u.variables _ _ (under (against_choices b).0) (other_under (against_choices b).0)
            (under (against_choices b).1) (other_under (against_choices b).1)

-- ---- the step

module _ {t u : Theory} (s : SameChoices t u) (table : List (List ℕ)) (c known : LiteralSet) (z : Sound (asking t table c known))
    (y : Sound (asking u table c known)) where
  -- the step with the one is the step with the other
  module _ {a : Step} (x : IsStep (asking t table c known) a) where
    reasons_forcing : SameForcing t u a.reasons_on a.reasons_off
    reasons_forcing =
        same_forcing s (on_choices s table c known z x.is_candidate.on_known) (off_choices s table c known z x.is_candidate.off_known)

    said : placed (asking t table c known) a.reasons_on a.reasons_off x.variable x.says
        ≡ placed (asking u table c known) a.reasons_on a.reasons_off x.variable x.says
    said = placed_same s table c known z x.is_candidate

    first_same : (on off v : ℕ) (b : Bool) → Candidature (asking u table c known) on off v b
        → Upto (placed (asking u table c known) a.reasons_on a.reasons_off x.variable x.says) (placed (asking u table c known) on off v b)
    first_same on off v b k =
        let other = candidate_same (choices_back s) table c known y k in
        subst₂ Upto said (placed_same s table c known z other) (x.first on off v b other)

    forced_same : (f : ℕ) → ModelOf u a.reasons_on a.reasons_off f → holds f a.goal ≡ true
    forced_same f m =
        let o = goal_choice s table c known z x.is_candidate in
        rw x.goal_said (holds_digit f x.variable x.says
        (same_digit reasons_forcing x.variable x.says (member_lt _ t.choices _ o s.below) o
        (λ g n. digit_holds g x.variable x.says (rw x.goal_said at (x.forced g n))) f m))

    is_same : IsStep (asking u table c known) a
    is_same =
        record {
          variable = x.variable;
          says = x.says;
          goal_said = x.goal_said;
          is_candidate = candidate_same s table c known z x.is_candidate;
          cost_said = x.cost_said ∙ ap (λ (d : Candidate). d.cost) said;
          forced = forced_same;
          first = first_same;
          cheapest = λ on off v b k. omega (arith, x.cost_said, ap (λ (d : Candidate). d.cost) said, lex_le (first_same on off v b k));
          new_yes = new_same s reasons_forcing true x.new_yes;
          new_no = new_same s reasons_forcing false x.new_no;
          gained = x.gained;
        }

  goals_same : goals (asking t table c known) ≡ goals (asking u table c known)
  unfolding goals yes_goals no_goals
  goals_same = λ i. goals (asking t table c known)

  pub same_step : step_of (asking t table c known) ≡ step_of (asking u table c known)
  same_step =
      by_cases (ℕ_discrete (goals (asking t table c known)) 0)
      (λ e. step_left _ e ∙ sym (step_left _ (sym goals_same ∙ e)))
      (λ e.
      let here = step_open (asking t table c known) e in
      let there = step_open (asking u table c known) (λ d. e (goals_same ∙ d)) in
      here ∙ ap step (step_unique _ y (is_same (step_is _ z _ here)) (step_is _ y _ there)) ∙ sym there)
