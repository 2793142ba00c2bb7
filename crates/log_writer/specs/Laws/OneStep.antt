-- Demand 3 of one step, for every proper problem: its record holds, and fits its bytes. A sign stands for its mask.
-- Assumes nothing.
use Rattle.std.specs.Prelude.{◌≡◌, Bool, not, cond, List, ◌∷◌, ◌++◌, ℕ, ◌-◌, ◌^◌, ◌≤◌, ◌<◌, neg_ℤ}
use Rattle.std.proofs.Common.{◌∙◌}
use Rattle.std.proofs.Math.Bool.{true, false}
use native.Mathlib.Omega.{arith}
use Rattle.sets.specs.Sets.{bit, union, Within, Apart}
use Rattle.sets.specs.Laws.Bits.{bit_le, bit_diff, member_lt}
use Rattle.sets.specs.Laws.Subset.{within_le, apart_insert, apart_symm, within_trans, within_by, within_bit}
use Rattle.literals.specs.Literal.{Literal, variable, literals_of, literal_of}
use Rattle.literals.specs.Truth.{all_hold, yes_mask, no_mask}
use Rattle.literals.specs.declared.LiteralSet.{LiteralSet}
use Rattle.records.specs.Limits.{max_cost}
use Rattle.sat.specs.Meaning.{obeys_rules}
use Rattle.propagation.specs.Promises.{digit}
use Rattle.problem.specs.Problem.{Problem, given}
use Rattle.problem.specs.Proper.{ProperProblem}
use Rattle.consequence.specs.Meaning.{yes_consequence, no_consequence, consequence_of, theory_of, ModelOf}
use Rattle.consequence.specs.Demand2.{OverChoice, Always, Demand2, FilledIn}
use Rattle.consequence.specs.Laws.Masks.{assigned_theory}
use Rattle.consequence.specs.Laws.Problems.{yes_consequence_lem, no_consequence_lem, consequence_demand}
use Rattle.witnesses.specs.Laws.Questions.{opposite}
use Rattle.step.specs.Meaning.{question_of, Step, step, step_of, yes_goals, no_goals}
use Rattle.step.specs.IsStep.{ForcedBy, Sound, opposite_on, opposite_off, Goal, Candidature, Gained, IsStep, New}
use Rattle.step.specs.Laws.Costs.{set_bound}
use Rattle.step.specs.Laws.TheStep.{sound_forcing, goal_unknown, holds_digit, digit_holds}
use Rattle.step.specs.Laws.Given as facts
use Rattle.step.specs.Laws.Known.{goal_is}
use Rattle.log_writer.specs.Meaning.{record_of}
use Rattle.log_writer.specs.Demand3.{Forces, Contradicts, cost_of_set, In, Unknown, StepHolds}
use Rattle.log_writer.specs.Laws.Growth as growth
use Rattle.log_form.specs.Laws.Reads.{Fits}
use Rattle.log_form.specs.Laws.Lists.{each_literal, variable_signed, opposite_literal, list_rises}
use Rattle.log_form.specs.Laws.Masks.{SameLiterals, same_listed, mask_in, same_masks}
use Rattle.log_writer.specs.Laws.Lists.{same_both, holds_keeps, holds_avoids, same_holds, clash, first_holds, holds_first}
use Rattle.log_writer.specs.Laws.Costs.{OverVariables, reasons_cost, opposite_le}

-- ---- over a choice, filled in: by the bit of the literal's sign

over : (p : Problem) (v : ℕ) (says : Bool) → bit p.choices v ≡ 1 → OverChoice p (literal_of v says)
over p v true e = e
over p v false e = e

choice_of : (p : Problem) (v : ℕ) (says : Bool) → OverChoice p (literal_of v says) → bit p.choices v ≡ 1
choice_of p v true e = e
choice_of p v false e = e

pub filled_bit : (two : LiteralSet) (v : ℕ) (says : Bool) → FilledIn two (literal_of v says) → bit (cond says two.yes two.no) v ≡ 1
filled_bit two v true e = e
filled_bit two v false e = e

pub bit_filled : (two : LiteralSet) (v : ℕ) (says : Bool) → bit (cond says two.yes two.no) v ≡ 1 → FilledIn two (literal_of v says)
bit_filled two v true e = e
bit_filled two v false e = e

-- ---- a goal, by the bit of its sign

module _ (p : Problem) (known : LiteralSet) (v : ℕ) where
  pub goal_bit : (says : Bool)
      → bit (cond says (yes_goals (question_of p known)) (no_goals (question_of p known))) v
      ≡ bit (cond says (yes_consequence p) (no_consequence p)) v - bit (cond says known.yes known.no) v
  unfolding yes_goals no_goals
  goal_bit true = bit_diff (yes_consequence p) known.yes v
  goal_bit false = bit_diff (no_consequence p) known.no v

  bit_goal : (says : Bool) → bit (cond says (yes_goals (question_of p known)) (no_goals (question_of p known))) v ≡ 1 → Goal (question_of p known) v says
  bit_goal true e = e
  bit_goal false e = e

-- ---- a proper problem

module _ {p : Problem} (w : ProperProblem p) where
  abbrev ModelBy : ℕ → ℕ → ℕ → Type 0
  ModelBy on off f = ModelOf (theory_of p) on off f

  pub choices_below : (theory_of p).choices < 2 ^ (theory_of p).variables
  unfolding theory_of
  choices_below = w.choices_below

  pub forced : ForcedBy (theory_of p) (consequence_of p) (given p)
  forced = record { yes_forced = yes_consequence_lem p w.facts_proper; no_forced = no_consequence_lem p w.facts_proper }

  pub demand : Demand2 p (consequence_of p)
  demand = consequence_demand p w.choices_below

  choice_variable : (v : ℕ) → bit p.choices v ≡ 1 → v < p.variables
  choice_variable v e = member_lt _ p.choices v e w.choices_below

  -- models of a list and of its masks
  rules_obeyed : {on off f : ℕ} → ModelBy on off f → obeys_rules f p.rules ≡ true
  unfolding theory_of
  rules_obeyed m = m.obeyed

  is_below : {on off f : ℕ} → ModelBy on off f → f < 2 ^ p.variables
  unfolding theory_of
  is_below m = m.below

  to_model : {ks : List Literal} {on off : ℕ} → SameLiterals ks on off → (f : ℕ) → f < 2 ^ p.variables → obeys_rules f p.rules ≡ true
      → all_hold f ks ≡ true → ModelBy on off f
  unfolding theory_of
  to_model s f h o e = record { below = h; keeps = holds_keeps s f e; avoids = holds_avoids s f e; obeyed = o }

  -- ---- one step

  module _ {known : LiteralSet} {ks : List Literal} (a : Sound (question_of p known)) (st : SameLiterals ks known.yes known.no) {s : Step}
      (e : step_of (question_of p known) ≡ step s) where
    is : IsStep (question_of p known) s
    is = growth.is forced a e

    reasons_apart : Apart s.reasons_on s.reasons_off
    reasons_apart = growth.reasons_apart forced a e

    -- its lists and their masks
    reasons : SameLiterals (literals_of s.reasons_on s.reasons_off) s.reasons_on s.reasons_off
    reasons = same_listed _ _ reasons_apart

    news : SameLiterals (literals_of s.new_on s.new_off) s.new_on s.new_off
    news = same_listed _ _ (growth.new_apart forced a e)

    new_said : (says : Bool)
        → New (theory_of p) s.reasons_on s.reasons_off (digit says) (cond says known.yes known.no) (cond says s.new_on s.new_off)
    new_said = growth.new_said forced a e

    -- what lies within what
    reasons_within : (says : Bool) → Within (cond says s.reasons_on s.reasons_off) (cond says known.yes known.no)
    reasons_within true = is.is_candidate.on_known
    reasons_within false = is.is_candidate.off_known

    known_within : (says : Bool) → Within (cond says known.yes known.no) (cond says (yes_consequence p) (no_consequence p))
    known_within true = a.known_on
    known_within false = a.known_off

    con_choices : (says : Bool) → Within (cond says (yes_consequence p) (no_consequence p)) p.choices
    unfolding theory_of
    con_choices says = facts.over_choices_lem choices_below forced says

    known_choices : (says : Bool) → Within (cond says known.yes known.no) p.choices
    known_choices says = within_trans _ _ _ (known_within says) (con_choices says)

    reasons_choices : (says : Bool) → Within (cond says s.reasons_on s.reasons_off) p.choices
    reasons_choices says = within_trans _ _ _ (reasons_within says) (known_choices says)

    new_choices : (says : Bool) → Within (cond says s.new_on s.new_off) p.choices
    new_choices says = within_trans _ _ _ (growth.new_within forced a e says) (con_choices says)

    -- reasons and new literals
    reasons_known : (l : Literal) → In l (literals_of s.reasons_on s.reasons_off) → In l ks
    reasons_known =
        each_literal _ (λ i. absurd (reasons.none_zero i)) (λ v says i. st.bit_in v says (within_bit (reasons_within says) v (reasons.in_bit v says i)))

    goal_new : In s.goal (literals_of s.new_on s.new_off)
    goal_new = rw is.goal_said (news.bit_in is.variable is.says (gained is.says is.gained))
      where
        gained : (says : Bool) → Gained s is.variable says → bit (cond says s.new_on s.new_off) is.variable ≡ 1
        gained true g = g
        gained false g = g

    new_unknown : (l : Literal) → In l (literals_of s.new_on s.new_off) → Unknown p ks l
    unfolding theory_of
    new_unknown =
        each_literal _ (λ i. absurd (news.none_zero i)) (λ v says i.
        let t = (new_said says).sound v (news.in_bit v says i) in
        (over p v says t.0, λ k. omega (arith, t.1, st.in_bit v says k)))

    new_forced : (l : Literal) → In l (literals_of s.new_on s.new_off) → Forces p (literals_of s.reasons_on s.reasons_off) l
    new_forced =
        each_literal _ (λ i. absurd (news.none_zero i)) (λ v says i.
        record { forces = λ f h o k. holds_digit f v says (((new_said says).sound v (news.in_bit v says i)).2 f (to_model reasons f h o k)) })

    not_known : (v : ℕ) (says : Bool) → (In (literal_of v says) ks → ⊥) → bit (cond says known.yes known.no) v ≡ 0
    not_known v says n =
        let out : bit (cond says known.yes known.no) v ≡ 1 → ⊥ = λ k. n (st.bit_in v says k) in
        omega (arith, bit_le (cond says known.yes known.no) v)

    new_all : (l : Literal) → Unknown p ks l → Forces p (literals_of s.reasons_on s.reasons_off) l → In l (literals_of s.new_on s.new_off)
    unfolding theory_of
    new_all =
        each_literal _ (λ u r. absurd u.0) (λ v says u r.
        let c : bit p.choices v ≡ 1 = choice_of p v says u.0 in
        news.bit_in v says ((new_said says).complete v (choice_variable v c) c (not_known v says u.1)
        (λ f m. digit_holds f v says (r.forces f (is_below m) (rules_obeyed m) (same_holds reasons f m.keeps m.avoids)))))

    contradiction : Contradicts p (neg_ℤ s.goal ∷ literals_of s.reasons_on s.reasons_off)
    contradiction = record {
      none = λ f h o k.
          let t = first_holds f _ _ k in
          clash f is.variable is.says (rw is.goal_said at (is.forced f (to_model reasons f h o t.1))) (rw is.goal_said at t.0);
    }

    -- ---- costs

    inside : (m : ℕ) → Within m p.choices → m < 2 ^ p.variables
    inside m h = omega (arith, within_le m _ h, w.choices_below)

    goal_at : (v : ℕ) (says : Bool) → Goal (question_of p known) v says → (bit p.choices v ≡ 1) × (bit known.yes v ≡ 0) × (bit known.no v ≡ 0)
    unfolding theory_of
    goal_at v says g = goal_unknown (question_of p known) a v (goal_is (question_of p known) (sound_forcing (question_of p known) a) v says g).0

    -- the goal's variable is a choice's, and the reasons say nothing of it
    goal_choice : bit p.choices is.variable ≡ 1
    goal_choice = (goal_at is.variable is.says is.is_candidate.goal).0

    goal_apart : (bit s.reasons_on is.variable ≡ 0) × (bit s.reasons_off is.variable ≡ 0)
    goal_apart =
        let g = goal_at is.variable is.says is.is_candidate.goal in
        (omega (arith, g.1, (reasons_within true).keeps is.variable), omega (arith, g.2, (reasons_within false).keeps is.variable))

    cost_theirs : s.cost ≡ cost_of_set p (neg_ℤ s.goal ∷ literals_of s.reasons_on s.reasons_off)
    unfolding theory_of
    cost_theirs =
        rw is.goal_said (is.cost_said
        ∙ reasons_cost p s.reasons_on s.reasons_off (inside _ (reasons_choices true)) (inside _ (reasons_choices false)) reasons_apart
        is.variable is.says (choice_variable _ goal_choice) goal_apart.0 goal_apart.1)

    -- another set of known literals
    module _ (set : List Literal) (inset : (l : Literal) → In l set → In l ks) where
      same_set : SameLiterals set (yes_mask set) (no_mask set)
      same_set = same_masks set (λ i. st.none_zero (inset _ i))

      set_known : (says : Bool) → Within (cond says (yes_mask set) (no_mask set)) (cond says known.yes known.no)
      set_known says = within_by _ _ (λ v k. st.in_bit v says (inset _ (mask_in says set v k)))

      set_variables : OverVariables p set
      unfolding variable
      set_variables =
          each_literal _ (λ i. absurd (st.none_zero (inset _ i))) (λ v says i.
          let c = choice_variable v (within_bit (known_choices says) v (st.in_bit v says (inset _ i))) in
          (omega (arith, variable_signed v says), omega (arith, variable_signed v says)))

      module _ (v : ℕ) (says : Bool) (g : Goal (question_of p known) v says) (k : Contradicts p (neg_ℤ (literal_of v says) ∷ set)) where
        candidature : Candidature (question_of p known) (yes_mask set) (no_mask set) v says
        candidature =
            record {
              on_known = set_known true;
              off_known = set_known false;
              goal = g;
              contradicts = record {
                none = λ f m.
                    let t = assigned_theory (opposite says (yes_mask set) (no_mask set) v) m in
                    k.none f (is_below m) (rules_obeyed m)
                    (holds_first f _ set (rw (opposite_literal v says) (holds_digit f v (not says) t.1))
                    (same_holds same_set f t.0.keeps t.0.avoids));
              };
            }

        cheaper : s.cost ≤ cost_of_set p (neg_ℤ (literal_of v says) ∷ set)
        unfolding theory_of
        cheaper =
            omega (
              arith,
              is.cheapest _ _ v says candidature,
              opposite_le p set set_variables v says (choice_variable v (goal_at v says g).0),
            )

      cheapest : (g : Literal) → Unknown p ks g → Always p g → Contradicts p (neg_ℤ g ∷ set) → s.cost ≤ cost_of_set p (neg_ℤ g ∷ set)
      cheapest =
          each_literal _ (λ u r k. absurd u.0) (λ v says u r k.
          let wanted = filled_bit (consequence_of p) v says (demand.all_filled_in (literal_of v says) u.0 r) in
          cheaper v says (bit_goal p known v says (omega (arith, wanted, goal_bit p known v says, not_known v says u.1))) k)

    pub step_holds : StepHolds p ks (record_of s)
    step_holds = record {
      reasons_known = reasons_known;
      goal_new = goal_new;
      new_unknown = new_unknown;
      new_forced = new_forced;
      new_all = new_all;
      contradiction = contradiction;
      cost_theirs = cost_theirs;
      cheapest = λ set g i u r k. cheapest set i g u r k;
    }

    -- ---- the record fits its bytes

    against_apart : Apart (opposite_on is.says s.reasons_on is.variable) (opposite_off is.says s.reasons_off is.variable)
    against_apart = go is.says
      where
        go : (says : Bool) → Apart (opposite_on says s.reasons_on is.variable) (opposite_off says s.reasons_off is.variable)
        go true = apart_symm _ _ (apart_insert _ _ _ (apart_symm _ _ reasons_apart) goal_apart.0)
        go false = apart_insert _ _ _ reasons_apart goal_apart.1

    pub cost_small : s.cost < 65536
    unfolding theory_of
    cost_small = omega (arith, is.cost_said, set_bound p.costs p.variables max_cost _ _ w.cheap against_apart, w.few_variables)

    pub step_fits : Fits p.choices (record_of s)
    step_fits =
        record {
          goal_fits = rw is.goal_said (omega (arith, variable_signed is.variable is.says, choice_variable _ goal_choice, w.few_variables));
          reasons_rise = list_rises _ _ _ (reasons_choices true) (reasons_choices false);
          new_rise = list_rises _ _ _ (new_choices true) (new_choices false);
          cost_fits = cost_small;
        }

    pub same_more : SameLiterals (ks ++ literals_of s.new_on s.new_off) (union known.yes s.new_on) (union known.no s.new_off)
    same_more = same_both st news
