-- What E6 changes: the step in the order and the step in the one before it. Assumes nothing.
use Rattle.std.specs.Prelude.{◌≡◌, refl, ◌⊎◌, ℕ, ◌+◌, ◌≤◌, ◌<◌}
use Rattle.std.proofs.Common.{sym, subst, ◌∙◌, inl, inr, le_antisymm, arith}
use Rattle.std.proofs.Math.Path.{ap, subst₂}
use Rattle.std.proofs.Math.Logic.{by_cases}
use Rattle.std.proofs.Math.Decide.{ℕ_discrete}
use Rattle.sets.specs.Sets.{union, count, Within}
use Rattle.sets.specs.Laws.Count.{ones_union}
use Rattle.sets.specs.Laws.Subset.{apart_within, inter_in}
use Rattle.step.specs.Meaning.{Question, goals, reasons_on, reasons_off, Candidate, the_step, Answer}
use Rattle.step.specs.Meaning.{nothing_left, step, step_from, step_of}
use Rattle.step.specs.IsStep.{Sound, Lex, Upto, placed, IsStep}
use Rattle.step.specs.LowerGoalFirst.{lower_goal_first, lower_goal_candidate, lower_goal_step, FewerFacts, FewerThan, SameCost, ChangesExactly}
use Rattle.step.specs.Laws.Order.{TotalPreorder, by_number, by_number_then, lex_both, lex_le}
use Rattle.step.specs.Laws.Known.{known_apart, reasons_union}
use Rattle.step.specs.Laws.Candidates.{Stepped}
use Rattle.step.specs.Laws.TheStep.{answer_left, answer_open, step_left, step_open, sound_forcing, first_taken, taken, from_stepped}

-- c comes before d in the order before E6, or is d.
abbrev UptoByGoal : Candidate → Candidate → Type 0
UptoByGoal c d = Lex c.cost d.cost (Lex c.goal d.goal (c.reasons ≤ d.reasons))

by_goal : TotalPreorder lower_goal_first UptoByGoal
unfolding lower_goal_first
by_goal = by_number_then (λ c. c.cost) (by_number_then (λ c. c.goal) (by_number (λ c. c.reasons)))

-- the first in the one order and the first in the other are the same, or the one has fewer facts
same_or_fewer : {c d : Candidate} → Upto c d → UptoByGoal d c → (c ≡ d) ⊎ (count c.reasons < count d.reasons)
same_or_fewer {c} {d} h k = let cost = lex_both h k in go cost.0 cost.1 cost.2
  where
    go : c.cost ≡ d.cost → Lex (count c.reasons) (count d.reasons) (Lex c.goal d.goal (c.reasons ≤ d.reasons))
        → Lex d.goal c.goal (d.reasons ≤ c.reasons) → (c ≡ d) ⊎ (count c.reasons < count d.reasons)
    go e (inl f) l = inr f
    go e (inr f) l =
        let goal = lex_both f.1 l in
        let reasons = le_antisymm goal.1 goal.2 in
        inl (λ i. record { cost = e i; goal = goal.0 i; reasons = reasons i })

module _ (q : Question) (z : Sound q) where
  -- the literals of a set of K: those of its masks together, one over each of its variables
  facts_apart : {on off : ℕ} → Within on q.known_on → Within off q.known_off → count (union on off) ≡ count on + count off
  facts_apart {on} {off} x y = ones_union on off (apart_within x y (known_apart q (sound_forcing q z)))

  facts_of : {Le : Candidate → Candidate → Type 0} (c : Candidate) → Stepped q Le c
      → count c.reasons ≡ count (reasons_on q c.reasons) + count (reasons_off q c.reasons)
  unfolding reasons_on reasons_off
  facts_of c s =
      ap count (sym (reasons_union q (sound_forcing q z) c.reasons s.listed.picks.known))
      ∙ facts_apart (inter_in c.reasons q.known_on) (inter_in c.reasons q.known_off)

  -- ---- where a goal is left

  module _ (left : goals q ≡ 0 → ⊥) where
    step_first : Stepped q Upto (the_step q)
    step_first = taken q z left

    lower_first : Stepped q UptoByGoal (lower_goal_candidate q)
    unfolding lower_goal_candidate
    lower_first = first_taken q z by_goal left

    -- neither comes before the first of the other order
    step_upto : Upto (the_step q) (lower_goal_candidate q)
    step_upto = subst (Upto (the_step q)) (sym lower_first.listed.is) (step_first.first _ _ lower_first.listed.picks)

    lower_upto : UptoByGoal (lower_goal_candidate q) (the_step q)
    lower_upto = subst (UptoByGoal (lower_goal_candidate q)) (sym step_first.listed.is) (lower_first.first _ _ step_first.listed.picks)

    costs : (the_step q).cost ≡ (lower_goal_candidate q).cost
    costs = (lex_both step_upto lower_upto).0

    it : IsStep q (step_from q (the_step q))
    it = from_stepped q z (the_step q) step_first

    fewer : count (the_step q).reasons < count (lower_goal_candidate q).reasons → FewerFacts q (step_from q (lower_goal_candidate q))
    unfolding step_from
    fewer h =
        record {
          on = reasons_on q (the_step q).reasons;
          off = reasons_off q (the_step q).reasons;
          variable = it.variable;
          says = it.says;
          is_candidate = it.is_candidate;
          least_cost = λ a b v y k. omega (arith, it.cost_said, it.cheapest a b v y k);
          fewer = omega (arith, h, facts_of (the_step q) step_first, facts_of (lower_goal_candidate q) lower_first);
        }

    differs : (step_from q (the_step q) ≡ step_from q (lower_goal_candidate q) → ⊥) → FewerFacts q (step_from q (lower_goal_candidate q))
    differs n = go (same_or_fewer step_upto lower_upto)
      where
        go : (the_step q ≡ lower_goal_candidate q) ⊎ (count (the_step q).reasons < count (lower_goal_candidate q).reasons) → FewerFacts q (step_from q (lower_goal_candidate q))
        go (inl e) = absurd (n (ap (step_from q) e))
        go (inr h) = fewer h

    -- no candidate of least cost has fewer facts than the step
    no_fewer : FewerFacts q (step_from q (the_step q)) → ⊥
    no_fewer f = go (it.first f.on f.off f.variable f.says f.is_candidate)
      where
        mine : Candidate
        mine = placed q (step_from q (the_step q)).reasons_on (step_from q (the_step q)).reasons_off it.variable it.says

        go : Upto mine (placed q f.on f.off f.variable f.says) → ⊥
        go (inl h) = omega (arith, h, f.least_cost _ _ _ _ it.is_candidate)
        go (inr h) =
            omega (
              arith,
              lex_le h.1,
              f.fewer,
              facts_apart f.is_candidate.on_known f.is_candidate.off_known,
              facts_apart it.is_candidate.on_known it.is_candidate.off_known,
            )

  -- ---- the answers

  module _ (A : Answer → Answer → Type 0) (none : A nothing_left nothing_left)
      (some : (goals q ≡ 0 → ⊥) → A (step (step_from q (the_step q))) (step (step_from q (lower_goal_candidate q)))) where
    -- what holds of both answers where nothing is left, and of both steps
    both_answers : A (step_of q) (lower_goal_step q)
    unfolding lower_goal_step
    both_answers =
        by_cases (ℕ_discrete (goals q) 0)
        (λ e. subst₂ A (sym (step_left q e)) (sym (answer_left q (lower_goal_candidate q) e)) none)
        (λ e. subst₂ A (sym (step_open q e)) (sym (answer_open q (lower_goal_candidate q) e)) (some e))

  pub changes_exactly : ChangesExactly q
  unfolding step_from
  changes_exactly =
      record {
        differs_fewer = both_answers (λ (a b : Answer). (a ≡ b → ⊥) → FewerThan q b) (λ n. n refl) (λ left n. differs left (λ e. n (ap step e)));
        fewer_differs = both_answers (λ (a b : Answer). FewerThan q b → a ≡ b → ⊥) (λ f e. f)
            (λ left f e. no_fewer left (subst (FewerThan q) (sym e) f));
        cost_same = both_answers SameCost tt costs;
      }
