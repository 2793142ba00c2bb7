-- The least key is the step: the answer in each case. Assumes nothing.
use Rattle.std.specs.Prelude.{◌≡◌, Bool, true, List, ℕ, Option, Some, None, ◌/◌, ◌%◌, ◌≤◌, ◌<◌}
use Rattle.std.proofs.Math.Path.{sym, ap, ap₂}
use Rattle.std.proofs.Common.{subst, ◌∙◌, true≢false, arith}
use Rattle.sets.specs.Sets.{bit, has, union, inter, diff, Within}
use Rattle.sets.specs.Laws.Bits.{bit_union, pos_of_member}
use Rattle.sets.specs.Laws.Subset.{within_le, inter_in}
use Rattle.literals.specs.Literal.{Literal, literal_of}
use Rattle.literals.specs.declared.LiteralSet.{LiteralSet}
use Rattle.literals.specs.LiteralSets as set
use Rattle.sat.specs.Laws.Assigns.{posed_within}
use Rattle.consequence.specs.Meaning.{contradicts, yes_forced, no_forced}
use Rattle.consequence.specs.Promises.{mask_theory, Concluded}
use Rattle.consequence.specs.Laws.Forcing.{model_contradicts}
use Rattle.consequence.specs.Laws.Masks.{to_theory, of_theory}
use Rattle.consequence.specs.declared.Forced.{Forced}
use Rattle.step.specs.Meaning.{Question, yes_goals, no_goals, goals, goal_literal, reasons_on, reasons_off, candidate_cost, Candidate, candidate}
use Rattle.step.specs.Meaning.{the_step, step, new_on, new_off, step_from, step_of}
use Rattle.step.specs.IsStep.{Upto}
use Rattle.step.specs.Promises.{goal_unit, cost_unit, set_room, goal_room, key_of, Small, mask_question, open_goals, Ready, ReadyWithGoal, Picks, GoalAndSet}
use Rattle.step.specs.Promises.{key_of_pair, LeastFound, Reasoned, Learnt, Asked, Chosen, step_at, answered, next_of}
use Rattle.step.specs.Laws.Order.{upto_key, Decoded, decode}
use Rattle.step.specs.Laws.Given.{model_fewer}
use Rattle.step.specs.Laws.Candidates.{Stepped}
use Rattle.step.specs.Laws.Goals.{goal_open, against_small}
use Rattle.step.specs.Laws.TheStep.{taken, step_left, step_open, asked_sound}
use Rattle.log_form.specs.declared.Step as log

-- The candidate that a key stands for is the step.
pub record IsKeyOfStep (q : Question) (best : ℕ) : Type 0 where
  pub picks : Picks q (best / goal_unit % goal_room) (best % set_room)
  pub taken : the_step q ≡ candidate q (best / goal_unit % goal_room) (best % set_room)
  pub costs : candidate_cost q (best / goal_unit % goal_room) (best % set_room) ≡ best / cost_unit

module _ {n : ℕ} {ys ns : List ℕ} {ch : ℕ} {table : List (List ℕ)} {c k : LiteralSet} where
  -- ---- what is asked

  pub asked_ready : Asked n ys ns ch table c k → Ready n ys ns table c k
  asked_ready a =
      record {
        posed = a.posed;
        few = a.few;
        rows = omega (arith, a.rows, within_le (union c.yes c.no) ch (record { keeps = both }));
        known_yes = a.known_yes;
        known_no = a.known_no;
        cheap = a.cheap;
      }
    where
      both : (v : ℕ) → bit (union c.yes c.no) v ≤ bit ch v
      both v = omega (arith, bit_union c.yes c.no v, a.yes_choices.keeps v, a.no_choices.keeps v)

  pub asked_goal : {g : ℕ} → Asked n ys ns ch table c k → g ≡ open_goals c k → (g ≡ 0 → ⊥) → ReadyWithGoal n ys ns table c k
  asked_goal a e left =
      let ne : open_goals c k ≡ 0 → ⊥ = λ d. left (e ∙ d) in
      record { ready = asked_ready a; forces = a.forces; goal_left = omega arith }

module _ {n : ℕ} {ys ns : List ℕ} {table : List (List ℕ)} {c k : LiteralSet} (ch : ℕ) (x : Ready n ys ns table c k) where
  pub picks_small : (v s : ℕ) → Picks (mask_question n ys ns ch table c k) v s → Small (candidate_cost (mask_question n ys ns ch table c k) v s) v s
  unfolding goals yes_goals no_goals
  picks_small v s p = against_small x ch v (goal_open x v p.goal) s p.known

  -- ---- the candidate that a key stands for

  pub found : {best : ℕ} → LeastFound n ys ns table c k best → Stepped (mask_question n ys ns ch table c k) Upto (the_step (mask_question n ys ns ch table c k))
      → IsKeyOfStep (mask_question n ys ns ch table c k) best
  unfolding candidate
  found {best} f t =
      record {
        picks = rw (z.goal_of, z.set_of) p;
        taken = t.listed.is ∙ ap₂ (candidate q) (sym z.goal_of) (sym z.set_of);
        costs = rw (z.goal_of, z.set_of) (sym z.cost_of_lem);
      }
    where
      q : Question
      q = mask_question n ys ns ch table c k

      d : Candidate
      d = the_step q

      least : (t : GoalAndSet) × Picks q t.goal t.set × (best ≡ key_of_pair q t)
      least = (f.cheapest ch).from

      p : Picks q d.goal d.reasons
      p = t.listed.picks

      is_cost_lem : d.cost ≡ candidate_cost q d.goal d.reasons
      is_cost_lem = ap (λ (b : Candidate). b.cost) t.listed.is

      small : Small d.cost d.goal d.reasons
      small = rw is_cost_lem (picks_small d.goal d.reasons p)

      same : best ≡ key_of (candidate_cost q d.goal d.reasons) d.goal d.reasons
      same =
          omega (
            arith,
            (f.cheapest ch).least (record { goal = d.goal; set = d.reasons }) p,
            least.2,
            is_cost_lem,
            upto_key d (candidate q least.0.goal least.0.set) small (picks_small least.0.goal least.0.set least.1)
                (t.first least.0.goal least.0.set least.1),
          )

      z : Decoded best (candidate_cost q d.goal d.reasons) d.goal d.reasons
      z = subst (λ (b : ℕ). Decoded b (candidate_cost q d.goal d.reasons) d.goal d.reasons) (sym same)
          (decode _ _ _ (picks_small d.goal d.reasons p))

-- ---- `learn`

-- a set within one that has a model has it too
pub reasoned_within : {n : ℕ} {ys ns : List ℕ} {ch : ℕ} {r s : LiteralSet} → Within s.yes r.yes → Within s.no r.no
    → Reasoned n ys ns ch r → Reasoned n ys ns ch s
reasoned_within {ch = ch} y m x =
    record {
      posed = posed_within x.posed y m;
      choices_below = x.choices_below;
      model = (x.model.0, of_theory ch (model_fewer y m x.model.0 (to_theory ch x.model.1)));
    }

module _ {n : ℕ} {ys ns : List ℕ} {ch : ℕ} {reasons k : LiteralSet} {o : Option Forced} where
  -- the reasons have a model
  pub learn_absurd : {r : LiteralSet} → Reasoned n ys ns ch reasons → Concluded n ys ns ch reasons.yes reasons.no o → o ≡ None
      → Learnt n ys ns ch reasons k r
  learn_absurd x s e =
      let no_model : contradicts (mask_theory n ys ns ch) reasons.yes reasons.no ≡ true =
      (subst (Concluded n ys ns ch reasons.yes reasons.no) e s).said in
      absurd (true≢false (sym no_model ∙ model_contradicts (mask_theory n ys ns ch) reasons.yes reasons.no x.model.0 (to_theory ch x.model.1)))

  pub learnt : {forced : Forced} {r : LiteralSet} → Concluded n ys ns ch reasons.yes reasons.no o → o ≡ Some forced
      → r ≡ set.diff forced.kept k → Learnt n ys ns ch reasons k r
  learnt s e p =
      let f = (subst (Concluded n ys ns ch reasons.yes reasons.no) e s).said.1 in
      record {
        yes_new = ap (λ (l : LiteralSet). l.yes) p ∙ ap (λ (m : ℕ). diff m k.yes) f.yes_forced;
        no_new = ap (λ (l : LiteralSet). l.no) p ∙ ap (λ (m : ℕ). diff m k.no) f.no_forced;
        forced = _;
        number = _;
        propagated = f;
      }

-- ---- the answers

module _ {n : ℕ} {ys ns : List ℕ} {ch : ℕ} {table : List (List ℕ)} {c k : LiteralSet} where
  pub answer_nothing : {g : ℕ} → Asked n ys ns ch table c k → g ≡ open_goals c k → g ≡ 0
      → None ≡ next_of (step_of (mask_question n ys ns ch table c k))
  unfolding goals yes_goals no_goals
  answer_nothing a e d = sym (ap next_of (step_left (mask_question n ys ns ch table c k) (sym e ∙ d)))

  -- the candidate that the least key stands for
  module _ {best : ℕ} (a : Asked n ys ns ch table c k) (f : LeastFound n ys ns table c k best) where
    some_goal : 0 < goals (mask_question n ys ns ch table c k)
    some_goal = pos_of_member (goals (mask_question n ys ns ch table c k)) _ (f.cheapest ch).from.1.goal

    picked : IsKeyOfStep (mask_question n ys ns ch table c k) best
    picked = found ch (asked_ready a) f (taken (mask_question n ys ns ch table c k) (asked_sound a) (λ z. omega (arith, z, some_goal)))

    pub answer_chosen : Chosen n ys ns ch k best
    answer_chosen =
        record {
          known = reasoned_within a.known_yes a.known_no
              (record { posed = a.posed; choices_below = a.choices_below; model = a.model });
          cheap = omega (arith, picked.costs, (picks_small ch (asked_ready a) _ _ picked.picks).cost_small);
        }

    pub answer_step : {r : log.Step} → r ≡ answered (step_at n ys ns ch c k best) → Some r ≡ next_of (step_of (mask_question n ys ns ch table c k))
    unfolding step_from candidate goal_literal reasons_on reasons_off new_on new_off yes_goals
    answer_step p = ap (λ (s : log.Step). Some s) p ∙ sym (ap next_of theirs)
      where
        q : Question
        q = mask_question n ys ns ch table c k

        same : candidate q (best / goal_unit % goal_room) (best % set_room)
            ≡ record { cost = best / cost_unit; goal = best / goal_unit % goal_room; reasons = best % set_room }
        same = λ i. record { cost = picked.costs i; goal = best / goal_unit % goal_room; reasons = best % set_room }

        theirs : step_of q ≡ step (step_at n ys ns ch c k best)
        theirs =
            step_open q (λ z. omega (arith, z, some_goal)) ∙ ap (λ (d : Candidate). step (step_from q d)) (picked.taken ∙ same)

-- ---- `step_of`

module _ {n : ℕ} {ys ns : List ℕ} {ch best : ℕ} {k : LiteralSet} (x : Chosen n ys ns ch k best) where
  -- any literals of K serve as reasons
  pub chosen_reasons : (s t : ℕ) {a b : ℕ} → a ≡ inter s k.yes → b ≡ inter t k.no → Reasoned n ys ns ch (record { yes = a; no = b })
  chosen_reasons s t p q = rw (p, q) (reasoned_within (inter_in s k.yes) (inter_in t k.no) x.known)

  pub chosen_step : (c : LiteralSet) {d new : LiteralSet} {a b : ℕ} {says : Bool} {l : Literal} → d ≡ set.diff c k
      → says ≡ has d.yes (best / goal_unit % goal_room) → l ≡ literal_of (best / goal_unit % goal_room) says → a ≡ inter (best % set_room) k.yes
      → b ≡ inter (best % set_room) k.no → Learnt n ys ns ch (record { yes = a; no = b }) k new
      → record { goal = l; reasons = record { yes = a; no = b }; new = new; cost = best / cost_unit } ≡ answered (step_at n ys ns ch c k best)
  unfolding step_from goal_literal reasons_on reasons_off new_on new_off yes_goals
  chosen_step c {d} {new} {a} {b} {says} {l} p q e s t w =
      λ i. record { goal = goal_is i; reasons = record { yes = s i; no = t i }; new = record { yes = yes_is i; no = no_is i }; cost = best / cost_unit }
    where
      goal_is : l ≡ literal_of (best / goal_unit % goal_room) (has (diff c.yes k.yes) (best / goal_unit % goal_room))
      goal_is = e ∙ ap (literal_of (best / goal_unit % goal_room)) (q ∙ ap (λ (m : LiteralSet). has m.yes (best / goal_unit % goal_room)) p)

      yes_is : new.yes ≡ diff (yes_forced (mask_theory n ys ns ch) (inter (best % set_room) k.yes) (inter (best % set_room) k.no)) k.yes
      yes_is = w.yes_new ∙ ap₂ (λ (u : ℕ) (v : ℕ). diff (yes_forced (mask_theory n ys ns ch) u v) k.yes) s t

      no_is : new.no ≡ diff (no_forced (mask_theory n ys ns ch) (inter (best % set_room) k.yes) (inter (best % set_room) k.no)) k.no
      no_is = w.no_new ∙ ap₂ (λ (u : ℕ) (v : ℕ). diff (no_forced (mask_theory n ys ns ch) u v) k.no) s t

pub ruleset learn_laws = (learn_absurd, learnt)

pub ruleset step_laws = (chosen_reasons, chosen_step)

pub ruleset answer_laws = (asked_goal, answer_nothing, answer_chosen, answer_step)
