-- The search over all goals: a law for each step of the code, and the bound that it starts with. Assumes nothing.
use Rattle.std.specs.Prelude.{◌≡◌, refl, ◌⊎◌, Bool, List, [], ℕ, ◌+◌, ◌^◌, ◌<◌}
use Rattle.std.proofs.Common.{sym, subst, ◌∙◌, inl, inr, arith}
use Rattle.std.proofs.Math.Path.{ap}
use Rattle.std.proofs.Math.Logic.{by_cases}
use Rattle.std.proofs.Math.Decide.{ℕ_discrete}
use Rattle.sets.specs.Sets.{width, bit, has, union, remove, Apart, Lowest}
use Rattle.sets.specs.Laws.Bits.{bit_le, bit_zero, bit_remove_same, bit_remove_other}
use Rattle.sets.specs.Laws.Subset.{within_refl, within_trans}
use Rattle.items.specs.Cheapest.{least_minimum, least_none, least_both, least_same, remove_within}
use Rattle.items.specs.Witnesses.{pool_empty}
use Rattle.literals.specs.declared.LiteralSet.{LiteralSet}
use Rattle.records.specs.Limits.{max_choices}
use Rattle.consequence.specs.Laws.Masks.{to_theory, of_theory}
use Rattle.witnesses.specs.Promises.{key_at, Pooled}
use Rattle.reasons.specs.Promises.{Exploring, Explored}
use Rattle.witnesses.specs.declared.Aim.{Aim}
use Rattle.witnesses.specs.declared.Part.{Part}
use Rattle.step.specs.Meaning.{yes_goals, no_goals, goals}
use Rattle.step.specs.Promises.{Weighed, sum_of, mask_question, aim_at, whole, open_goals, Ready, ReadyWithGoal, Picks, GoalAndSet, LeastUnder}
use Rattle.step.specs.Promises.{LeastFound, Trying, Searching}
use Rattle.step.specs.Laws.Known.{Forcing, all_picked}
use Rattle.step.specs.Laws.Goals.{Open, aim_of, goal_open, known_apart, known_total, aim_key, known_fits, goal_exploring, goal_found, Mine}

module _ {n : ℕ} {ys ns : List ℕ} {table : List (List ℕ)} {c k : LiteralSet} {bound : ℕ} where
  pub searching_start : {left : ℕ} {ms : List ℕ} → left ≡ open_goals c k → ms ≡ [] → Searching n ys ns table c k bound left ms bound
  unfolding goals yes_goals no_goals
  searching_start {left} e z =
      record {
        untried = rw e (within_refl (open_goals c k));
        cheapest = λ ch. least_none (λ t h. omega (arith, h.tried, h.picks.goal, ap (λ (m : ℕ). bit m t.goal) e));
        pooled = rw z pool_empty;
      }

  pub searching_done : {left : ℕ} {ms : List ℕ} {best : ℕ} → Searching n ys ns table c k bound left ms best → left ≡ 0
      → LeastUnder n ys ns table c k bound best
  searching_done {left} s e =
      record {
        cheapest = λ ch.
            least_same (λ t h. (t, record { picks = h; tried = ap (λ (m : ℕ). bit m t.goal) e ∙ bit_zero t.goal }, refl))
            (λ t h. (t, h.picks, refl)) (s.cheapest ch);
      }

  pub searching_pooled : {left : ℕ} {ms : List ℕ} {best : ℕ} → Searching n ys ns table c k bound left ms best → Pooled n ys ns ms
  searching_pooled s = s.pooled

  module _ (x : Ready n ys ns table c k) {left v : ℕ} {ms : List ℕ} {best : ℕ} (s : Searching n ys ns table c k bound left ms best)
      (l : Lowest left v) where
    pub searching_open : Open n c k v
    searching_open =
        goal_open x v (omega (arith, l.least.member, s.untried.keeps v, bit_le (open_goals c k) v))

    pub searching_row : v < max_choices
    searching_row = searching_open.row

    module _ {ws : List ℕ} {says : Bool} {aim : Aim} {part : Part} (w : Weighed table k.yes k.no ws) (q : says ≡ has c.yes v)
        (a : aim ≡ aim_at table k v says) (b : part ≡ whole aim) where
      pub searching_explore : Exploring n ys ns ws aim part
      searching_explore = rw (b, a) (goal_exploring x w v searching_open q)

      -- one goal more is tried
      pub searching_more : {r : ℕ} {us : List ℕ} {rest : ℕ} → Explored n ys ns ws aim part best us r → rest ≡ remove left v
          → Searching n ys ns table c k bound rest us r
      searching_more {r} {us} {rest} e d =
          rw d
          (record {
            untried = within_trans (remove left v) left (open_goals c k) (remove_within left v) s.untried;
            cheapest = λ ch. least_both (split ch) (fewer ch) (mine ch) (s.cheapest ch) (goal_found x w v searching_open ch here);
            pooled = e.pooled;
          })
        where
          here : Explored n ys ns ws (aim_of table c k v) (whole (aim_of table c k v)) best us r
          here = rw (b, a, q, searching_open.says) at e

          split : (ch : ℕ) (t : GoalAndSet) → Trying (mask_question n ys ns ch table c k) (remove left v) t
              → Trying (mask_question n ys ns ch table c k) left t ⊎ Mine (mask_question n ys ns ch table c k) v t
          split ch t h =
              by_cases (ℕ_discrete t.goal v)
              (λ g. inr (record { same = g; picks = subst (λ (u : ℕ). Picks (mask_question n ys ns ch table c k) u t.set) g h.picks }))
              (λ g. inl (record { picks = h.picks; tried = sym (bit_remove_other left v t.goal g) ∙ h.tried }))

          fewer : (ch : ℕ) (t : GoalAndSet) → Trying (mask_question n ys ns ch table c k) left t
              → Trying (mask_question n ys ns ch table c k) (remove left v) t
          fewer ch t h = record { picks = h.picks; tried = omega (arith, h.tried, (remove_within left v).keeps t.goal) }

          mine : (ch : ℕ) (t : GoalAndSet) → Mine (mask_question n ys ns ch table c k) v t → Trying (mask_question n ys ns ch table c k) (remove left v) t
          mine ch t h =
              record {
                picks = subst (λ (u : ℕ). Picks (mask_question n ys ns ch table c k) u t.set) (sym h.same) h.picks;
                tried = ap (bit (remove left v)) h.same ∙ bit_remove_same left v;
              }

pub ruleset searching_laws = (searching_start, searching_pooled, searching_row, searching_explore, searching_more, searching_done)

-- ---- the bound: all that is known with the lowest goal

module _ {n : ℕ} {ys ns : List ℕ} {table : List (List ℕ)} {c k : LiteralSet} (x : ReadyWithGoal n ys ns table c k) where
  -- K forces the consequence, whatever the choices are
  forcing : (ch : ℕ) → Forcing (mask_question n ys ns ch table c k)
  forcing ch =
      record {
        known_on = x.ready.known_yes;
        known_off = x.ready.known_no;
        apart = x.ready.posed.apart;
        forces = λ f m. to_theory ch (x.forces f (of_theory ch m));
      }

  pub bound_apart : Apart k.yes k.no
  bound_apart = known_apart x.ready

  pub bound_some : {goals : ℕ} → goals ≡ open_goals c k → 0 < goals
  bound_some e = rw e x.goal_left

  module _ {goals v : ℕ} (e : goals ≡ open_goals c k) (l : Lowest goals v) where
    lowest_open : Open n c k v
    lowest_open = goal_open x.ready v (rw e at l.least.member)

    pub bound_row : v < max_choices
    bound_row = lowest_open.row

    module _ {ws : List ℕ} {says : Bool} {aim : Aim} (w : Weighed table k.yes k.no ws) (s : says ≡ has c.yes v)
        (a : aim ≡ aim_at table k v says) where
      bound_key : aim.key + sum_of ws ≡ key_at ws (aim_of table c k v) (union k.yes k.no)
      bound_key = rw (a, s, lowest_open.says, known_total x.ready w) refl

      pub bound_small : aim.key + sum_of ws < 2 ^ width
      bound_small = omega (arith, bound_key, known_fits x.ready w v lowest_open)

      -- the least under it is the least of all
      pub bound_least : {bound r : ℕ} → bound ≡ aim.key + sum_of ws → LeastUnder n ys ns table c k bound r → LeastFound n ys ns table c k r
      unfolding goals yes_goals no_goals
      bound_least {bound} b f =
          record {
            cheapest = λ ch.
                least_minimum (f.cheapest ch) (record { goal = v; set = union k.yes k.no })
                (all_picked (mask_question n ys ns ch table c k) (forcing ch) v lowest_open.is_goal)
                (b ∙ bound_key ∙ aim_key x.ready ch v lowest_open (union k.yes k.no) w (within_refl (union k.yes k.no)));
          }

pub ruleset bound_laws = (bound_apart, bound_some, bound_row, bound_small, bound_least)
