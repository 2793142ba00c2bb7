-- One goal: its candidates are those of the question, with the same keys, and the search for it. Assumes nothing.
use Rattle.std.specs.Prelude.{◌≡◌, Bool, true, false, not, List, ℕ, ◌+◌, ◌*◌, ◌^◌, ◌≤◌, ◌<◌}
use Rattle.std.proofs.Math.Path.{refl, sym, ap, ap₂}
use Rattle.std.proofs.Common.{◌∙◌}
use Rattle.std.proofs.Math.Logic.{by_cases}
use Rattle.std.proofs.Math.Bool.{cond}
use Rattle.std.proofs.Math.Decide.{dec_lt}
use native.Mathlib.Omega.{arith}
use Rattle.std.proofs.lemmas.Nat.{ones-le}
use Rattle.std.proofs.Math.ListN.{get_or-eq_default}
use Rattle.sets.specs.Sets.{width, bit, has, union, inter, diff, insert, count, Within, Apart}
use Rattle.sets.specs.Laws.Bits.{bit_le, bit_zero, bit_high, bit_union, bit_diff, union_lt, member_lt, bit_inter}
use Rattle.sets.specs.Laws.Subset.{has_true, has_false, one_has, zero_has, within_refl, within_le}
use Rattle.items.specs.Weights.{total}
use Rattle.items.specs.Cheapest.{Least, InInterval, least_same}
use Rattle.items.specs.Promises.{weight_in}
use Rattle.items.specs.Laws.Sums.{sum_same, total_zero, total_all, total_width}
use Rattle.literals.specs.declared.LiteralSet.{LiteralSet}
use Rattle.literals.specs.Literal.{literal_of}
use Rattle.records.specs.Limits.{max_choices, max_cost}
use Rattle.sat.specs.Promises.{Posed}
use Rattle.sat.specs.Laws.Assigns.{posed_within}
use Rattle.problem.specs.Problem.{cost_of, literal_cost}
use Rattle.consequence.specs.Laws.Masks.{none_to_theory, none_of_theory}
use Rattle.witnesses.specs.Promises.{aim_on, aim_off, Refutes, key_at}
use Rattle.reasons.specs.Promises.{Sought, Exploring, Explored}
use Rattle.witnesses.specs.Laws.Questions.{aim_posed}
use Rattle.witnesses.specs.declared.Aim.{Aim}
use Rattle.step.specs.Meaning.{Question, set_cost, yes_goals, no_goals, goals, reasons_on, reasons_off, against_on, against_off, candidate_cost}
use Rattle.step.specs.Promises.{known_cost, fact_unit, cost_unit, item_weight, Weighed, sum_of, key_of, Small, mask_question, aim_at, whole, open_goals, Ready}
use Rattle.step.specs.Promises.{Picks, GoalAndSet, key_of_pair}
use Rattle.step.specs.Laws.Known.{cond_not, open_at, sign_of, open_unknown}
use Rattle.step.specs.Laws.Costs.{set_bound, weigh_set, reasons_cost, opposite_cost}

-- ---- a goal

-- The goal over variable v + 1, which says what it says there.
abbrev pub aim_of : List (List ℕ) → LiteralSet → LiteralSet → ℕ → Aim
aim_of table c k v = aim_at table k v (has (diff c.yes k.yes) v)

-- Its variable is not known, and is that of a row; it says yes or no.
pub record Open (n : ℕ) (c k : LiteralSet) (v : ℕ) : Type 0 where
  pub is_goal : bit (open_goals c k) v ≡ 1
  pub not_on : bit k.yes v ≡ 0
  pub not_off : bit k.no v ≡ 0
  pub below : v < n
  pub row : v < max_choices
  pub signed : has (diff c.no k.no) v ≡ not (has (diff c.yes k.yes) v)
  pub says : has c.yes v ≡ has (diff c.yes k.yes) v

module _ {n : ℕ} {ys ns : List ℕ} {table : List (List ℕ)} {c k : LiteralSet} (x : Ready n ys ns table c k) where
  pub goal_open : (v : ℕ) → bit (open_goals c k) v ≡ 1 → Open n c k v
  goal_open v e =
      record {
        is_goal = e;
        not_on = out.0;
        not_off = out.1;
        below = member_lt n (union c.yes c.no) v in_both (union_lt n c.yes c.no x.posed.on_below x.posed.off_below);
        row = member_lt max_choices (union c.yes c.no) v in_both x.rows;
        signed = sign_of c.yes c.no k.yes k.no v (x.posed.apart.avoids v) e;
        says = same (has (diff c.yes k.yes) v) refl;
      }
    where
      out : (bit k.yes v ≡ 0) × (bit k.no v ≡ 0)
      out = open_unknown v x.known_yes x.known_no x.posed.apart e

      unknown : bit (diff c.yes k.yes) v ≡ bit c.yes v
      unknown = omega (arith, bit_diff c.yes k.yes v, out.0)

      same : (b : Bool) → has (diff c.yes k.yes) v ≡ b → has c.yes v ≡ b
      same true p = one_has c.yes v (sym unknown ∙ has_true (diff c.yes k.yes) v p)
      same false p = zero_has c.yes v (sym unknown ∙ has_false (diff c.yes k.yes) v p)

      in_both : bit (union c.yes c.no) v ≡ 1
      in_both = omega (arith, open_at c.yes c.no k.yes k.no v, bit_union c.yes c.no v, bit_le c.yes v, bit_le c.no v)

  pub known_posed : Posed n ys ns k.yes k.no
  known_posed = posed_within x.posed x.known_yes x.known_no

  pub known_apart : Apart k.yes k.no
  known_apart = known_posed.apart

  -- a known variable is that of a row
  known_rows : union k.yes k.no < 2 ^ max_choices
  known_rows =
      omega (arith, x.rows, within_le (union k.yes k.no) (union c.yes c.no) (record { keeps = in_both }))
    where
      in_both : (v : ℕ) → bit (union k.yes k.no) v ≤ bit (union c.yes c.no) v
      in_both v = omega (arith, bit_union k.yes k.no v, bit_union c.yes c.no v, x.known_yes.keeps v, x.known_no.keeps v)

  known_below : union k.yes k.no < 2 ^ n
  known_below = union_lt n k.yes k.no known_posed.on_below known_posed.off_below

  -- ---- weights

  -- a variable that is not known weighs nothing
  no_weight : (v : ℕ) → bit (union k.yes k.no) v ≡ 0 → item_weight table k.yes k.no v ≡ 0
  unfolding item_weight known_cost
  no_weight v none =
      let on : bit k.yes v ≡ 0 = omega (arith, bit_union k.yes k.no v) in
      let off : bit k.no v ≡ 0 = omega (arith, bit_union k.yes k.no v) in
      omega (
        arith,
        ap (λ (d : ℕ). d * cost_of table v 0) on,
        ap (λ (d : ℕ). d * cost_of table v 1) off,
        ap (λ (d : ℕ). d * (fact_unit + 2 ^ v)) none,
      )

  module _ {ws : List ℕ} (w : Weighed table k.yes k.no ws) where
    all_weighed : (v : ℕ) → weight_in ws v ≡ item_weight table k.yes k.no v
    all_weighed v =
        by_cases (dec_lt v max_choices) (λ h. w.weighs v h)
        (λ h.
        get_or-eq_default ws 0 {n = v} (omega (arith, w.rows))
        ∙ sym (no_weight v (bit_high max_choices (union k.yes k.no) v known_rows (omega arith))))

    -- what a set of known literals weighs: its cost, how many they are, and itself
    known_weighs : (s : ℕ) → Within s (union k.yes k.no)
        → total (weight_in ws) max_choices s ≡ total (known_cost table k.yes k.no) n s * cost_unit + count s * fact_unit + s
    unfolding total
    known_weighs s h =
        let row : s < 2 ^ max_choices = omega (arith, within_le s (union k.yes k.no) h, known_rows) in
        let below : s < 2 ^ n = omega (arith, within_le s (union k.yes k.no) h, known_below) in
        sum_same max_choices _ _ (λ v i. ap (λ (x : ℕ). bit s v * x) (all_weighed v))
        ∙ weigh_set table k.yes k.no max_choices s h row
        ∙ ap (λ (x : ℕ). x * cost_unit + count s * fact_unit + s) (total_width (known_cost table k.yes k.no) max_choices n s row below)

    pub known_total : sum_of ws ≡ total (weight_in ws) max_choices (union k.yes k.no)
    known_total =
        total_all (weight_in ws) max_choices max_choices (union k.yes k.no) (λ v e. all_weighed v ∙ no_weight v e) known_rows known_rows

  -- ---- its candidates are those of the question, with the same keys

  module _ (ch v : ℕ) (o : Open n c k v) (s : ℕ) where
    aim_on_lem : aim_on (aim_of table c k v) s ≡ against_on (mask_question n ys ns ch table c k) s v
    unfolding aim_on against_on reasons_on no_goals
    aim_on_lem =
        sym (cond_not (has (diff c.yes k.yes) v) (insert (inter s k.yes) v) (inter s k.yes))
        ∙ ap (λ (b : Bool). cond b (insert (inter s k.yes) v) (inter s k.yes)) (sym o.signed)

    aim_off_lem : aim_off (aim_of table c k v) s ≡ against_off (mask_question n ys ns ch table c k) s v
    unfolding aim_off against_off reasons_off yes_goals
    aim_off_lem = refl

    pub against_posed : Posed n ys ns (against_on (mask_question n ys ns ch table c k) s v) (against_off (mask_question n ys ns ch table c k) s v)
    against_posed =
        rw (← aim_on_lem, ← aim_off_lem)
        (aim_posed (aim_of table c k v) s known_posed o.below o.not_on o.not_off)

    -- a key has room for it
    pub against_small : Within s (union k.yes k.no) → Small (candidate_cost (mask_question n ys ns ch table c k) v s) v s
    unfolding candidate_cost
    against_small w =
        record {
          cost_small = omega (arith, set_bound table n max_cost _ _ x.cheap against_posed.apart, x.few);
          goal_small = omega (arith, o.row);
          set_small = omega (arith, within_le s (union k.yes k.no) w, known_rows);
        }

    aim_cost : literal_cost table (literal_of v (not (has (diff c.yes k.yes) v))) + total (known_cost table k.yes k.no) n s
        ≡ candidate_cost (mask_question n ys ns ch table c k) v s
    unfolding candidate_cost aim_on aim_off
    aim_cost =
        let none : (m : ℕ) → bit m v ≡ 0 → bit (inter s m) v ≡ 0 = λ m e. omega (arith, bit_inter s m v) in
        ap (λ (d : ℕ). literal_cost table (literal_of v (not (has (diff c.yes k.yes) v))) + d) (sym (reasons_cost table n k.yes k.no s))
        ∙ sym (opposite_cost table n (inter s k.yes) (inter s k.no) v o.below (none k.yes o.not_on) (none k.no o.not_off)
        (has (diff c.yes k.yes) v))
        ∙ ap₂ (λ (a : ℕ) (b : ℕ). set_cost table n a b) aim_on_lem aim_off_lem

    pub aim_key : {ws : List ℕ} → Weighed table k.yes k.no ws → Within s (union k.yes k.no)
        → key_at ws (aim_of table c k v) s ≡ key_of (candidate_cost (mask_question n ys ns ch table c k) v s) v s
    aim_key w h = omega (arith, known_weighs w s h, aim_cost)

  -- ---- the search for the goal over variable v + 1

  module _ {ws : List ℕ} (w : Weighed table k.yes k.no ws) (v : ℕ) (o : Open n c k v) where
    -- the key of all that is known fits
    pub known_fits : key_at ws (aim_of table c k v) (union k.yes k.no) < 2 ^ width
    known_fits =
        let all : ℕ = union k.yes k.no in
        let small = against_small 0 v o all (within_refl all) in
        omega (arith, aim_key 0 v o all w (within_refl all), small.cost_small, ones-le max_choices all small.set_small, small.goal_small, small.set_small)

    goal_sought : Sought n ys ns ws (aim_of table c k v)
    goal_sought =
        record {
          aimed = record {
            posed = known_posed;
            goal_below = o.below;
            goal_row = o.row;
            not_on = o.not_on;
            not_off = o.not_off;
          };
          rows = w.rows;
          weighed = known_rows;
          cheap = known_fits;
        }

    pub goal_exploring : {says : Bool} → says ≡ has c.yes v → Exploring n ys ns ws (aim_at table k v says) (whole (aim_at table k v says))
    goal_exploring e =
        rw (e, o.says)
        (record {
          sought = goal_sought;
          nested = record { keeps = λ u. omega (arith, bit_zero u) };
          known = within_refl (union k.yes k.no);
          keyed = omega (arith, total_zero (weight_in ws) max_choices);
        })

-- The candidates of one goal.
pub record Mine (q : Question) (v : ℕ) (t : GoalAndSet) : Type 0 where
  pub same : t.goal ≡ v
  pub picks : Picks q v t.set

module _ {n : ℕ} {ys ns : List ℕ} {table : List (List ℕ)} {c k : LiteralSet} (x : Ready n ys ns table c k) {ws : List ℕ}
    (w : Weighed table k.yes k.no ws) (v : ℕ) (o : Open n c k v) where
  pub goal_found : {best : ℕ} {us : List ℕ} {r : ℕ} → (ch : ℕ)
      → Explored n ys ns ws (aim_of table c k v) (whole (aim_of table c k v)) best us r
      → Least (Mine (mask_question n ys ns ch table c k) v) (key_of_pair (mask_question n ys ns ch table c k)) best r
  unfolding goals yes_goals no_goals
  goal_found ch e = least_same back forth e.cheapest
    where
      q : Question
      q = mask_question n ys ns ch table c k

      aim : Aim
      aim = aim_of table c k v

      back : (t : GoalAndSet) → Mine q v t → (s : ℕ) × InInterval (Refutes n ys ns aim) 0 (union k.yes k.no) s × (key_at ws aim s ≡ key_of_pair q t)
      back t m = (
        t.set,
        record {
          above = record { keeps = λ u. omega (arith, bit_zero u) };
          below = m.picks.known;
          holds = rw (aim_on_lem x ch v o t.set, aim_off_lem x ch v o t.set) (none_of_theory ch m.picks.refuted);
        },
        aim_key x ch v o t.set w m.picks.known
            ∙ ap (λ (g : ℕ). key_of (candidate_cost q g t.set) g t.set) (sym m.same),
      )

      forth : (s : ℕ) → InInterval (Refutes n ys ns aim) 0 (union k.yes k.no) s → (t : GoalAndSet) × Mine q v t × (key_of_pair q t ≡ key_at ws aim s)
      forth s b = (
        record { goal = v; set = s },
        record {
          same = refl;
          picks = record {
            goal = o.is_goal;
            known = b.below;
            refuted = rw (← aim_on_lem x ch v o s, ← aim_off_lem x ch v o s) (none_to_theory ch b.holds);
          };
        },
        sym (aim_key x ch v o s w b.below),
      )
