-- What is known: a set of it as two masks and by its variables, and that all of it with the opposite of a goal contradicts the rules, so that it is
-- a candidate for each goal. Assumes nothing.
use Rattle.std.specs.Prelude.{◌≡◌, Bool, ℕ, ◌+◌, ◌-◌, ◌≤◌, max}
use Rattle.std.proofs.Math.Path.{refl, ap}
use Rattle.std.proofs.Common.{sym, ◌∙◌}
use Rattle.std.proofs.Math.Bool.{true, false, not, cond}
use native.Mathlib.Omega.{arith}
use borrow.Author.Tests.{not-true}
use Rattle.sets.specs.Sets.{bit, has, union, inter, diff, insert, Within, Apart}
use Rattle.sets.specs.Laws.Bits.{bit_le, bit_union, bit_diff, bit_inter, ext}
use Rattle.sets.specs.Laws.Subset.{one_has, zero_has, has_true, has_false, within_refl, apart_symm, apart_within}
use Rattle.consequence.specs.Meaning.{ModelOf, NoModelOf}
use Rattle.consequence.specs.Laws.Masks.{assigned_theory}
use Rattle.witnesses.specs.Laws.Questions.{opposite}
use Rattle.step.specs.Meaning.{Question, yes_goals, no_goals, goals, reasons_on, reasons_off, against_on, against_off, candidate_cost}
use Rattle.step.specs.IsStep.{opposite_on, opposite_off, Goal, Candidature, placed}
use Rattle.step.specs.Promises.{Picks}

-- a test the other way round
pub cond_not : {A : Type 0} (a : Bool) (x y : A) → cond (not a) x y ≡ cond a y x
cond_not true x y = refl
cond_not false x y = refl

-- what is wanted and not known, by its digits
pub open_at : (on off a b v : ℕ) → bit (union (diff on a) (diff off b)) v ≡ max (bit on v - bit a v) (bit off v - bit b v)
open_at on off a b v = omega (arith, bit_union (diff on a) (diff off b) v, bit_diff on a v, bit_diff off b v)

-- where the consequence says yes or no, a goal does
pub sign_of : (on off a b v : ℕ) → bit on v + bit off v ≤ 1 → bit (union (diff on a) (diff off b)) v ≡ 1 → has (diff off b) v ≡ not (has (diff on a) v)
sign_of on off a b v h e = go (has (diff on a) v) refl
  where
    go : (s : Bool) → has (diff on a) v ≡ s → has (diff off b) v ≡ not s
    go true p = zero_has (diff off b) v (omega (arith, has_true (diff on a) v p, bit_diff on a v, bit_diff off b v))
    go false p =
        one_has (diff off b) v
        (omega (arith, e, has_false (diff on a) v p, bit_union (diff on a) (diff off b) v, bit_le (diff off b) v))

-- its variable is not known
pub open_unknown : {on off a b : ℕ} (v : ℕ) → Within a on → Within b off → Apart on off → bit (union (diff on a) (diff off b)) v ≡ 1
    → (bit a v ≡ 0) × (bit b v ≡ 0)
open_unknown {on} {off} {a} {b} v x y p e =
    let d = open_at on off a b v in
    (omega (arith, x.keeps v, y.keeps v, p.avoids v), omega (arith, x.keeps v, y.keeps v, p.avoids v))

-- of a set in two parts, what lies in one of two sets that are apart
part_of : (s a b k l : ℕ) → ((v : ℕ) → bit s v ≡ max (bit a v) (bit b v)) → Within a k → Within b l → Apart k l → inter s k ≡ a
part_of s a b k l both x y p =
    ext _ _ (λ v. omega (arith, bit_inter s k v, both v, x.keeps v, y.keeps v, p.avoids v, bit_le a v, bit_le b v))

module _ (q : Question) where
  -- a goal is a literal of the consequence that is not known
  pub goals_at : (v : ℕ) → bit (goals q) v ≡ max (bit q.con_on v - bit q.known_on v) (bit q.con_off v - bit q.known_off v)
  unfolding goals yes_goals no_goals
  goals_at v = open_at q.con_on q.con_off q.known_on q.known_off v

-- K lies within the consequence, which does not say both of a variable, and every filling that obeys the rules and makes K true makes it true.
pub record Forcing (q : Question) : Type 0 where
  pub known_on : Within q.known_on q.con_on
  pub known_off : Within q.known_off q.con_off
  pub apart : Apart q.con_on q.con_off
  pub forces : (f : ℕ) → ModelOf q.theory q.known_on q.known_off f → ModelOf q.theory q.con_on q.con_off f

module _ (q : Question) (z : Forcing q) where
  pub known_apart : Apart q.known_on q.known_off
  known_apart = apart_within z.known_on z.known_off z.apart

  pub signed : (v : ℕ) → bit (goals q) v ≡ 1 → has (no_goals q) v ≡ not (has (yes_goals q) v)
  unfolding goals yes_goals no_goals
  signed v e = sign_of q.con_on q.con_off q.known_on q.known_off v (z.apart.avoids v) e

  -- a goal says what the consequence says
  pub goal_is : (v : ℕ) (b : Bool) → Goal q v b → (bit (goals q) v ≡ 1) × (has (yes_goals q) v ≡ b)
  unfolding goals
  goal_is v true g = (omega (arith, g, bit_union (yes_goals q) (no_goals q) v, bit_le (no_goals q) v), one_has (yes_goals q) v g)
  goal_is v false g =
      let e : bit (goals q) v ≡ 1 = omega (arith, g, bit_union (yes_goals q) (no_goals q) v, bit_le (yes_goals q) v) in
      (e, not-true (has (yes_goals q) v) (sym (signed v e) ∙ one_has (no_goals q) v g))

  pub is_goal_lem : (v : ℕ) → bit (goals q) v ≡ 1 → (b : Bool) → has (yes_goals q) v ≡ b → Goal q v b
  unfolding goals
  is_goal_lem v e true p = has_true (yes_goals q) v p
  is_goal_lem v e false p = omega (arith, e, has_false (yes_goals q) v p, bit_union (yes_goals q) (no_goals q) v, bit_le (no_goals q) v)

  -- the masks of a set with the opposite of a goal
  pub against_on_lem : (s v : ℕ) (b : Bool) → Goal q v b → against_on q s v ≡ opposite_on b (reasons_on q s) v
  unfolding against_on
  against_on_lem s v b g =
      let w = goal_is v b g in
      ap (λ (x : Bool). cond x (insert (reasons_on q s) v) (reasons_on q s)) (signed v w.0 ∙ ap not w.1) ∙ cond_not b _ _

  pub against_off_lem : (s v : ℕ) (b : Bool) → Goal q v b → against_off q s v ≡ opposite_off b (reasons_off q s) v
  unfolding against_off
  against_off_lem s v b g = ap (λ (x : Bool). cond x (insert (reasons_off q s) v) (reasons_off q s)) (goal_is v b g).1

  -- the variables of a set of known literals stand for it
  pub union_on : (a b : ℕ) → Within a q.known_on → Within b q.known_off → reasons_on q (union a b) ≡ a
  unfolding reasons_on
  union_on a b x y = part_of (union a b) a b _ _ (bit_union a b) x y known_apart

  pub union_off : (a b : ℕ) → Within a q.known_on → Within b q.known_off → reasons_off q (union a b) ≡ b
  unfolding reasons_off
  union_off a b x y = part_of (union a b) b a _ _ (λ v. omega (arith, bit_union a b v)) y x (apart_symm _ _ known_apart)

  pub reasons_union : (s : ℕ) → Within s (union q.known_on q.known_off) → union (reasons_on q s) (reasons_off q s) ≡ s
  unfolding reasons_on reasons_off
  reasons_union s w =
      ext _ _ (λ v.
      omega (
        arith,
        bit_union (inter s q.known_on) (inter s q.known_off) v,
        bit_inter s q.known_on v,
        bit_inter s q.known_off v,
        w.keeps v,
        bit_union q.known_on q.known_off v,
        bit_le s v,
      ))

  -- every candidate is one of the list
  module _ (on off v : ℕ) (b : Bool) (k : Candidature q on off v b) where
    pub candidature_picks : Picks q v (union on off)
    candidature_picks =
        record {
          goal = (goal_is v b k.goal).0;
          known = record {
            keeps = λ u. omega (arith, bit_union on off u, bit_union q.known_on q.known_off u, k.on_known.keeps u, k.off_known.keeps u);
          };
          refuted = rw (
            against_on_lem (union on off) v b k.goal,
            against_off_lem (union on off) v b k.goal,
            union_on on off k.on_known k.off_known,
            union_off on off k.on_known k.off_known,
          ) k.contradicts;
        }

    pub candidature_cost : candidate_cost q v (union on off) ≡ (placed q on off v b).cost
    unfolding candidate_cost
    candidature_cost =
        rw (
          against_on_lem (union on off) v b k.goal,
          against_off_lem (union on off) v b k.goal,
          union_on on off k.on_known k.off_known,
          union_off on off k.on_known k.off_known,
        ) refl

-- ---- all that is known

-- K with the opposite of a goal contradicts the rules: a model of K makes the goal true
pub known_contradicts : (q : Question) → ((f : ℕ) → ModelOf q.theory q.known_on q.known_off f → ModelOf q.theory q.con_on q.con_off f)
    → (v : ℕ) (says : Bool) → Goal q v says → NoModelOf q.theory (opposite_on says q.known_on v) (opposite_off says q.known_off v)
unfolding yes_goals no_goals
known_contradicts q forces v says g = record { none = clash says g }
  where
    clash : (b : Bool) → Goal q v b → (f : ℕ) → ModelOf q.theory (opposite_on b q.known_on v) (opposite_off b q.known_off v) f → ⊥
    clash true g f m =
        let w = assigned_theory (opposite true q.known_on q.known_off v) m in
        omega (arith, w.1, g, bit_diff q.con_on q.known_on v, (forces f w.0).keeps.keeps v)
    clash false g f m =
        let w = assigned_theory (opposite false q.known_on q.known_off v) m in
        omega (arith, w.1, g, bit_diff q.con_off q.known_off v, (forces f w.0).avoids.avoids v)

module _ (q : Question) (z : Forcing q) where
  -- so it is a candidate
  all_known_lem : (v : ℕ) (b : Bool) → Goal q v b → Candidature q q.known_on q.known_off v b
  all_known_lem v b g =
      record {
        on_known = within_refl q.known_on;
        off_known = within_refl q.known_off;
        goal = g;
        contradicts = known_contradicts q z.forces v b g;
      }

  pub all_picked : (v : ℕ) → bit (goals q) v ≡ 1 → Picks q v (union q.known_on q.known_off)
  all_picked v e =
      candidature_picks q z q.known_on q.known_off v (has (yes_goals q) v) (all_known_lem v _ (is_goal_lem q z v e (has (yes_goals q) v) refl))
