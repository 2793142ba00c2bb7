-- What lists of literals cost, and what the masks of their sets do. Assumes nothing.
use Rattle.std.specs.Prelude.{◌≡◌, refl, Bool, not, cond, ℕ, suc, ◌+◌, ◌^◌, ◌≤◌, ◌<◌, neg_ℤ}
use Rattle.std.proofs.Common.{sym, ◌∙◌, ⊎_elim}
use Rattle.std.proofs.Math.Path.{ap, ap₂}
use Rattle.std.proofs.Math.Logic.{by_cases}
use Rattle.std.proofs.Math.Bool.{true, false, not-not}
use mathlib.Core.List.Memᴰ
use mathlib.Core.List.{List, [], ◌∷◌, map, Memᴰ}
use Rattle.std.proofs.Math.Decide.{ℕ_discrete}
use native.Mathlib.Omega.{arith}
use Rattle.sets.specs.Sets.{bit, has, single, union, insert, members, RisingFrom, Apart}
use Rattle.sets.specs.Laws.Bits.{bit_zero, bit_le, bit_union, member_lt, ext, union_lt}
use Rattle.items.specs.Laws.Sums.{total_zero}
use Rattle.literals.specs.Literal.{Literal, variable, literals_of, literal_of}
use Rattle.literals.specs.Truth.{yes_bit, no_bit, yes_mask, no_mask}
use Rattle.problem.specs.Problem.{Problem, cost_of, literal_cost}
use Rattle.step.specs.Meaning.{set_cost}
use Rattle.step.specs.IsStep.{opposite_on, opposite_off}
use Rattle.step.specs.Laws.Costs.{cost_parts_lem, opposite_cost, opposite_most}
use Rattle.log_form.specs.Laws.Lists.{each_literal, variable_signed, opposite_literal, members_in, signed, rising_members}
use Rattle.log_form.specs.Laws.Masks.{mask_in, masks_back}
use Rattle.log_writer.specs.Demand3.{In, cost_of_set}

module _ (p : Problem) where
  -- the cost of a set of its variables
  abbrev cost_by : ℕ → ℕ → ℕ
  cost_by on off = set_cost p.costs p.variables on off

  none_cost : cost_by 0 0 ≡ 0
  none_cost = omega (
    arith,
    cost_parts_lem p.costs p.variables 0 0,
    total_zero (λ v. cost_of p.costs v 0) p.variables,
    total_zero (λ v. cost_of p.costs v 1) p.variables,
  )

  -- ---- one literal more

  -- its bits put into the masks: they are those of the set with the opposite of its opposite
  put_in : (m v : ℕ) → union (single v) m ≡ insert m v
  unfolding insert
  put_in m v = ext (union (single v) m) (union m (single v)) (λ u. omega (arith, bit_union m (single v) u, bit_union (single v) m u))

  put_none : (m : ℕ) → union 0 m ≡ m
  put_none m = ext (union 0 m) m (λ u. omega (arith, bit_union 0 m u, bit_zero u))

  more_masks : (v : ℕ) (says : Bool) (ls : List Literal)
      → cost_by (yes_mask (literal_of v says ∷ ls)) (no_mask (literal_of v says ∷ ls))
      ≡ cost_by (opposite_on (not says) (yes_mask ls) v) (opposite_off (not says) (no_mask ls) v)
  unfolding yes_mask no_mask yes_bit no_bit
  more_masks v true ls = ap₂ (λ (a : ℕ) (b : ℕ). cost_by a b) (put_in (yes_mask ls) v) (put_none (no_mask ls))
  more_masks v false ls = ap₂ (λ (a : ℕ) (b : ℕ). cost_by a b) (put_none (yes_mask ls)) (put_in (no_mask ls) v)

  twice : (v : ℕ) (says : Bool) → literal_cost p.costs (literal_of v (not (not says))) ≡ literal_cost p.costs (literal_of v says)
  twice v says = ap (λ (b : Bool). literal_cost p.costs (literal_of v b)) (not-not says)

  -- ---- the cost of a list over variables

  -- Each literal is over a variable.
  abbrev pub OverVariables : List Literal → Type 0
  OverVariables ls = (l : Literal) → In l ls → (0 < variable l) × (variable l ≤ p.variables)

  more_cost : (ls : List Literal) → cost_by (yes_mask ls) (no_mask ls) ≤ cost_of_set p ls → (l : Literal) → 0 < variable l → variable l ≤ p.variables
      → cost_by (yes_mask (l ∷ ls)) (no_mask (l ∷ ls)) ≤ cost_of_set p (l ∷ ls)
  unfolding cost_of_set variable
  more_cost ls ih =
      each_literal _ (λ h k. absurd (omega arith))
      (λ v says h k.
      omega (
        arith,
        more_masks v says ls,
        opposite_most p.costs p.variables (yes_mask ls) (no_mask ls) v (omega (arith, variable_signed v says)) (not says),
        twice v says,
      ))

  mask_cost : (ls : List Literal) → OverVariables ls → cost_by (yes_mask ls) (no_mask ls) ≤ cost_of_set p ls
  unfolding yes_mask no_mask cost_of_set
  mask_cost [] c = omega (arith, none_cost)
  mask_cost (l ∷ ls) c =
      let at = c l (Memᴰ.head refl) in
      more_cost ls (mask_cost ls (λ x m. c x (Memᴰ.tail m))) l at.0 at.1

  -- ---- the cost of a list that rises

  -- no element is below the first
  rising_mem : (last : ℕ) (xs : List ℕ) (v : ℕ) → RisingFrom last xs → Memᴰ v xs → last ≤ v
  rising_mem last [] v r m = absurd (Memᴰ.not-nil m)
  rising_mem last (x ∷ xs) v r m =
      ⊎_elim (λ e. omega (arith, r.0)) (λ k. omega (arith, r.0, rising_mem (suc x) xs v r.1 k)) (Memᴰ.cases_cons m)

  low : (g : ℕ → Bool) (last : ℕ) (xs : List ℕ) (v : ℕ) (says : Bool) → RisingFrom last xs → v < last
      → bit (cond says (yes_mask (map (signed g) xs)) (no_mask (map (signed g) xs))) v ≡ 0
  low g last xs v says r h =
      let m : ℕ = cond says (yes_mask (map (signed g) xs)) (no_mask (map (signed g) xs)) in
      by_cases (ℕ_discrete (bit m v) 1)
      (λ e.
      let t = Memᴰ.of_map (signed g) xs (mask_in says (map (signed g) xs) v e) in
      absurd (omega (arith, rising_mem last xs t.0 r t.1, ap variable t.2, variable_signed t.0 (g t.0), variable_signed v says)))
      (λ e. omega (arith, bit_le m v))

  signed_cost : (g : ℕ → Bool) (last : ℕ) (xs : List ℕ) → RisingFrom last xs → ((v : ℕ) → Memᴰ v xs → v < p.variables)
      → cost_by (yes_mask (map (signed g) xs)) (no_mask (map (signed g) xs)) ≡ cost_of_set p (map (signed g) xs)
  unfolding yes_mask no_mask cost_of_set
  signed_cost g last [] r c = none_cost
  signed_cost g last (x ∷ xs) r c =
      let ls : List Literal = map (signed g) xs in
      omega (
        arith,
        more_masks x (g x) ls,
        opposite_cost p.costs p.variables (yes_mask ls) (no_mask ls) x (c x (Memᴰ.head refl)) (low g (suc x) xs x true r.1 (omega arith))
            (low g (suc x) xs x false r.1 (omega arith)) (not (g x)),
        twice x (g x),
        signed_cost g (suc x) xs r.1 (λ v m. c v (Memᴰ.tail m)),
      )

  module _ (on off : ℕ) (on_below : on < 2 ^ p.variables) (off_below : off < 2 ^ p.variables) (a : Apart on off) where
    list_cost : cost_by on off ≡ cost_of_set p (literals_of on off)
    unfolding literals_of
    list_cost =
        ap₂ (λ (x : ℕ) (y : ℕ). cost_by x y) (sym (masks_back on off a true)) (sym (masks_back on off a false))
        ∙ signed_cost (has on) 0 (members (union on off)) (rising_members (union on off))
        (λ v m. member_lt _ (union on off) v (members_in (union on off) v m) (union_lt _ on off on_below off_below))

    -- with the opposite of a literal
    pub reasons_cost : (v : ℕ) (says : Bool) → v < p.variables → bit on v ≡ 0 → bit off v ≡ 0
        → cost_by (opposite_on says on v) (opposite_off says off v) ≡ cost_of_set p (neg_ℤ (literal_of v says) ∷ literals_of on off)
    unfolding cost_of_set
    reasons_cost v says l x y =
        opposite_cost p.costs p.variables on off v l x y says
        ∙ ap₂ (λ (i : Literal) (j : ℕ). literal_cost p.costs i + j) (sym (opposite_literal v says)) list_cost

  pub opposite_le : (ls : List Literal) → OverVariables ls → (v : ℕ) (says : Bool) → v < p.variables
      → cost_by (opposite_on says (yes_mask ls) v) (opposite_off says (no_mask ls) v) ≤ cost_of_set p (neg_ℤ (literal_of v says) ∷ ls)
  unfolding cost_of_set
  opposite_le ls c v says l =
      omega (
        arith,
        opposite_most p.costs p.variables (yes_mask ls) (no_mask ls) v l says,
        ap (literal_cost p.costs) (opposite_literal v says),
        mask_cost ls c,
      )
