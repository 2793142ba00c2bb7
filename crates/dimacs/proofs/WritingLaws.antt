-- The bytes of the book, part by part.
-- Assumes nothing.
use mathlib.Core.Path.{◌≡◌, refl, ap}
use mathlib.Core.List.{List, [], ◌∷◌, map, append_assoc}
use Prim.Native.Nat.{ℕ, suc, ◌+◌, ◌-◌, ◌≤◌, ◌<◌}
use native.Mathlib.Numerals.{add-one}
use native.Mathlib.Omega.{arith}
use lib.ListN.{length, get_or, drop, drop_of_length-le}
use lib.Seq.{drop-cons}
use Rattle.literals.specs.Literal.{Literal}
use Rattle.literals.specs.declared.LiteralSet.{LiteralSet}
use Rattle.records.specs.Promises.{masks}
use Rattle.log_form.specs.Promises.{Put}
use Rattle.log_form.proofs.LeftLaws.{Left, left_all, left_as, left_part, left_none, part_room}
use Rattle.dimacs.specs.Text.{rule_of}
use Rattle.dimacs.specs.Import.{cost_bytes, costs_bytes, rule_bytes, rules_bytes}
use Rattle.dimacs.specs.Promises.{set_rule}

-- ---- the CS in a row

module _ (a : List ℕ) (at choices : ℕ) where
  -- After those of the choices below this one.
  pub record CostsPut (b : List ℕ) (k choice : ℕ) : Type 0 where
    pub within : choice ≤ choices + 1
    pub left : Left a at (costs_bytes choices 1) b k (costs_bytes (choices + 1 - choice) choice ∷ [])

  pub costs_none : CostsPut a at 1
  costs_none =
      let all : choices + 1 - 1 ≡ choices = omega arith in
      record { within = omega arith; left = rw all (left_all a at (costs_bytes choices 1)) }

  module _ {b : List ℕ} {k choice : ℕ} (w : CostsPut b k choice) where
    module _ (h : choice ≤ choices) where
      cost_next : Left a at (costs_bytes choices 1) b k (cost_bytes choice ∷ costs_bytes (choices + 1 - (choice + 1)) (choice + 1) ∷ [])
      unfolding costs_bytes
      cost_next =
          let one : choices + 1 - choice ≡ suc (choices + 1 - (choice + 1)) = omega arith in
          left_as _ w.left (rw (one, ← (add-one choice)) (append_assoc (cost_bytes choice) (costs_bytes (choices + 1 - (choice + 1)) (choice + 1)) []))

      pub cost_room : at + length (costs_bytes choices 1) ≤ length a → k + length (cost_bytes choice) ≤ length b
      cost_room r = part_room cost_next r

      pub costs_more : {c : List ℕ} {r : ℕ} → Put b k (cost_bytes choice) c r → CostsPut c r (choice + 1)
      costs_more p = record { within = omega arith; left = left_part cost_next p }

    pub costs_all : choices < choice → Put a at (costs_bytes choices 1) b k
    unfolding costs_bytes
    costs_all h =
        let none : choices + 1 - choice ≡ 0 = omega arith in
        left_none (left_as [] w.left (rw none refl))

-- ---- the RL in a row

module _ (a : List ℕ) (at : ℕ) (sets : List LiteralSet) where
  -- The RL of these sets.
  abbrev pub sets_bytes : List LiteralSet → List ℕ
  sets_bytes some = rules_bytes (map set_rule some)

  -- After i of them.
  pub record RulesPut (b : List ℕ) (k i : ℕ) : Type 0 where
    pub within : i ≤ length sets
    pub left : Left a at (sets_bytes sets) b k (sets_bytes (drop i sets) ∷ [])

  pub rules_none : RulesPut a at 0
  rules_none = record { within = omega arith; left = left_all a at (sets_bytes sets) }

  module _ {b : List ℕ} {k i : ℕ} (w : RulesPut b k i) where
    module _ (h : i < length sets) (d : LiteralSet) where
      rule_next : Left a at (sets_bytes sets) b k (rule_bytes (set_rule (get_or sets i d)) ∷ sets_bytes (drop (i + 1) sets) ∷ [])
      unfolding rules_bytes
      rule_next = left_as _ w.left (rw (add-one i, drop-cons sets i d h) (append_assoc (rule_bytes (set_rule (get_or sets i d))) (sets_bytes (drop (suc i) sets)) []))

      pub rule_room : at + length (sets_bytes sets) ≤ length a → k + length (rule_bytes (set_rule (get_or sets i d))) ≤ length b
      rule_room r = part_room rule_next r

      pub rules_more : {c : List ℕ} {r : ℕ} → Put b k (rule_bytes (set_rule (get_or sets i d))) c r → RulesPut c r (i + 1)
      rules_more p = record { within = omega arith; left = left_part rule_next p }

    pub rules_all : length sets ≤ i → Put a at (sets_bytes sets) b k
    unfolding rules_bytes
    rules_all h = left_none (left_as [] w.left (rw (drop_of_length-le sets h) refl))

-- the rules of the masks of clauses
pub masked_rules : (cs : List (List Literal)) → map set_rule (map masks cs) ≡ map rule_of cs
unfolding rule_of
masked_rules [] = refl
masked_rules (c ∷ cs) = ap (λ rs. rule_of c ∷ rs) (masked_rules cs)
