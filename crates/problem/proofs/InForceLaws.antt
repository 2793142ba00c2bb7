-- The rules in force, picked one after the other, and that they are those of the book's rules in force.
-- Assumes nothing.
use mathlib.Core.Path.{◌≡◌, refl, ap, ◌∙◌}
use mathlib.Core.Bool.{Bool, true, false, cond}
use mathlib.Core.List.{List, [], ◌∷◌, ◌++◌, map, append-nil}
use Prim.Native.Nat.{ℕ, zero, suc, ◌+◌, ◌≤◌, ◌<◌}
use native.Mathlib.Numerals.{add-one}
use native.Mathlib.Omega.{arith}
use lib.ListN.{length, get_or, take, length-append}
use Rattle.dates.specs.Windows.{in_force}
use Rattle.dates.specs.declared.Moment.{Moment}
use Rattle.literals.specs.Literal.{Literal}
use Rattle.literals.specs.declared.LiteralSet.{LiteralSet}
use Rattle.records.specs.Format.{Rule, always}
use Rattle.records.specs.declared.Rule as kept
use Rattle.book.specs.Answer.{kept_rule}
use Rattle.records.specs.Promises.{masks}
use Rattle.problem.specs.Problem.{rules_in_force}
use Rattle.problem.specs.Masked.{kept_in_force}

module _ (moment : Moment) where
  -- one rule more: its masks come after those before it, where it is in force
  kept_more : (rs : List kept.Rule) (i : ℕ) (d : kept.Rule) → i < length rs
      → kept_in_force moment (take (suc i) rs)
      ≡ kept_in_force moment (take i rs) ++ cond (in_force moment (get_or rs i d).applies) ((get_or rs i d).literals ∷ []) []
  unfolding kept_in_force
  kept_more [] i d h = absurd (omega arith)
  kept_more (r ∷ rs) zero d h = refl
  kept_more (r ∷ rs) (suc i) d h = go (in_force moment r.applies) (kept_more rs i d (omega arith))
    where
      go : (b : Bool)
          → kept_in_force moment (take (suc i) rs)
          ≡ kept_in_force moment (take i rs) ++ cond (in_force moment (get_or rs i d).applies) ((get_or rs i d).literals ∷ []) []
          → cond b (r.literals ∷ kept_in_force moment (take (suc i) rs)) (kept_in_force moment (take (suc i) rs))
          ≡ cond b (r.literals ∷ kept_in_force moment (take i rs)) (kept_in_force moment (take i rs))
          ++ cond (in_force moment (get_or rs i d).applies) ((get_or rs i d).literals ∷ []) []
      go true e = ap (λ l. r.literals ∷ l) e
      go false e = e

  kept_all : (rs : List kept.Rule) (i : ℕ) → length rs ≤ i → take i rs ≡ rs
  kept_all [] zero h = refl
  kept_all [] (suc i) h = refl
  kept_all (r ∷ rs) zero h = absurd (omega arith)
  kept_all (r ∷ rs) (suc i) h = ap (λ l. r ∷ l) (kept_all rs i (omega arith))

  -- The rules of the first i that are in force, of which there are no more than i.
  pub record Picked (rs : List kept.Rule) (picked : List LiteralSet) (i : ℕ) : Type 0 where
    pub few : length picked ≤ i
    pub is : picked ≡ kept_in_force moment (take i rs)

  pub picked_none : (rs : List kept.Rule) {picked : List LiteralSet} → picked ≡ [] → Picked rs picked 0
  unfolding kept_in_force
  picked_none rs e = record { few = omega (arith, ap length e); is = e }

  module _ (rs : List kept.Rule) (d : kept.Rule) {picked more : List LiteralSet} {i : ℕ} (g : Picked rs picked i) (h : i < length rs) where
    -- the next rule is in force
    pub picked_more : in_force moment (get_or rs i d).applies ≡ true → more ≡ picked ++ (get_or rs i d).literals ∷ [] → Picked rs more (i + 1)
    picked_more e p =
        let next : kept_in_force moment (take (suc i) rs) ≡ kept_in_force moment (take i rs) ++ ((get_or rs i d).literals ∷ []) =
        kept_more rs i d h ∙ rw e refl in
        record {
          few = omega (arith, ap length p, length-append picked ((get_or rs i d).literals ∷ []), g.few);
          is = rw (add-one, next) (p ∙ ap (λ l. l ++ (get_or rs i d).literals ∷ []) g.is);
        }

    -- it is not
    pub picked_same : in_force moment (get_or rs i d).applies ≡ false → more ≡ picked → Picked rs more (i + 1)
    picked_same e p =
        let next : kept_in_force moment (take (suc i) rs) ≡ kept_in_force moment (take i rs) =
        kept_more rs i d h ∙ rw e (append-nil _) in
        record { few = omega (arith, ap length p, g.few); is = rw (add-one, next) (p ∙ g.is) }

  pub picked_all : (rs : List kept.Rule) {picked : List LiteralSet} {i : ℕ} → Picked rs picked i → length rs ≤ i → picked ≡ kept_in_force moment rs
  picked_all rs {i = i} g h = g.is ∙ ap (kept_in_force moment) (kept_all rs i h)

  -- the masks of the rules in force, from the rules as they are kept
  pub in_force_masks : (rs : List Rule) → kept_in_force moment (map kept_rule rs) ≡ map masks (rules_in_force moment rs)
  unfolding kept_in_force rules_in_force
  in_force_masks [] = refl
  in_force_masks (r ∷ rs) = go (in_force moment r.applies) (in_force_masks rs)
    where
      go : (b : Bool) → kept_in_force moment (map kept_rule rs) ≡ map masks (rules_in_force moment rs)
          → cond b (masks r.literals ∷ kept_in_force moment (map kept_rule rs)) (kept_in_force moment (map kept_rule rs))
          ≡ map masks (cond b (r.literals ∷ rules_in_force moment rs) (rules_in_force moment rs))
      go true e = ap (λ l. masks r.literals ∷ l) e
      go false e = e

  -- they are no more than all rules
  pub in_force_few : (rs : List Rule) → length (rules_in_force moment rs) ≤ length rs
  unfolding rules_in_force
  in_force_few [] = omega arith
  in_force_few (r ∷ rs) = go (in_force moment r.applies) (in_force_few rs)
    where
      go : (b : Bool) → length (rules_in_force moment rs) ≤ length rs
          → length (cond b (r.literals ∷ rules_in_force moment rs) (rules_in_force moment rs)) ≤ suc (length rs)
      go true h = omega (arith, h)
      go false h = omega (arith, h)

  -- rules that always apply are all in force
  pub always_in_force : (ls : List (List Literal)) → rules_in_force moment (map always ls) ≡ ls
  unfolding rules_in_force in_force
  always_in_force [] = refl
  always_in_force (l ∷ ls) = ap (λ k. l ∷ k) (always_in_force ls)

pub ruleset picked_laws = (picked_none, picked_more, picked_same, picked_all)
