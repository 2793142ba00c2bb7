-- 9 exactly where the problem has no model: one law for the calls, whose answers go by `with_model`.
-- Assumes nothing.
use mathlib.Core.Path.{◌≡◌, refl, ap, ◌∙◌}
use mathlib.Core.Logic.{⊎_elim}
use mathlib.Core.Bool.{Bool, true, false, cond}
use mathlib.Core.List.{List}
use Prim.Native.Nat.{ℕ}
use native.Mathlib.Omega.{arith}
use Rattle.dates.specs.declared.Moment.{Moment}
use Rattle.records.specs.Format.{Read, value, refused}
use Rattle.std.specs.Prelude.{Result}
use Rattle.records.specs.Refusals.{kind_of, refusal_of, refuses}
use Rattle.records.specs.declared.refusal.Refusal.{Refusal}
use Rattle.records.proofs.RefusalLaws.{one_number}
use Rattle.problem.specs.Problem.{Problem}
use Rattle.consequence.specs.Meaning.{has_model}
use Rattle.consequence.specs.Demand2.{NoFilling}
use Rattle.consequence.specs.Laws.Problems.{no_filling, some_filling_lem}
use Rattle.engine.specs.Calls.{posed, with_model, NineExactly}
use Rattle.engine.proofs.PosedLaws.{posed_numbers}

-- a problem that has no model, for every filling, computes so
pub none_has : (p : Problem) → NoFilling p → has_model p ≡ false
none_has p n = go (has_model p) refl
  where
    go : (h : Bool) → has_model p ≡ h → h ≡ false
    go true e = absurd (some_filling_lem p e n)
    go false e = refl

-- `refuse` tells its numbers apart, and no answer on a problem is a refusal with 9
module _ {A : Type 0} (answer : Problem → A) (refuse : ℕ → ℕ → A) (number_of_lem : (n p q : ℕ) → refuse n p ≡ refuse 9 q → n ≡ 9)
    (other : (p : Problem) (place : ℕ) → answer p ≡ refuse 9 place → ⊥) where
  nine_then : (due : Type 0) (moment : Moment) (s : List ℕ) (m : Read Problem) → posed moment s ≡ m → NineExactly refuse due m (with_model answer refuse m)
  unfolding with_model
  nine_then due moment s (refused number place) e =
      record {
        nine_none =
            λ at d. let k : number ≡ 9 = number_of_lem _ _ _ d in ⊎_elim (λ n. omega (arith, k, n.0, n.1)) (λ n. omega (arith, k, n))
            (posed_numbers moment s e);
        none_nine = λ u n. absurd n;
      }
  nine_then due moment s (value p end) e = go (has_model p) refl
    where
      go : (h : Bool) → has_model p ≡ h → NineExactly refuse due (value p end) (cond h (answer p) (refuse 9 0))
      go true m = record { nine_none = λ at d. absurd (other _ at d); none_nine = λ u n. absurd (some_filling_lem _ m n) }
      go false m = record { nine_none = λ at d. no_filling _ m; none_nine = λ u n. refl }

  pub nine_exactly : (due : Type 0) (moment : Moment) (s : List ℕ) → NineExactly refuse due (posed moment s) (with_model answer refuse (posed moment s))
  nine_exactly due moment s = nine_then due moment s (posed moment s) refl

-- two answers, each with 9 where there is no model: h and k say whether there is one
pub after_nine : {A : Type 0} (h k : Bool) → h ≡ k → (nine f g : A) → (h ≡ true → f ≡ g) → cond h f nine ≡ cond k g nine
after_nine h k same nine f g e = go h e ∙ ap (λ (b : Bool). cond b g nine) same
  where
    go : (b : Bool) → (b ≡ true → f ≡ g) → cond b f nine ≡ cond b g nine
    go true e = e refl
    go false e = refl

-- equal refusals name equal checks
pub kinds_same : {A : Type 0} (n p m q : ℕ) → ◌≡◌ {A = Result A Refusal} (refuses n p) (refuses m q) → kind_of n ≡ kind_of m
kinds_same n p m q e = let named : refusal_of n p ≡ refusal_of m q = cc in ap (λ (r : Refusal). r.kind) named

-- a refusal with the check of 9 has the number 9
pub nine_number : {A : Type 0} (n p q : ℕ) → ◌≡◌ {A = Result A Refusal} (refuses n p) (refuses 9 q) → n ≡ 9
nine_number n p q e = one_number (kinds_same n p 9 q e) refl (omega arith)
