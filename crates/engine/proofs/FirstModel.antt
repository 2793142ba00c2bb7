-- Always the same model (E5): the model that is answered is the first for every filling, and books that the same fillings obey have the same one.
-- Assumes nothing.
use mathlib.Core.Path.{◌≡◌, refl, sym, ap, ◌∙◌}
use mathlib.Core.Bool.{Bool, true, false, cond}
use mathlib.Core.List.{List}
use Prim.Native.Nat.{ℕ}
use Rattle.dates.specs.Windows.{is_moment}
use Rattle.dates.specs.declared.Moment.{Moment}
use Rattle.literals.specs.Laws.{and_both}
use Rattle.records.specs.Format.{Read, value, refused, OrderBook}
use Rattle.sat.specs.Meaning.{is_model}
use Rattle.sat.specs.Laws.Fillings.{witness_some}
use Rattle.sat.specs.Laws.Rules.{rules_each, each_rules}
use Rattle.first_model.specs.Meaning.{First}
use Rattle.first_model.proofs.Laws.Order.{first_unique, first_as}
use Rattle.first_model.proofs.Laws.FirstFilling.{first_filling_lem}
use Rattle.problem.specs.Problem.{Problem, problem_of}
use Rattle.consequence.specs.Meaning.{models, has_model}
use Rattle.consequence.specs.Algorithm2.{ModelFilling}
use Rattle.consequence.specs.Laws.Problems.{no_filling}
use Rattle.consequence.proofs.SameFillings.{same_truth}
use Rattle.std.specs.Prelude.{Ok}
use Rattle.records.specs.Refusals.{refuses}
use Rattle.engine.specs.Calls.{with_model, first_model, model_answer}
use Rattle.engine.specs.FirstModel.{AnswersFirst, EqualModels, SameObeyed}
use Rattle.engine.specs.SameScreens.{Reordered, BothRead}
use Rattle.engine.proofs.NineLaws.{after_nine}
use Rattle.engine.proofs.PosedLaws.{posed_book, posed_impossible}

-- ---- of a problem

module _ (p : Problem) where
  -- it is the first model, where there is one
  pub first_model_lem : has_model p ≡ true → First (ModelFilling p) (first_model p)
  unfolding has_model first_model
  first_model_lem e =
      first_as (λ f m. record { below = m.below; is_model = m.passes }) (λ f m. record { below = m.below; passes = m.is_model })
      (first_filling_lem p.variables (models p) e)

  -- what is first is it
  pub first_has : {f : ℕ} → First (ModelFilling p) f → has_model p ≡ true
  unfolding has_model
  first_has {f} x = witness_some _ (models p) f x.among.below x.among.is_model

  pub is_first_model : {f : ℕ} → First (ModelFilling p) f → f ≡ first_model p
  is_first_model x = first_unique x (first_model_lem (first_has x))

-- ---- of the answer

pub answer_first : (m : Read Problem) → AnswersFirst m (model_answer m)
unfolding model_answer with_model
answer_first (refused number place) = refl
answer_first (value p end) = go (has_model p) refl
  where
    go : (h : Bool) → has_model p ≡ h → AnswersFirst (value p end) (cond h (Ok (first_model p)) (refuses 9 0))
    go true e = first_model_lem p e
    go false e = no_filling p e

-- ---- nothing is free

pub equal_bytes : (moment : Moment) (s : List ℕ) → EqualModels moment s s
equal_bytes moment s = record { same = λ c d. c.said ∙ sym d.said }

module _ {moment : Moment} where
  -- the models of the one are models of the other
  obeyed_model : {b c : OrderBook} → SameObeyed moment b c → (f : ℕ) → ModelFilling (problem_of moment b) f → ModelFilling (problem_of moment c) f
  unfolding problem_of models is_model
  obeyed_model x f m =
      let w = and_both _ _ m.is_model in
      record { below = rw x.same_variables at m.below; is_model = rw (x.there f m.below w.0, ← x.same_facts) w.1 }

  obeyed_back : {b c : OrderBook} → SameObeyed moment b c → SameObeyed moment c b
  obeyed_back x = record { same_variables = sym x.same_variables; same_facts = sym x.same_facts; there = x.back; back = x.there }

  module _ {b c : OrderBook} (x : SameObeyed moment b c) where
    first_there : {f : ℕ} → First (ModelFilling (problem_of moment b)) f → First (ModelFilling (problem_of moment c)) f
    first_there = first_as (obeyed_model x) (obeyed_model (obeyed_back x))

    has_there : has_model (problem_of moment b) ≡ true → has_model (problem_of moment c) ≡ true
    has_there e = first_has (problem_of moment c) (first_there (first_model_lem (problem_of moment b) e))

  -- the same first model, or none
  obeyed_answers : {b c : OrderBook} → SameObeyed moment b c → (end other : ℕ)
      → model_answer (value (problem_of moment b) end) ≡ model_answer (value (problem_of moment c) other)
  unfolding model_answer with_model
  obeyed_answers {b} {c} x end other =
      after_nine _ _ (same_truth _ _ (has_there x) (has_there (obeyed_back x))) _ _ _
      (λ e. ap Ok (is_first_model (problem_of moment c) (first_there x (first_model_lem (problem_of moment b) e))))

  -- books of which it is known in another way that the same fillings obey their rules in force
  module _ {related : OrderBook → OrderBook → Type 0} (obeyed : (b c : OrderBook) → related b c → SameObeyed moment b c) where
    models_equal : {s t : List ℕ} → BothRead related s t → EqualModels moment s t
    models_equal {s} {t} x = go (is_moment moment) refl
      where
        go : (h : Bool) → is_moment moment ≡ h → EqualModels moment s t
        go true e =
            let here = ap model_answer (posed_book moment s e x.accepted) ∙ obeyed_answers (obeyed x.book x.other x.same) x.end x.other_end in
            record { same = λ c d. c.said ∙ here ∙ sym (d.said ∙ ap model_answer (posed_book moment t e x.other_accepted)) }
        go false e = record { same = λ c d. c.said ∙ ap model_answer (posed_impossible moment s e ∙ sym (posed_impossible moment t e)) ∙ sym d.said }

  pub same_model : {s t : List ℕ} → BothRead (SameObeyed moment) s t → EqualModels moment s t
  same_model = models_equal (λ b c x. x)

  -- rules in another order are obeyed by the same fillings
  pub reordered_obeyed : {b c : OrderBook} → Reordered moment b c → b.facts ≡ c.facts → SameObeyed moment b c
  reordered_obeyed x facts =
      record {
        same_variables = x.same_variables;
        same_facts = facts;
        there = λ f h o. each_rules _ _ (λ l m. rules_each _ _ o l (x.rules_back l m));
        back = λ f h o. each_rules _ _ (λ l m. rules_each _ _ o l (x.rules_there l m));
      }

  pub reordered_model : {s t : List ℕ} → BothRead (λ b c. Reordered moment b c × (b.facts ≡ c.facts)) s t → EqualModels moment s t
  reordered_model = models_equal (λ b c x. reordered_obeyed x.0 x.1)
