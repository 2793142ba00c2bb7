-- The answers on one model and on the consequence, from what the inner functions found.
-- Assumes nothing.
use mathlib.Core.Path.{◌≡◌, refl, sym, ap, ap₂, subst, ◌∙◌}
use mathlib.Core.Bool.{Bool, true, false, cond}
use mathlib.Core.List.{List}
use Prim.Native.Nat.{ℕ}
use native.Mathlib.Omega.{arith}
use borrow.Author.Tests.{not-true, not-false}
use Rattle.dates.specs.declared.Moment.{Moment}
use Rattle.literals.specs.declared.LiteralSet.{LiteralSet}
use Rattle.records.specs.Format.{Read, value, refused, OrderBook}
use Rattle.book.specs.Answer.{masked_book}
use Rattle.book.proofs.WellFormed.{WellFormed}
use Rattle.sat.specs.Meaning.{Model}
use Rattle.std.specs.Option.{ok_or}
use Rattle.first_model.specs.Promises.{FirstSearched}
use Rattle.first_model.proofs.Laws.Searches.{searched_first, searched_no_first}
use Rattle.first_model.proofs.Laws.Order.{first_as}
use Rattle.problem.specs.Problem.{Problem, problem_of, given}
use Rattle.problem.specs.Masked.{masked_from, yes_in, no_in}
use Rattle.problem.specs.declared.MaskedProblem as kept
use Rattle.problem.proofs.BookLaws.{proper_book}
use Rattle.consequence.specs.Meaning.{has_model, consequence_of, Theory, ModelOf}
use Rattle.consequence.specs.Algorithm2.{ModelFilling, Narrowed}
use Rattle.consequence.specs.Promises.{Concluded}
use Rattle.consequence.specs.Laws.Forcing.{none_contradicts}
use Rattle.consequence.specs.Laws.Masks.{to_theory, of_theory, none_to_theory}
use Rattle.consequence.specs.Laws.Problems.{model_filling, filling_model, no_filling, consequence_demand}
use Rattle.consequence.specs.Laws.Algorithm2.{narrowed_problem}
use Rattle.consequence.specs.declared.Forced.{Forced}
use Rattle.std.specs.Prelude.{Option, Some, None, Ok, Err}
use Rattle.records.specs.Refusals.{refusal_of, refuses}
use Rattle.records.specs.declared.refusal.Refusal.{Refusal}
use Rattle.engine.specs.Calls.{ModelAnswer, ConsequenceAnswer}
use Rattle.engine.specs.Calls.{posed, with_model, first_model, model_answer, ModelCall, consequence_answer, FillsIn, FoundFor, ConsequenceCall}
use Rattle.engine.specs.Promises.{FoundModel, FoundForced}
use Rattle.engine.proofs.NineLaws.{nine_exactly, nine_number}
use Rattle.engine.proofs.FirstModel.{first_has, is_first_model}
use Rattle.engine.proofs.ProblemLaws.{theory_same, forced_same, contradicts_has, Taken, taken_posed, NotTaken}
use Rattle.engine.proofs.PosedLaws.{posed_proper}

-- what `first_model::search` says of the problem, in the call's answer
pub model_found : (p : kept.MaskedProblem) (o : Option ℕ) {refused : Refusal} {r : ModelAnswer}
    → FirstSearched p.variables (yes_in p) (no_in p) p.facts.yes p.facts.no o → refused ≡ refusal_of 9 0 → r ≡ ok_or o refused → FoundModel p r
model_found p (Some m) w e f = rw f (record { said = searched_first w refl })
model_found p None w e f = rw (f, e) (record { said = (refl, searched_no_first w refl) })

-- what `consequence::of_problem` says of the problem, in the call's answer
module _ (p : kept.MaskedProblem) {r : Option Forced} (c : Concluded p.variables (yes_in p) (no_in p) p.choices p.facts.yes p.facts.no r) where
  pub forced_found : {found : Forced} → r ≡ Some found → FoundForced p (Ok found.kept)
  forced_found e = let s = (rw e at c).said in record {
    said = record {
      some_model = s.0;
      forced = ap₂ (λ (y : ℕ) (n : ℕ). record { yes = y; no = n }) s.1.yes_forced s.1.no_forced;
      number = _;
      narrowed = s.1.narrowed;
    };
  }

  pub none_found : r ≡ None → FoundForced p (refuses 9 0)
  none_found e = record { said = (refl, (rw e at c).said) }

module _ {b : OrderBook} (w : WellFormed b) (moment : Moment) (end : ℕ) where
  -- ---- one model

  -- the models of the code's arguments
  abbrev Masked : ℕ → Type 0
  Masked f =
      Model (masked_from moment (masked_book b)).variables (yes_in (masked_from moment (masked_book b))) (no_in (masked_from moment (masked_book b)))
      (masked_from moment (masked_book b)).facts.yes (masked_from moment (masked_book b)).facts.no f

  -- they are the models of the problem
  abbrev Given : Theory → ℕ → Type 0
  Given t f = ModelOf t (given (problem_of moment b)).yes (given (problem_of moment b)).no f

  model_there : (f : ℕ) → Masked f → ModelFilling (problem_of moment b) f
  unfolding problem_of
  model_there f m = model_filling (problem_of moment b) (proper_book w moment).facts_proper f
      (subst (λ (t : Theory). Given t f) (theory_same w moment) (to_theory _ m))

  model_back : (f : ℕ) → ModelFilling (problem_of moment b) f → Masked f
  unfolding problem_of
  model_back f m =
      of_theory _ (subst (λ (t : Theory). Given t f) (sym (theory_same w moment)) (filling_model (problem_of moment b) (proper_book w moment).facts_proper f m))

  pub model_says : (r : ModelAnswer) → FoundModel (masked_from moment (masked_book b)) r → r ≡ model_answer (value (problem_of moment b) end)
  unfolding model_answer with_model
  model_says (Ok m) f =
      let x = first_as model_there model_back f.said in
      rw (first_has (problem_of moment b) x) (ap Ok (is_first_model (problem_of moment b) x))
  model_says (Err refusal) f =
      let none = sym (contradicts_has w moment) ∙ none_contradicts _ _ _ (none_to_theory _ f.said.1) in
      rw (not-true (has_model (problem_of moment b)) none) (ap Err f.said.0)

  -- ---- the consequence

  pub consequence_says : (r : ConsequenceAnswer) → FoundForced (masked_from moment (masked_book b)) r → r ≡ consequence_answer (value (problem_of moment b) end)
  unfolding consequence_answer with_model
  consequence_says (Ok two) f =
      rw (not-false (has_model (problem_of moment b)) (sym (contradicts_has w moment) ∙ f.said.some_model))
      (ap Ok (f.said.forced ∙ forced_same w moment))
  consequence_says (Err refusal) f =
      rw (not-true (has_model (problem_of moment b)) (sym (contradicts_has w moment) ∙ f.said.1)) (ap Err f.said.0)

  -- the models found are the problem's
  pub found_for : (r : ConsequenceAnswer) → FoundForced (masked_from moment (masked_book b)) r → FoundFor (value (problem_of moment b) end) r
  unfolding problem_of
  found_for (Ok two) f =
      let t = subst
      (λ (t : Theory). Narrowed (problem_of moment b).variables (problem_of moment b).choices
      (ModelOf t (given (problem_of moment b)).yes (given (problem_of moment b)).no)
      f.said.number two) (theory_same w moment) f.said.narrowed in
      record {
        number = f.said.number;
        narrowed = narrowed_problem (problem_of moment b) (proper_book w moment).facts_proper t;
        at_most = omega (arith, t.narrowing.at_most);
      }
  found_for (Err refusal) f = no_filling (problem_of moment b) (not-true (has_model (problem_of moment b))
      (sym (contradicts_has w moment) ∙ f.said.1))

-- demand 2 of the answer
fills_in : (moment : Moment) (s : List ℕ) (m : Read Problem) → posed moment s ≡ m → (r : ConsequenceAnswer) → r ≡ consequence_answer m → FillsIn m r
unfolding consequence_answer with_model
fills_in moment s (refused number place) e r c = c
fills_in moment s (value p end) e r c = go r (has_model p) refl c
  where
    go : (r : ConsequenceAnswer) (h : Bool) → has_model p ≡ h → r ≡ cond h (Ok (consequence_of p)) (refuses 9 0)
        → FillsIn (value p end) r
    go (Ok two) true m d =
        let same : two ≡ consequence_of p = cc in rw same (consequence_demand p (posed_proper moment s e).choices_below)
    go (Ok two) false m d = let z : ◌≡◌ {A = ℕ} 0 1 = cc in absurd (omega arith)
    go (Err refusal) true m d = let z : ◌≡◌ {A = ℕ} 0 1 = cc in absurd (omega arith)
    go (Err refusal) false m d = no_filling p m

pub consequence_call : {moment : Moment} {s : List ℕ} {r : ConsequenceAnswer} → r ≡ consequence_answer (posed moment s) → FoundFor (posed moment s) r
    → ConsequenceCall s moment r
unfolding consequence_answer
consequence_call {moment} {s} {r} e f = record {
  said = e;
  demand_2 = fills_in moment s (posed moment s) refl r e;
  found = f;
  nine =
      rw e (nine_exactly (λ p. Ok (consequence_of p)) refuses nine_number (λ p at d. other (consequence_of p) d)
      (Unit {0}) moment s);
}
  where
    other : (two : LiteralSet) {at : ℕ} → ◌≡◌ {A = ConsequenceAnswer} (Ok two) (refuses 9 at) → ⊥
    other two d = let z : ◌≡◌ {A = ℕ} 0 1 = cc in omega arith

pub model_call : {moment : Moment} {s : List ℕ} {r : ModelAnswer} → r ≡ model_answer (posed moment s) → ModelCall s moment r
unfolding model_answer
model_call {moment} {s} e = record {
  said = e;
  nine = rw e (nine_exactly (λ p. Ok (first_model p)) refuses nine_number (λ p at d. other (first_model p) d) (Unit {0})
      moment s);
}
  where
    other : (f : ℕ) {at : ℕ} → ◌≡◌ {A = ModelAnswer} (Ok f) (refuses 9 at) → ⊥
    other f d = let z : ◌≡◌ {A = ℕ} 0 1 = cc in omega arith

-- ---- the calls, where no problem is made and where one is

module _ {moment : Moment} {s : List ℕ} where
  pub model_refused : {r : Refusal} → NotTaken moment s r → ModelCall s moment (Err r)
  unfolding model_answer with_model
  model_refused t = model_call (rw (t.posed, t.same) refl)

  pub consequence_refused : {r : Refusal} → NotTaken moment s r → ConsequenceCall s moment (Err r)
  unfolding consequence_answer with_model
  consequence_refused t = consequence_call (rw (t.posed, t.same) refl) (rw (t.posed, t.same) refl)

  module _ {p : kept.MaskedProblem} (t : Taken moment s p) where
    pub model_taken : {a : ModelAnswer} → FoundModel p a → ModelCall s moment a
    model_taken {a} f = model_call (rw (taken_posed t) (model_says t.well moment t.end a (rw t.same at f)))

    pub consequence_taken : {a : ConsequenceAnswer} → FoundForced p a → ConsequenceCall s moment a
    consequence_taken {a} f =
        let g = (rw t.same at f) in
        consequence_call (rw (taken_posed t) (consequence_says t.well moment t.end a g))
        (rw (taken_posed t) (found_for t.well moment t.end a g))
