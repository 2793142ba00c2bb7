-- The next step of a problem and of a book: from what the inner functions found to the call's answer.
-- Assumes nothing.
use mathlib.Core.Path.{◌≡◌, refl, sym, ap₂, subst, ◌∙◌}
use mathlib.Core.Bool.{Bool, true, false, not, cond, ◌&&◌, false≢true}
use mathlib.Core.List.{List}
use Prim.Native.Nat.{ℕ, ◌^◌, ◌<◌}
use native.Mathlib.Omega.{arith}
use Rattle.sets.specs.Sets.{subset}
use Rattle.sets.specs.Laws.Subset.{subset_within, within_subset}
use Rattle.literals.specs.declared.LiteralSet.{LiteralSet}
use Rattle.literals.specs.LiteralSets as literal_set
use Rattle.literals.specs.Laws.{and_both}
use Rattle.dates.specs.declared.Moment.{Moment}
use Rattle.records.specs.Format.{Read, value, refused, OrderBook}
use Rattle.book.specs.Answer.{masked_book}
use Rattle.book.proofs.WellFormed.{WellFormed}
use Rattle.sat.specs.Laws.Assigns.{posed_with}
use Rattle.problem.specs.Problem.{Problem, problem_of, given}
use Rattle.problem.specs.Masked.{masked_from, yes_in, no_in}
use Rattle.problem.specs.Proper.{ProperProblem}
use Rattle.problem.specs.declared.MaskedProblem as kept
use Rattle.consequence.specs.Meaning.{models, has_model, consequence_of, Theory, theory_of, contradicts}
use Rattle.consequence.specs.Laws.Masks.{to_theory, of_theory}
use Rattle.consequence.specs.Laws.Problems.{no_filling}
use Rattle.step.specs.Meaning.{asking, question_of, Answer, nothing_left, step, step_of}
use Rattle.step.specs.IsStep.{ForcedBy, Between, Sound, IsStep}
use Rattle.step.specs.Theorems.{step_is, left_known}
use Rattle.step.specs.Promises.{Asked, next_of}
use Rattle.step.specs.Laws.Given as facts
use Rattle.step.specs.Laws.Known.{cond_not}
use Rattle.log_writer.specs.Promises.{put_step}
use Rattle.log_writer.specs.Laws.OneStep.{choices_below, forced}
use Rattle.log_writer.specs.Laws.Explains.{consistent}
use Rattle.log_writer.proofs.RunLaws.{of_parts}
use Rattle.std.specs.Prelude.{Some, None, Ok, Err}
use Rattle.records.specs.Refusals.{refusal_of, refuses}
use Rattle.records.specs.declared.refusal.Refusal.{Refusal}
use Rattle.engine.specs.Calls.{StepAnswer}
use Rattle.engine.specs.Calls.{posed, with_model, between, step_says, step_for, step_answer, IsNext, StepCall}
use Rattle.engine.specs.Promises.{theory_in, forced_in, FoundForced, step_in, Steppable}
use Rattle.engine.proofs.NineLaws.{nine_exactly, nine_number}
use Rattle.engine.proofs.ProblemLaws.{theory_same, forced_same, contradicts_has, Taken, taken_posed, NotTaken}
use Rattle.engine.proofs.PosedLaws.{posed_proper}

-- ---- the answer of `step::next_step`, passed on

pub says_next : (a : Answer) → Ok (next_of a) ≡ step_says a
unfolding step_says
says_next nothing_left = refl
says_next (step s) = refl

-- ---- what the given facts force

module _ (p : kept.MaskedProblem) where
  pub found_nine : {refusal : Refusal} → FoundForced p (Err refusal) → (refusal ≡ refusal_of 9 0) × (contradicts (theory_in p) p.facts.yes p.facts.no ≡ true)
  found_nine f = f.said

  pub found_set : {two : LiteralSet} → FoundForced p (Ok two) → (contradicts (theory_in p) p.facts.yes p.facts.no ≡ false) × (two ≡ forced_in p)
  found_set f = (f.said.some_model, f.said.forced)

pub forced_by : (p : kept.MaskedProblem) → ForcedBy (theory_in p) (forced_in p) p.facts
forced_by p = record { yes_forced = refl; no_forced = refl }

-- ---- what the next step asks

lies : (facts known forced : LiteralSet) → between facts known forced ≡ true → Between facts known forced
unfolding between
lies facts known forced e =
    let last = and_both (subset facts.yes known.yes && subset facts.no known.no && subset known.yes forced.yes) _ e in
    let third = and_both (subset facts.yes known.yes && subset facts.no known.no) _ last.0 in
    let first = and_both (subset facts.yes known.yes) _ third.0 in
    record {
      facts_yes = subset_within _ _ first.0;
      facts_no = subset_within _ _ first.1;
      known_yes = subset_within _ _ third.1;
      known_no = subset_within _ _ last.1;
    }

lies_between : (facts known forced : LiteralSet) → Between facts known forced → between facts known forced ≡ true
unfolding between
lies_between facts known forced b =
    rw (within_subset _ _ b.facts_yes, within_subset _ _ b.facts_no, within_subset _ _ b.known_yes, within_subset _ _ b.known_no) refl

-- the code looks at the two halves
halves : (facts known forced : LiteralSet) → between facts known forced ≡ literal_set.subset facts known && literal_set.subset known forced
unfolding between
halves facts known forced = go (literal_set.subset facts known) (subset known.yes forced.yes) (subset known.no forced.no)
  where
    go : (a b c : Bool) → (a && b) && c ≡ a && (b && c)
    go true b c = refl
    go false b c = refl

module _ (facts known forced : LiteralSet) {a : Bool} (e : a ≡ literal_set.subset facts known) where
  pub between_then : {b : Bool} → a ≡ true → b ≡ literal_set.subset known forced → b ≡ between facts known forced
  between_then t u = u ∙ sym (halves facts known forced ∙ rw (sym e ∙ t) refl)

  pub between_else : a ≡ false → a ≡ between facts known forced
  between_else t = t ∙ sym (halves facts known forced ∙ rw (sym e ∙ t) refl)

module _ (p : kept.MaskedProblem) (w : Steppable p) (some : contradicts (theory_in p) p.facts.yes p.facts.no ≡ false) where
  pub asked_of : (known : LiteralSet) → Between p.facts known (forced_in p)
      → Asked p.variables (yes_in p) (no_in p) p.choices p.costs (forced_in p) known
  asked_of known b =
      let below = w.searchable.choices_below in
      let forced = forced_by p in
      let model = facts.consequence_has below forced some in
      record {
        posed = posed_with w.searchable.posed (facts.exact below forced true).below (facts.exact below forced false).below
            (facts.consequence_apart below forced some);
        few = w.few;
        choices_below = below;
        rows = w.rows;
        yes_choices = facts.over_choices_lem below forced true;
        no_choices = facts.over_choices_lem below forced false;
        known_yes = b.known_yes;
        known_no = b.known_no;
        model = (model.0, of_theory _ model.1);
        forces = λ f m. of_theory _ (facts.known_forces forced b f (to_theory _ m));
        cheap = w.cheap;
      }

  pub stepping : (known : LiteralSet) → between p.facts known (forced_in p) ≡ true
      → Asked p.variables (yes_in p) (no_in p) p.choices p.costs (forced_in p) known
  stepping known b = asked_of known (lies _ _ _ b)

-- ---- a book

module _ {b : OrderBook} (w : WellFormed b) (moment : Moment) where
  -- the answer as a function of the theory and of what is forced
  answer_by : LiteralSet → Theory → LiteralSet → StepAnswer
  answer_by known t c =
      cond (not (has_model (problem_of moment b))) (refuses 9 0)
      (cond (between (given (problem_of moment b)) known c) (step_says (step_of (asking t (problem_of moment b).costs c known))) (refuses 10 0))

  pub step_says_lem : (end on off : ℕ) → step_in (masked_from moment (masked_book b)) (record { yes = on; no = off }) ≡ step_answer on off
      (value (problem_of moment b) end)
  unfolding step_in step_answer step_for with_model answer_by problem_of
  step_says_lem end on off = rw (contradicts_has w moment) (ap₂ (answer_by (record { yes = on; no = off })) (theory_same w moment) (forced_same w moment)
      ∙ cond_not (has_model (problem_of moment b)) _ _)

-- ---- the step for every filling

module _ {p : Problem} (w : ProperProblem p) (some : has_model p ≡ true) where
  -- a known set between the given facts and the consequence can be asked about
  pub sound_between : (known : LiteralSet) → between (given p) known (consequence_of p) ≡ true → Sound (question_of p known)
  unfolding theory_of
  sound_between known b =
      facts.between_sound (choices_below w) (forced w) (consistent w some) p.costs (lies _ _ _ b)

is_next : (moment : Moment) (s : List ℕ) (known : LiteralSet) (m : Read Problem) → posed moment s ≡ m → (r : StepAnswer) → r ≡ step_answer known.yes
    known.no m
    → IsNext m known r
unfolding step_answer step_for with_model step_says
is_next moment s known (refused number place) e r c = c
is_next moment s known (value p end) e r c = by (has_model p) refl (between (given p) known (consequence_of p)) refl (step_of (question_of p known)) refl r c
  where
    sound : has_model p ≡ true → between (given p) known (consequence_of p) ≡ true → Sound (question_of p known)
    sound h k = sound_between (posed_proper moment s e) h known k

    says : (a : Answer) → step_of (question_of p known) ≡ a → Sound (question_of p known) → (r : StepAnswer) → r ≡ step_says a → IsNext (value p end) known r
    says (step x) d z (Ok (Some y)) f =
        let same : x ≡ put_step y = of_parts (cc) (cc) (cc) (cc) in
        subst (IsStep (question_of p known)) same (step_is (question_of p known) z x d)
    says (step x) d z (Ok None) f = let n : ◌≡◌ {A = ℕ} 0 1 = cc in absurd (omega arith)
    says nothing_left d z (Ok (Some y)) f = let n : ◌≡◌ {A = ℕ} 0 1 = cc in absurd (omega arith)
    says nothing_left d z (Ok None) f = let l = left_known (question_of p known) z d in
        ap₂ (λ (y : ℕ) (n : ℕ). record { yes = y; no = n }) l.0 l.1
    says nothing_left d z (Err refusal) f = let n : ◌≡◌ {A = ℕ} 0 1 = cc in absurd (omega arith)
    says (step x) d z (Err refusal) f = let n : ◌≡◌ {A = ℕ} 0 1 = cc in absurd (omega arith)

    refuses_lem : (n : ℕ) → ((f : ℕ) → f < 2 ^ p.variables → models p f ≡ true → Between (given p) known (consequence_of p) → ⊥) → (r : StepAnswer)
        → r ≡ refuses n 0
        → IsNext (value p end) known r
    refuses_lem n why (Ok (Some y)) f = let z : ◌≡◌ {A = ℕ} 0 1 = cc in absurd (omega arith)
    refuses_lem n why (Ok None) f = let z : ◌≡◌ {A = ℕ} 0 1 = cc in absurd (omega arith)
    refuses_lem n why (Err refusal) f = why

    by : (h : Bool) → has_model p ≡ h → (k : Bool) → between (given p) known (consequence_of p) ≡ k → (a : Answer) → step_of (question_of p known) ≡ a
        → (r : StepAnswer) → r ≡ cond h (cond k (step_says a) (refuses 10 0)) (refuses 9 0) → IsNext (value p end) known r
    by true h true k a d r f = says a d (sound h k) r f
    by true h false k a d r f = refuses_lem 10 (λ g x m b. false≢true (sym k ∙ lies_between _ _ _ b)) r f
    by false h k l a d r f = refuses_lem 9 (λ g x m b. (no_filling p h).none g x m) r f

-- ---- the call

no_nine : (a : Answer) {at : ℕ} → step_says a ≡ refuses 9 at → ⊥
unfolding step_says
no_nine nothing_left d = let z : ◌≡◌ {A = ℕ} 0 1 = cc in omega arith
no_nine (step x) d = let z : ◌≡◌ {A = ℕ} 0 1 = cc in omega arith

pub step_call : {moment : Moment} {s : List ℕ} {on off : ℕ} {r : StepAnswer} → r ≡ step_answer on off (posed moment s) → StepCall s moment on off r
unfolding step_answer step_for
step_call {moment} {s} {on} {off} {r} e = record {
  said = e;
  is_next = is_next moment s (record { yes = on; no = off }) (posed moment s) refl r e;
  nine =
      rw e (nine_exactly (step_for (record { yes = on; no = off })) refuses nine_number
      (λ p at d. other p (between (given p) (record { yes = on; no = off }) (consequence_of p)) d) (Unit {0}) moment s);
}
  where
    other : (p : Problem) (k : Bool) {at : ℕ} → cond k (step_says (step_of (question_of p (record { yes = on; no = off })))) (refuses 10 0)
        ≡ refuses 9 at → ⊥
    other p true d = no_nine _ d
    other p false d = omega (arith, nine_number 10 0 _ d)

-- ---- the call, where no problem is made and where one is

module _ {moment : Moment} {s : List ℕ} {on off : ℕ} where
  pub step_refused : {r : Refusal} → NotTaken moment s r → StepCall s moment on off (Err r)
  unfolding step_answer with_model
  step_refused t = step_call (rw (t.posed, t.same) refl)

  pub step_taken : {p : kept.MaskedProblem} {a : StepAnswer} → Taken moment s p → a ≡ step_in p (record { yes = on; no = off }) → StepCall s moment on off a
  step_taken t f = step_call (rw (taken_posed t) ((rw t.same at f) ∙ step_says_lem t.well moment t.end on off))
