-- Steps and runs of two problems with the same choices, costs, given facts and fillings of the choices are the same (E1). Assumes nothing.
use Rattle.std.specs.Prelude.{◌≡◌, true}
use Rattle.std.proofs.Math.Path.{refl, sym, ap}
use Rattle.std.proofs.Common.{◌∙◌}
use mathlib.Core.List.{List, [], ◌∷◌}
use Prim.Native.Nat.{ℕ, zero, suc}
use Rattle.sets.specs.Sets.{union}
use Rattle.literals.specs.declared.LiteralSet.{LiteralSet}
use Rattle.problem.specs.Problem.{Problem, given}
use Rattle.problem.specs.Proper.{ProperProblem}
use Rattle.consequence.specs.Meaning.{Theory, has_model, consequence_of, theory_of}
use Rattle.consequence.specs.SameFillings.{SameChoices, SameOverChoices}
use Rattle.consequence.proofs.SameFillings.{theories_same, given_same, same_has_model, same_consequence}
use Rattle.step.specs.Meaning.{asking, question_of, Step, Answer, nothing_left, step, step_of, goals, yes_goals, no_goals}
use Rattle.step.specs.IsStep.{ForcedBy, Sound}
use Rattle.step.specs.Theorems.{same_step}
use Rattle.log_writer.specs.Meaning.{with_new, run_from, run_of, run_for}
use Rattle.log_writer.specs.Laws.Growth.{sound_more}
use Rattle.log_writer.specs.Laws.OneStep.{forced}
use Rattle.log_writer.specs.Laws.Explains.{first_known}

-- ---- two theories, one consequence

module _ {t u : Theory} (s : SameChoices t u) (table : List (List ℕ)) {c facts : LiteralSet} (here : ForcedBy t c facts) (there : ForcedBy u c facts) where
  same_from : (turns : ℕ) (known : LiteralSet) → Sound (asking t table c known) → Sound (asking u table c known)
      → run_from turns (asking t table c known) ≡ run_from turns (asking u table c known)
  unfolding run_from with_new
  same_from zero known x y = refl
  same_from (suc turns) known x y =
      go (step_of (asking t table c known)) (λ a d.
      same_from turns (record { yes = union known.yes a.new_on; no = union known.no a.new_off }) (sound_more here x d)
      (sound_more there y (sym same ∙ d)))
      ∙ ap (λ (r : Answer). elim r [ nothing_left ↦ [] | step a ↦ a ∷ run_from turns (with_new (asking u table c known) a) ]) same
    where
      same : step_of (asking t table c known) ≡ step_of (asking u table c known)
      same = same_step s table c known x y

      go : (r : Answer)
          → ((a : Step) → r ≡ step a → run_from turns (with_new (asking t table c known) a) ≡ run_from turns (with_new (asking u table c known) a))
          → ◌≡◌ {A = List Step} (elim r [ nothing_left ↦ [] | step a ↦ a ∷ run_from turns (with_new (asking t table c known) a) ])
          (elim r [ nothing_left ↦ [] | step a ↦ a ∷ run_from turns (with_new (asking u table c known) a) ])
      go nothing_left ih = refl
      go (step a) ih = ap (λ (l : List Step). a ∷ l) (ih a refl)

  same_of : (known : LiteralSet) → Sound (asking t table c known) → Sound (asking u table c known)
      → run_of (asking t table c known) ≡ run_of (asking u table c known)
  unfolding run_of goals yes_goals no_goals
  same_of known x y = same_from _ known x y

-- ---- two problems

module _ {p q : Problem} (w : ProperProblem p) (z : ProperProblem q) (s : SameOverChoices p q) where
  -- what is asked with the rules of the other, in the words of the one
  asked : (known : LiteralSet) → question_of q known ≡ asking (theory_of q) p.costs (consequence_of p) known
  asked known = λ i. asking (theory_of q) (sym s.same_costs i) (sym (same_consequence w z s) i) known

  -- the next step from a known set
  pub same_next : (known : LiteralSet) → Sound (question_of p known) → Sound (question_of q known) → step_of (question_of p known) ≡ step_of (question_of q known)
  same_next known x y =
      same_step (theories_same w z s) p.costs (consequence_of p) known x (rw (asked known) at y) ∙ sym (ap step_of (asked known))

  -- what the given facts force with the rules of the other
  forced_there : ForcedBy (theory_of q) (consequence_of p) (given p)
  forced_there = rw (same_consequence w z s, given_same w z s) (forced z)

  -- the steps of the log
  pub same_run : has_model p ≡ true → run_for p ≡ run_for q
  unfolding run_for
  same_run some =
      same_of (theories_same w z s) p.costs (forced w) forced_there (given p) (first_known w some) (rw (facts_asked) at first)
      ∙ sym (ap run_of facts_asked)
    where
      facts_asked : question_of q (given q) ≡ asking (theory_of q) p.costs (consequence_of p) (given p)
      facts_asked = ap (question_of q) (sym (given_same w z s)) ∙ asked (given p)

      first : Sound (question_of q (given q))
      first = first_known z (sym (same_has_model w z s) ∙ some)
