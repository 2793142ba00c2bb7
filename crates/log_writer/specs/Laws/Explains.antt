-- That the given facts of a proper problem with a model contradict nothing, and that the first step can be asked. The proof of demand 3: proofs/Explains.
-- Assumes nothing.
use Rattle.std.specs.Prelude.{◌≡◌, true, false}
use Rattle.std.proofs.Math.Path.{sym}
use Rattle.std.proofs.Common.{◌∙◌}
use Rattle.std.proofs.lemmas.Bool.{not-true}
use Rattle.problem.specs.Problem.{Problem, given}
use Rattle.problem.specs.Proper.{ProperProblem}
use Rattle.consequence.specs.Meaning.{has_model, theory_of, contradicts}
use Rattle.consequence.specs.Laws.Problems.{has_contradicts}
use Rattle.step.specs.Meaning.{question_of}
use Rattle.step.specs.IsStep.{Sound}
use Rattle.step.specs.Laws.Given as facts
use Rattle.log_writer.specs.Laws.OneStep.{choices_below, forced}

module _ {p : Problem} (w : ProperProblem p) (some : has_model p ≡ true) where
  pub consistent : contradicts (theory_of p) (given p).yes (given p).no ≡ false
  consistent = not-true _ (sym (has_contradicts p w.facts_proper) ∙ some)

  pub first_known : Sound (question_of p (given p))
  unfolding theory_of
  first_known =
      facts.between_sound (choices_below w) (forced w) consistent p.costs (facts.given_between (choices_below w) (forced w) w.yes_facts w.no_facts)
