-- Demand 3 of the log that the meaning gives, for every proper problem with a model.
-- Assumes nothing.
use Rattle.std.specs.Prelude.{◌≡◌, true, cond, length}
use Rattle.std.proofs.Math.Path.{refl, sym}
use Rattle.std.proofs.Common.{◌∙◌, pow_mono}
use mathlib.Core.List.{List, [], ◌∷◌, ◌++◌, map}
use Prim.Native.Nat.{ℕ, zero, suc, ◌*◌, ◌^◌, ◌≤◌, ◌<◌}
use Rattle.std.proofs.Math.Nat.{le_trans}
use native.Mathlib.Omega.{arith}
use Rattle.std.specs.Int.Count.{ones-le}
use Rattle.std.proofs.lemmas.List.{length-map}
use Rattle.sets.specs.Sets.{union, count, Apart, bit}
use Rattle.sets.specs.Laws.Bits.{bit_le}
use Rattle.sets.specs.Laws.Count.{zero_of_ones}
use Rattle.sets.specs.Laws.Subset.{within_trans, diff_in, apart_within}
use Rattle.literals.specs.Literal.{Literal, literals_of, literal_of}
use Rattle.literals.specs.Truth.{yes_mask, no_mask}
use Rattle.literals.specs.declared.LiteralSet.{LiteralSet}
use Rattle.problem.specs.Problem.{Problem, given}
use Rattle.problem.specs.Proper.{ProperProblem}
use Rattle.consequence.specs.Meaning.{has_model, yes_consequence, no_consequence, consequence_of, theory_of}
use Rattle.consequence.specs.Demand2.{OverChoice, Always}
use Rattle.step.specs.Meaning.{question_of, Step, Answer, nothing_left, step, step_of, goals, yes_goals, no_goals}
use Rattle.step.specs.IsStep.{Sound}
use Rattle.step.specs.Theorems.{left_known}
use Rattle.step.specs.Laws.TheStep.{sound_sized, step_left, sound_forcing}
use Rattle.log_writer.specs.Laws.Explains as first
use Rattle.log_form.specs.Format.{log_bytes, is_log, read_log, rising_over}
use Rattle.log_writer.specs.Meaning.{with_new, run_from, run_of, run_for, record_of, costs_written, log_of}
use Rattle.log_writer.specs.Demand3.{In, Unknown, EachHolds, known_after, Demand3, Explained}
use Rattle.log_writer.specs.Laws.Growth as growth
use Rattle.log_form.specs.Laws.Reads.{AllFit, InForm, read_written}
use Rattle.log_form.specs.Laws.Lists.{each_literal, list_length_is, list_rises}
use Rattle.log_form.specs.Laws.Masks.{SameLiterals, same_listed, same_masks}
use Rattle.log_writer.specs.Laws.Lists.{no_zero}
use Rattle.log_writer.specs.Laws.OneStep.{filled_bit, bit_filled, goal_bit, forced, demand, step_holds, cost_small, step_fits, same_more}

module _ {p : Problem} (w : ProperProblem p) (some : has_model p ≡ true) where
  -- ---- the whole log

  record RunHolds (ks : List Literal) (known : LiteralSet) (ss : List Step) : Type 0 where
    each : EachHolds p ks (map record_of ss)
    fit : AllFit p.choices (map record_of ss)
    cheap : costs_written (map record_of ss) ≤ 65535 * length ss
    ends : SameLiterals (known_after ks (map record_of ss)) (yes_consequence p) (no_consequence p)
    few : length ss ≤ count (goals (question_of p known))

  follows_none : (ks : List Literal) (known : LiteralSet) → Sound (question_of p known) → SameLiterals ks known.yes known.no
      → step_of (question_of p known) ≡ nothing_left → RunHolds ks known []
  unfolding known_after costs_written
  follows_none ks known a st e =
      let l = left_known (question_of p known) a e in
      record { each = tt; fit = tt; cheap = omega arith; ends = rw (← l.0, ← l.1) st; few = omega arith }

  follows_more : (ks : List Literal) (known : LiteralSet) (s : Step) (rest : List Step) (a : Sound (question_of p known))
      (st : SameLiterals ks known.yes known.no) (e : step_of (question_of p known) ≡ step s)
      → RunHolds (ks ++ literals_of s.new_on s.new_off) (record { yes = union known.yes s.new_on; no = union known.no s.new_off }) rest
      → RunHolds ks known (s ∷ rest)
  unfolding known_after costs_written
  follows_more ks known s rest a st e f =
      record {
        each = (step_holds w a st e, f.each);
        fit = (step_fits w a st e, f.fit);
        cheap = omega (arith, f.cheap, cost_small w a st e);
        ends = f.ends;
        few = omega (arith, f.few, growth.goals_fewer (forced w) a e);
      }

  -- with as many turns as goals the end is reached
  follows : (turns : ℕ) (ks : List Literal) (known : LiteralSet) → Sound (question_of p known) → SameLiterals ks known.yes known.no
      → count (goals (question_of p known)) ≤ turns
      → RunHolds ks known (run_from turns (question_of p known))
  unfolding run_from with_new
  follows zero ks known a st c = follows_none ks known a st (step_left (question_of p known) (zero_of_ones _ (omega arith)))
  follows (suc turns) ks known a st c =
      go (step_of (question_of p known)) refl
      (λ s d.
      follows turns (ks ++ literals_of s.new_on s.new_off) (record { yes = union known.yes s.new_on; no = union known.no s.new_off })
      (growth.sound_more (forced w) a d) (same_more w a st d) (omega (arith, c, growth.goals_fewer (forced w) a d)))
    where
      go : (r : Answer) → step_of (question_of p known) ≡ r
          → ((s : Step) → step_of (question_of p known) ≡ step s
          → RunHolds (ks ++ literals_of s.new_on s.new_off) (record { yes = union known.yes s.new_on; no = union known.no s.new_off })
          (run_from turns (with_new (question_of p known) s)))
          → RunHolds ks known (elim r [ nothing_left ↦ [] | step s ↦ s ∷ run_from turns (with_new (question_of p known) s) ])
      go nothing_left d ih = follows_none ks known a st d
      go (step s) d ih = follows_more ks known s _ a st d (ih s d)

  facts_same : SameLiterals p.facts (yes_mask p.facts) (no_mask p.facts)
  facts_same = same_masks p.facts (no_zero p.facts w.facts_proper)

  -- the forced choices not given
  goals_apart : Apart (yes_goals (question_of p (given p))) (no_goals (question_of p (given p)))
  unfolding yes_goals no_goals
  goals_apart =
      apart_within (diff_in (yes_consequence p) (given p).yes) (diff_in (no_consequence p) (given p).no)
      (sound_forcing (question_of p (given p)) (first.first_known w some)).apart

  not_given_are : (l : Literal) → In l (literals_of (yes_goals (question_of p (given p))) (no_goals (question_of p (given p))))
      → Unknown p p.facts l × Always p l
  not_given_are =
      let same = same_listed _ _ goals_apart in
      each_literal _ (λ i. absurd (same.none_zero i)) (λ v says i.
      let d = sym (goal_bit p (given p) v says) ∙ same.in_bit v says i in
      let wanted : bit (cond says (yes_consequence p) (no_consequence p)) v ≡ 1 =
      omega (arith, d, bit_le (cond says (yes_consequence p) (no_consequence p)) v) in
      let t = (demand w).follows_always (literal_of v says) (bit_filled (consequence_of p) v says wanted) in
      ((t.0, λ k. omega (arith, d, facts_same.in_bit v says k, bit_le (cond says (yes_consequence p) (no_consequence p)) v)), t.1))

  not_given_rise : rising_over p.choices 0 (literals_of (yes_goals (question_of p (given p))) (no_goals (question_of p (given p)))) ≡ true
  unfolding yes_goals no_goals theory_of
  not_given_rise = list_rises _ _ _ (within_trans _ _ _ (diff_in _ _) (first.first_known w some).on_choices)
      (within_trans _ _ _ (diff_in _ _) (first.first_known w some).off_choices)

  -- what is known at the end is the consequence
  known_all : {ks : List Literal} → SameLiterals ks (yes_consequence p) (no_consequence p) → (l : Literal) → OverChoice p l → Always p l → In l ks
  known_all st =
      each_literal _ (λ o r. absurd o)
      (λ v says o r. st.bit_in v says (filled_bit (consequence_of p) v says ((demand w).all_filled_in (literal_of v says) o r)))

  all_known_lem : {ks : List Literal} → SameLiterals ks (yes_consequence p) (no_consequence p) → (l : Literal) → In l ks → OverChoice p l × Always p l
  all_known_lem st =
      each_literal _ (λ i. absurd (st.none_zero i))
      (λ v says i. (demand w).follows_always (literal_of v says) (bit_filled (consequence_of p) v says (st.in_bit v says i)))

  -- few goals, so that the total fits its bytes
  goals_few : count (goals (question_of p (given p))) ≤ p.variables
  unfolding goals theory_of
  goals_few = ones-le p.variables _ (sound_sized (question_of p (given p)) (first.first_known w some)).goals_below

  in_form : (ss : List Step) → RunHolds p.facts (given p) ss → InForm p.choices (log_of ss)
  in_form ss f = record { each = f.fit; total_fits = omega (arith, f.cheap, f.few, goals_few, w.few_variables) }

  demand_of : (ss : List Step) → RunHolds p.facts (given p) ss → Demand3 p (log_bytes (log_of ss))
  unfolding goals
  demand_of ss f =
      record {
        log = log_of ss;
        written = refl;
        read = read_written p.choices (log_of ss) choices_small (in_form ss f);
        each = f.each;
        counted = sym (length-map ss record_of);
        not_given = literals_of (yes_goals (question_of p (given p))) (no_goals (question_of p (given p)));
        all_not_given = not_given_are;
        not_given_rises = not_given_rise;
        few = omega (arith, f.few, list_length_is (yes_goals (question_of p (given p))) (no_goals (question_of p (given p))));
        summed = refl;
        consequence_known = known_all f.ends;
        known_consequence = all_known_lem f.ends;
      }
    where
      choices_small : p.choices < 2 ^ 127
      choices_small = let few : p.variables ≤ 127 = omega (arith, w.few_variables) in le_trans w.choices_below (pow_mono few)

  steps_hold : RunHolds p.facts (given p) (run_for p)
  unfolding run_for run_of
  steps_hold = follows _ p.facts (given p) (first.first_known w some) facts_same (omega arith)

  pub explained : Explained p (log_bytes (log_of (run_for p))) (length (run_for p)) (costs_written (map record_of (run_for p)))
  unfolding demand_of
  explained = record { demand = demand_of (run_for p) steps_hold; steps_said = refl; total_said = refl }

  -- its bytes are read back as it
  pub reads_back : read_log p.choices (log_bytes (log_of (run_for p))) ≡ is_log (log_of (run_for p))
  unfolding explained demand_of
  reads_back = explained.demand.read
