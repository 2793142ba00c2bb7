-- Books with the same screens are answered alike (E1): from the contracts of the calls, and the laws of two problems with the same fillings of the choices.
-- Assumes nothing.
use mathlib.Core.Path.{◌≡◌, refl, sym, ap, ap₂, subst, ◌∙◌}
use mathlib.Core.Logic.{◌⊎◌, inl, inr, by_cases}
use mathlib.Core.Bool.{Bool, true, false, cond}
use mathlib.Core.List.{List}
use Prim.Native.Nat.{ℕ, ◌≤◌, ◌<◌}
use native.Mathlib.Decide.{dec_lt}
use native.Mathlib.Omega.{arith}
use lib.ListN.{length}
use borrow.Author.Tests.{le-ltb, lt-ltb}
use Rattle.sets.specs.Sets.{bit, full, inter}
use Rattle.sets.specs.Laws.Bits.{bit_le, bit_full, bit_full_high, bit_inter, ext}
use Rattle.dates.specs.declared.Moment.{Moment}
use Rattle.literals.specs.declared.LiteralSet.{LiteralSet}
use Rattle.records.specs.Limits.{max_log}
use Rattle.records.specs.Format.{value, OrderBook}
use Rattle.book.specs.Answer.{table}
use Rattle.problem.specs.Problem.{Problem, problem_of, given}
use Rattle.problem.specs.Proper.{ProperProblem}
use Rattle.sat.specs.Laws.Rules.{rules_each, each_rules}
use Rattle.first_model.specs.Meaning.{weight, First}
use Rattle.first_model.proofs.Laws.Order.{agree_weight, weight_agree, first_weight}
use Rattle.consequence.specs.Meaning.{has_model, consequence_of, theory_of, ModelOf}
use Rattle.consequence.specs.SameFillings.{Restriction, SameOverChoices}
use Rattle.consequence.specs.Algorithm2.{ModelFilling}
use Rattle.consequence.specs.Laws.Problems.{model_filling, filling_model, no_filling}
use Rattle.consequence.proofs.SameFillings.{agreeing_model, theories_same, given_same, same_has_model, same_consequence}
use Rattle.step.specs.Meaning.{question_of, Step, step_of}
use Rattle.log_form.specs.Format.{Log, log_bytes}
use Rattle.log_writer.specs.Meaning.{run_for, log_of}
use Rattle.log_writer.specs.Laws.SameFillings.{same_next, same_run}
use Rattle.std.specs.Prelude.{Ok}
use Rattle.records.specs.Refusals.{refuses}
use Rattle.engine.specs.Calls.{ModelAnswer, ConsequenceAnswer, StepAnswer, LogAnswer}
use Rattle.engine.specs.Calls.{posed, with_model, first_model, model_answer, ModelCall, consequence_answer, ConsequenceCall, between}
use Rattle.engine.specs.Calls.{step_says, step_for, step_answer, StepCall, LogOutcome, logged, refused_with, log_outcome, log_answer, buffer_after, LoggedAs}
use Rattle.engine.specs.Calls.{LogCall}
use Rattle.engine.specs.SameScreens.{SameScreens, Reordered, Retyped, BothNine, EqualLogs, SameLogs, choices_in, SameChosen, SameModels, SameAnswers}
use Rattle.engine.proofs.NineLaws.{none_has, after_nine}
use Rattle.engine.proofs.FirstModel.{first_model_lem}
use Rattle.engine.proofs.PosedLaws.{posed_book, posed_proper}
use Rattle.engine.proofs.StepLaws.{sound_between}

-- ---- two problems

-- the problems of two such books
problems_same : {moment : Moment} {b c : OrderBook} → SameScreens moment b c → SameOverChoices (problem_of moment b) (problem_of moment c)
unfolding problem_of
problems_same x =
    record { same_choices = ap full x.same_choices; same_costs = ap table x.same_costs; same_facts = x.same_facts; same_fillings = x.same_fillings }

module _ {p q : Problem} (w : ProperProblem p) (z : ProperProblem q) (x : SameOverChoices p q) where
  has_same : has_model p ≡ has_model q
  has_same = same_has_model w z x

  -- the step from a known set, or 10
  step_same : (known : LiteralSet) → has_model p ≡ true → step_for known p ≡ step_for known q
  unfolding step_for
  step_same known some =
      go (between (given p) known (consequence_of p)) refl
      ∙ ap (λ (b : Bool). cond b (step_says (step_of (question_of q known))) (refuses 10 0)) lies_same
    where
      lies_same : between (given p) known (consequence_of p) ≡ between (given q) known (consequence_of q)
      lies_same = ap₂ (λ (g : LiteralSet) (c : LiteralSet). between g known c) (given_same w z x) (same_consequence w z x)

      go : (b : Bool) → between (given p) known (consequence_of p) ≡ b
          → cond b (step_says (step_of (question_of p known))) (refuses 10 0)
          ≡ cond b (step_says (step_of (question_of q known))) (refuses 10 0)
      go true e = ap step_says (same_next w z x known (sound_between w some known e) (sound_between z (sym has_same ∙ some) known (sym lies_same ∙ e)))
      go false e = refl

-- ---- two first models

over_choices_back : {p q : Problem} → SameOverChoices p q → SameOverChoices q p
over_choices_back x =
    record {
      same_choices = sym x.same_choices;
      same_costs = sym x.same_costs;
      same_facts = sym x.same_facts;
      same_fillings = record { there = x.same_fillings.back; back = x.same_fillings.there };
    }

-- over the choices, which are the first variables, a model of the one is a model of the other: the first model of the one weighs no more than any of them
chosen_weight : {p q : Problem} (w : ProperProblem p) (z : ProperProblem q) (x : SameOverChoices p q) (k : ℕ) → p.choices ≡ full k → {f g : ℕ}
    → First (ModelFilling p) f → ModelFilling q g → weight k f ≤ weight k g
unfolding theory_of
chosen_weight {p} {q} w z x k e {f} {g} a m =
    let y = over_choices_back x in
    let h = agreeing_model (theories_same z w y) z.yes_facts z.no_facts g (filling_model q z.facts_proper g m) in
    let there = subst (λ (l : LiteralSet). ModelOf (theory_of p) l.yes l.no h.filling) (given_same z w y) h.model in
    let same : (v : ℕ) → v < k → bit h.filling v ≡ bit g v =
    λ v l. omega (arith, h.alike v, ap (λ (c : ℕ). bit c v) e, bit_full k v l, bit_le g v, bit_le h.filling v) in
    omega (arith, first_weight a k h.filling (model_filling p w.facts_proper h.filling there), agree_weight k h.filling g same)

-- ---- one log

-- a problem with a buffer that is long enough: the log, or 9
log_or_nine : Problem → LogOutcome
log_or_nine p = cond (has_model p) (logged (log_of (run_for p))) (refused_with 9 0)

module _ (moment : Moment) (s : List ℕ) {p : Problem} {end : ℕ} (e : posed moment s ≡ value p end) where
  long_enough : (room : ℕ) → max_log ≤ room → log_outcome room (posed moment s) ≡ log_or_nine p
  unfolding log_outcome with_model log_or_nine
  long_enough room l = rw (e, le-ltb room max_log l, log_outcome) refl

  came_to : {before after : List ℕ} {r : LogAnswer} → LogCall s moment before after r → max_log ≤ length before → LoggedAs (log_or_nine p) before after r
  came_to {before} c l = rw (long_enough (length before) l) at c.said

  -- and with one that is short: 8
  gives_eight : {before after : List ℕ} {r : LogAnswer} → LogCall s moment before after r → length before < max_log
      → (r ≡ refuses 8 0) × (after ≡ before)
  unfolding log_outcome log_answer buffer_after
  gives_eight {before} c l = let k = rw (e, lt-ltb (length before) max_log l, log_outcome) at c.said in (k.answered, k.buffer)

-- one log into two buffers
module _ {before after other_before other_after : List ℕ} {r o : LogAnswer} where
  one_log : (p : Problem) → LoggedAs (log_or_nine p) before after r → LoggedAs (log_or_nine p) other_before other_after o
      → EqualLogs before after r other_before other_after o ⊎ BothNine refuses r o
  unfolding log_or_nine log_answer buffer_after
  one_log p = go (has_model p) (log_of (run_for p))
    where
      go : (h : Bool) (l : Log) → LoggedAs (cond h (logged l) (refused_with 9 0)) before after r
          → LoggedAs (cond h (logged l) (refused_with 9 0)) other_before other_after o
          → EqualLogs before after r other_before other_after o ⊎ BothNine refuses r o
      go true l c d =
          inl (record {
            bytes = log_bytes l;
            steps = l.steps;
            total = l.total;
            written = c.answered;
            other_written = d.answered;
            buffer = c.buffer;
            other_buffer = d.buffer;
          })
      go false l c d = inr (c.answered, d.answered)

-- ---- two books

module _ {moment : Moment} {s t : List ℕ} (x : Retyped moment s t) where
  -- The two problems.
  abbrev one : Problem
  one = problem_of moment x.books.book

  abbrev other : Problem
  other = problem_of moment x.books.other

  here : posed moment s ≡ value one x.books.end
  here = posed_book moment s x.possible x.books.accepted

  there : posed moment t ≡ value other x.books.other_end
  there = posed_book moment t x.possible x.books.other_accepted

  w : ProperProblem one
  w = posed_proper moment s here

  z : ProperProblem other
  z = posed_proper moment t there

  alike : SameOverChoices one other
  alike = problems_same x.books.same

  -- the answers by `with_model`
  answers_same : {A : Type 0} (answer : Problem → A) (refuse : ℕ → ℕ → A)
      → (has_model one ≡ true → answer one ≡ answer other)
      → with_model answer refuse (posed moment s) ≡ with_model answer refuse (posed moment t)
  unfolding with_model
  answers_same answer refuse h = rw (here, there, with_model) (after_nine _ _ (has_same w z alike) _ _ _ h)

  consequence_same : {r o : ConsequenceAnswer} → ConsequenceCall s moment r → ConsequenceCall t moment o → r ≡ o
  unfolding consequence_answer
  consequence_same c d =
      c.said
      ∙ answers_same (λ p. Ok (consequence_of p)) refuses
      (λ some. ap Ok (same_consequence w z alike)) ∙ sym d.said

  next_same : {on off : ℕ} {r o : StepAnswer} → StepCall s moment on off r → StepCall t moment on off o → r ≡ o
  unfolding step_answer
  next_same {on} {off} c d =
      let known : LiteralSet = record { yes = on; no = off } in
      c.said ∙ answers_same (step_for known) refuses (λ some. step_same w z alike known some) ∙ sym d.said

  -- ---- the log

  -- with rooms that are long enough both calls come to the same
  outcome_same : log_or_nine one ≡ log_or_nine other
  unfolding log_or_nine
  outcome_same = after_nine _ _ (has_same w z alike) _ _ _ (λ some. ap (λ (ss : List Step). logged (log_of ss)) (same_run w z alike some))

  pub outcomes_same : (room least : ℕ) → max_log ≤ room → max_log ≤ least → log_outcome room (posed moment s) ≡ log_outcome least (posed moment t)
  outcomes_same room least l k = long_enough moment s here room l ∙ outcome_same ∙ sym (long_enough moment t there least k)

  logs_same : SameLogs moment s t
  logs_same = record {
    equal = λ c d l k. one_log _ (came_to moment s here c l) (rw (sym outcome_same) at (came_to moment t there d k));
    short = λ c l. gives_eight moment s here c l;
    other_short = λ c l. gives_eight moment t there c l;
    nine = λ c d l k m n. (c.nine.none_nine l m, d.nine.none_nine k n);
  }

  -- ---- one model

  -- the first models are the same over the choices
  chosen_same : {f g : ℕ} → First (ModelFilling one) f → First (ModelFilling other) g → inter f one.choices ≡ inter g one.choices
  unfolding problem_of
  chosen_same {f} {g} a c =
      let k = x.books.book.header.choices in
      let same = weight_agree k f g (omega (
        arith,
        chosen_weight w z alike k refl a c.among,
        chosen_weight z w (over_choices_back alike) k (ap full (sym x.books.same.same_choices)) c a.among,
      )) in
      ext (inter f (full k)) (inter g (full k)) (λ v. by_cases (dec_lt v k)
      (λ l. omega (arith, bit_inter f (full k) v, bit_inter g (full k) v, same v l))
      (λ l. omega (arith, bit_inter f (full k) v, bit_inter g (full k) v, bit_full_high k v (omega arith))))

  both_models : {r o : ModelAnswer} → ModelCall s moment r → ModelCall t moment o → SameChosen (choices_in (posed moment s)) r o ⊎ BothNine refuses
      r o
  unfolding model_answer with_model
  both_models {r} {o} c d =
      rw here (go (has_model one) refl (rw (here, with_model) at c.said)
      (rw (there, with_model, ← (has_same w z alike)) at d.said))
    where
      go : (h : Bool) → has_model one ≡ h
          → r ≡ cond h (Ok (first_model one)) (refuses 9 0)
          → o ≡ cond h (Ok (first_model other)) (refuses 9 0)
          → SameChosen one.choices r o ⊎ BothNine refuses r o
      go true e a b =
          inl (record {
            filling = first_model one;
            answered = a;
            other_filling = first_model other;
            other_answered = b;
            same_chosen = chosen_same (first_model_lem _ e) (first_model_lem _ (sym (has_same w z alike) ∙ e));
          })
      go false e a b = inr (a, b)

  models_same : SameModels moment s t
  models_same = record {
    none_there = λ n. rw there (no_filling _ (sym (has_same w z alike) ∙ none_has _ (rw here at n)));
    none_back = λ n. rw here (no_filling _ (has_same w z alike ∙ none_has _ (rw there at n)));
    both = both_models;
  }

  -- ---- all calls

  pub same_screens : SameAnswers moment s t
  same_screens = record { models = models_same; consequence = consequence_same; next_step = next_same; logs = logs_same }

-- ---- rules in another order

reordered_back : {moment : Moment} {b c : OrderBook} → Reordered moment b c → Reordered moment c b
reordered_back x = record { same_variables = sym x.same_variables; rules_there = x.rules_back; rules_back = x.rules_there }

-- a filling obeys rules that are all among others which it obeys
reordered_fillings : {moment : Moment} {b c : OrderBook} → Reordered moment b c → b.header.choices ≡ c.header.choices → (g : ℕ)
    → Restriction (theory_of (problem_of moment b)) g → Restriction (theory_of (problem_of moment c)) g
unfolding problem_of theory_of
reordered_fillings x choices g r =
    record {
      filling = r.filling;
      below = rw x.same_variables at r.below;
      obeyed = each_rules _ _ (λ l m. rules_each _ _ r.obeyed l (x.rules_back l m));
      restricted = rw choices at r.restricted;
    }

pub reordered_same : {moment : Moment} {b c : OrderBook} → Reordered moment b c → b.header.choices ≡ c.header.choices → b.costs ≡ c.costs
    → b.facts ≡ c.facts → SameScreens moment b c
reordered_same x choices costs facts =
    record {
      same_choices = choices;
      same_costs = costs;
      same_facts = facts;
      same_fillings = record { there = reordered_fillings x choices; back = reordered_fillings (reordered_back x) (sym choices) };
    }
