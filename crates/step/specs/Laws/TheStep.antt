-- The step that is answered is the step, for every filling and every candidate. Assumes nothing.
use Rattle.std.specs.Prelude.{◌≡◌, Bool, true, false, not, List}
use Rattle.std.proofs.Math.Path.{refl, ap, subst}
use Rattle.std.proofs.Common.{sym, ap₂, subst₂, ◌∙◌, eq-eqb, ne_eqb}
use Rattle.std.proofs.Math.Logic.{by_cases}
use Prim.Native.Nat.{ℕ, ◌≤◌, ◌<◌}
use Rattle.std.proofs.Math.Decide.{ℕ_discrete}
use native.Mathlib.Omega.{arith}
use Rattle.std.proofs.lemmas.Bool.{not-true}
use Rattle.sets.specs.Sets.{bit, has, union, diff, Within}
use Rattle.sets.specs.Laws.Bits.{bit_le, bit_zero, bit_union, bit_diff, pos_of_member, ext}
use Rattle.sets.specs.Laws.Subset.{one_has, zero_has, within_le, inter_in, has_true, has_false}
use Rattle.sets.specs.Laws.Least.{trailing_least}
use Rattle.literals.specs.Truth.{holds}
use Rattle.literals.specs.declared.LiteralSet.{LiteralSet}
use Rattle.literals.specs.Literal.{literal_of}
use Rattle.propagation.specs.Promises.{digit}
use Rattle.consequence.specs.Meaning.{yes_forced, no_forced, ModelOf, NoModelOf}
use Rattle.consequence.specs.Laws.Forcing.{Exactly, yes_exactly, no_exactly}
use Rattle.consequence.specs.Laws.Masks.{theory_assigned, to_theory, of_theory}
use Rattle.witnesses.specs.Laws.Questions.{opposite}
use Rattle.step.specs.Meaning.{Question, set_cost, yes_goals, goals, goal_literal, reasons_on, reasons_off, candidate_cost, Candidate, candidate}
use Rattle.step.specs.Meaning.{first_of, candidates, all_known, the_step, Step, nothing_left, step, new_on, new_off, step_from, answer_with, step_of}
use Rattle.step.specs.Meaning.{no_goals}
use Rattle.step.specs.Promises.{Picks, Asked, mask_question}
use Rattle.step.specs.Laws.Order.{TotalPreorder, upto_order, lex_le}
use Rattle.step.specs.IsStep.{Sound, opposite_on, opposite_off, Goal, Candidature, Upto, placed, New, Gained, IsStep}
use Rattle.step.specs.Laws.Known.{Forcing, goals_at, is_goal_lem, against_on_lem, against_off_lem, reasons_union, goal_is, candidature_picks, candidature_cost}
use Rattle.step.specs.Laws.Known.{all_picked, open_unknown}
use Rattle.step.specs.Laws.Candidates.{Sized, Stepped, first_stepped, picks_goal}

-- ---- the two answers

module _ (q : Question) where
  pub answer_left : (c : Candidate) → goals q ≡ 0 → answer_with q c ≡ nothing_left
  unfolding answer_with
  answer_left c e = rw (eq-eqb (goals q) 0 e, answer_with) refl

  pub answer_open : (c : Candidate) → (goals q ≡ 0 → ⊥) → answer_with q c ≡ step (step_from q c)
  unfolding answer_with
  answer_open c e = rw (ne_eqb (goals q) 0 e, answer_with) refl

  -- the step of a candidate is answered where a goal is left
  pub answer_is : (c : Candidate) (s : Step) → answer_with q c ≡ step s → (goals q ≡ 0 → ⊥) × (step_from q c ≡ s)
  answer_is c s e = (left, let o = answer_open c left in cc)
    where
      left : goals q ≡ 0 → ⊥
      left z = let a = answer_left c z in let n : ◌≡◌ {A = ℕ} 0 1 = cc in omega arith

  pub answer_none : (c : Candidate) → answer_with q c ≡ nothing_left → goals q ≡ 0
  answer_none c e =
      by_cases (ℕ_discrete (goals q) 0) (λ z. z)
      (λ z. let o = answer_open c z in let n : ◌≡◌ {A = ℕ} 0 1 = cc in absurd (omega arith))

  pub step_left : goals q ≡ 0 → step_of q ≡ nothing_left
  unfolding step_of
  step_left e = answer_left (the_step q) e

  pub step_open : (goals q ≡ 0 → ⊥) → step_of q ≡ step (step_from q (the_step q))
  unfolding step_of
  step_open e = answer_open (the_step q) e

-- ---- a literal and the digit of its variable

pub holds_digit : (f v : ℕ) (b : Bool) → bit f v ≡ digit b → holds f (literal_of v b) ≡ true
unfolding holds
holds_digit f v true e = one_has f v e
holds_digit f v false e = ap not (zero_has f v e)

pub digit_holds : (f v : ℕ) (b : Bool) → holds f (literal_of v b) ≡ true → bit f v ≡ digit b
unfolding holds
digit_holds f v true e = has_true f v e
digit_holds f v false e = has_false f v (not-true (has f v) e)

module _ (q : Question) (z : Sound q) where
  pub sound_forcing : Forcing q
  sound_forcing =
      record {
        known_on = z.known_on;
        known_off = z.known_off;
        apart = record { avoids = λ v. omega (arith, z.model.1.keeps.keeps v, z.model.1.avoids.avoids v, bit_le z.model.0 v) };
        forces = z.forces;
      }

  -- a goal is over a choice, and its variable is not known
  pub goals_choices : Within (goals q) q.theory.choices
  goals_choices =
      record { keeps = λ v. omega (arith, goals_at q v, z.on_choices.keeps v, z.off_choices.keeps v, bit_le q.con_on v, bit_le q.con_off v) }

  pub goal_unknown : (v : ℕ) → bit (goals q) v ≡ 1 → (bit q.theory.choices v ≡ 1) × (bit q.known_on v ≡ 0) × (bit q.known_off v ≡ 0)
  unfolding goals yes_goals no_goals
  goal_unknown v e =
      let u = open_unknown v z.known_on z.known_off sound_forcing.apart e in
      (omega (arith, e, goals_choices.keeps v, bit_le q.theory.choices v), u.0, u.1)

  pub sound_sized : Sized q
  sound_sized =
      record {
        goals_below = omega (arith, z.choices_below, within_le (goals q) q.theory.choices goals_choices);
        known_below = omega (arith, z.choices_below, within_le (union q.known_on q.known_off) q.theory.choices (record { keeps = known_choice }));
      }
    where
      known_choice : (v : ℕ) → bit (union q.known_on q.known_off) v ≤ bit q.theory.choices v
      known_choice v =
          omega (
            arith,
            bit_union q.known_on q.known_off v,
            z.known_on.keeps v,
            z.known_off.keeps v,
            z.on_choices.keeps v,
            z.off_choices.keeps v,
          )

  -- what is forced
  forced_by : (on off v : ℕ) (b : Bool) → NoModelOf q.theory (opposite_on b on v) (opposite_off b off v) → (f : ℕ) → ModelOf q.theory on off f
      → bit f v ≡ digit b
  forced_by on off v b n f m =
      by_cases (ℕ_discrete (bit f v) (digit b)) (λ e. e)
      (λ d. absurd (n.none f (theory_assigned (opposite b on off v) m (other b d))))
    where
      other : (b : Bool) → (bit f v ≡ digit b → ⊥) → bit f v ≡ digit (not b)
      other true d = omega (arith, bit_le f v)
      other false d = omega (arith, bit_le f v)

  -- the new literals
  new_is : (on off d known m : ℕ) → Exactly q.theory on off d m → New q.theory on off d known (diff m known)
  new_is on off d known m x =
      record {
        sound = λ v e.
            let i : bit m v ≡ 1 = omega (arith, e, bit_diff m known v, bit_le m v) in
            let s = x.sound v i in
            (s.0, omega (arith, e, bit_diff m known v, bit_le m v), s.1);
        complete = λ v h c o a. omega (arith, bit_diff m known v, x.complete v h c a);
      }

  pub from_stepped : (c : Candidate) → Stepped q Upto c → IsStep q (step_from q c)
  unfolding step_from goal_literal new_on new_off reasons_on reasons_off candidate candidate_cost
  from_stepped c t =
      record {
        variable = v;
        says = b;
        goal_said = refl;
        is_candidate = it;
        cost_said = costs;
        forced = λ f m. holds_digit f v b (forced_by on off v b it.contradicts f m);
        first = λ a o u y k. first a o u y k;
        cheapest = λ a o u y k. omega (arith, costs, lex_le (first a o u y k));
        new_yes = yes_new;
        new_no = no_new;
        gained = gains b refl;
      }
    where
      v : ℕ
      v = c.goal

      b : Bool
      b = has (yes_goals q) v

      on : ℕ
      on = reasons_on q c.reasons

      off : ℕ
      off = reasons_off q c.reasons

      p : Picks q v c.reasons
      p = t.listed.picks

      g : Goal q v b
      g = is_goal_lem q sound_forcing v p.goal b refl

      it : Candidature q on off v b
      it =
          record {
            on_known = inter_in c.reasons q.known_on;
            off_known = inter_in c.reasons q.known_off;
            goal = g;
            contradicts = rw (← against_on_lem q sound_forcing c.reasons v b g, ← against_off_lem q sound_forcing c.reasons v b g) p.refuted;
          }

      costs : c.cost ≡ (placed q on off v b).cost
      costs =
          ap (λ (d : Candidate). d.cost) t.listed.is
          ∙ ap₂ (λ (x : ℕ) (y : ℕ). set_cost q.table q.theory.variables x y)
          (against_on_lem q sound_forcing c.reasons v b g) (against_off_lem q sound_forcing c.reasons v b g)

      first : (a o u : ℕ) (y : Bool) → Candidature q a o u y → Upto (placed q on off v b) (placed q a o u y)
      first a o u y k = subst₂ Upto mine theirs (t.first u (union a o) (candidature_picks q sound_forcing a o u y k))
        where
          mine : c ≡ placed q on off v b
          mine = λ i. record { cost = costs i; goal = v; reasons = sym (reasons_union q sound_forcing c.reasons p.known) i }

          theirs : candidate q u (union a o) ≡ placed q a o u y
          theirs = λ i. record { cost = candidature_cost q sound_forcing a o u y k i; goal = u; reasons = union a o }

      yes_new : New q.theory on off 1 q.known_on (diff (yes_forced q.theory on off) q.known_on)
      yes_new = new_is on off 1 q.known_on (yes_forced q.theory on off) (yes_exactly q.theory on off)

      no_new : New q.theory on off 0 q.known_off (diff (no_forced q.theory on off) q.known_off)
      no_new = new_is on off 0 q.known_off (no_forced q.theory on off) (no_exactly q.theory on off)

      below : v < q.theory.variables
      below = picks_goal q v c.reasons sound_sized p

      out : (bit q.theory.choices v ≡ 1) × (bit q.known_on v ≡ 0) × (bit q.known_off v ≡ 0)
      out = goal_unknown v p.goal

      gains : (y : Bool) → b ≡ y → Gained (step_from q c) v y
      gains true e = yes_new.complete v below out.0 out.1 (λ f m. forced_by on off v b it.contradicts f m ∙ ap digit e)
      gains false e = no_new.complete v below out.0 out.2 (λ f m. forced_by on off v b it.contradicts f m ∙ ap digit e)

  -- ---- the answer

  -- the candidate that is taken in an order, where a goal is left
  pub first_taken : {order : Candidate → Candidate → Bool} {Le : Candidate → Candidate → Type 0} → TotalPreorder order Le → (goals q ≡ 0 → ⊥)
      → Stepped q Le (first_of order (all_known q) (candidates q))
  unfolding all_known candidate
  first_taken o ne =
      let h : 0 < goals q = omega arith in
      first_stepped q o sound_sized
      (all_picked q sound_forcing _ (trailing_least q.theory.variables (goals q) h sound_sized.goals_below).member)

  pub taken : (goals q ≡ 0 → ⊥) → Stepped q Upto (the_step q)
  unfolding the_step
  taken ne = first_taken upto_order ne

  -- the step that is answered is the step
  pub step_is : (s : Step) → step_of q ≡ step s → IsStep q s
  unfolding step_of
  step_is s e = let w = answer_is q (the_step q) s e in subst (IsStep q) w.1 (from_stepped (the_step q) (taken w.0))

  -- nothing is left exactly where K is the consequence
  pub left_known : step_of q ≡ nothing_left → (q.known_on ≡ q.con_on) × (q.known_off ≡ q.con_off)
  unfolding step_of
  left_known e = let n = answer_none q (the_step q) e in (ext _ _ (λ v. (none_open n v).0), ext _ _ (λ v. (none_open n v).1))
    where
      none_open : goals q ≡ 0 → (v : ℕ) → (bit q.known_on v ≡ bit q.con_on v) × (bit q.known_off v ≡ bit q.con_off v)
      none_open n v =
          let o : bit (goals q) v ≡ 0 = ap (λ (m : ℕ). bit m v) n ∙ bit_zero v in
          (omega (arith, goals_at q v, z.known_on.keeps v), omega (arith, goals_at q v, z.known_off.keeps v))

  pub known_left : q.known_on ≡ q.con_on → q.known_off ≡ q.con_off → step_of q ≡ nothing_left
  known_left x y =
      step_left q
      (ext (goals q) 0 (λ v. omega (arith, goals_at q v, ap (λ (m : ℕ). bit m v) x, ap (λ (m : ℕ). bit m v) y, bit_zero v)))

  -- where a goal is left, the step is there
  pub some_step : (v : ℕ) (says : Bool) → Goal q v says → (s : Step) × (step_of q ≡ step s) × IsStep q s
  some_step v says g =
      let h : 0 < goals q = pos_of_member (goals q) v (goal_is q sound_forcing v says g).0 in
      let e : step_of q ≡ step (step_from q (the_step q)) = step_open q (λ d. omega arith) in
      (step_from q (the_step q), e, step_is _ e)

-- what `next_step` requires makes sense
pub asked_sound : {n ch : ℕ} {ys ns : List ℕ} {table : List (List ℕ)} {c k : LiteralSet} → Asked n ys ns ch table c k
    → Sound (mask_question n ys ns ch table c k)
asked_sound a =
    record {
      choices_below = a.choices_below;
      on_choices = a.yes_choices;
      off_choices = a.no_choices;
      known_on = a.known_yes;
      known_off = a.known_no;
      model = (a.model.0, to_theory _ a.model.1);
      forces = λ f m. to_theory _ (a.forces f (of_theory _ m));
    }
