-- What one step adds to what is known, over any theory: its new literals are of the consequence, and a goal is closed. A sign stands for its mask.
-- Assumes nothing.
use Rattle.std.specs.Prelude.{◌≡◌, Bool, cond, List, ℕ, ◌+◌, ◌≤◌, ◌<◌, max, ◌-◌}
use Rattle.std.proofs.Common.{ap, ◌∙◌, arith}
use Rattle.std.proofs.Math.Bool.{true, false}
use Rattle.sets.specs.Sets.{bit, union, count, Within, Apart}
use Rattle.sets.specs.Laws.Bits.{bit_union, member_lt}
use Rattle.sets.specs.Laws.Subset.{within_trans, in_union, within_by, apart_by, apart_within}
use Rattle.sets.specs.Laws.Count.{ones_proper}
use Rattle.literals.specs.declared.LiteralSet.{LiteralSet}
use Rattle.propagation.specs.Promises.{digit}
use Rattle.consequence.specs.Meaning.{Theory, ModelOf}
use Rattle.step.specs.Meaning.{asking, Step, step, step_of, goals}
use Rattle.step.specs.IsStep.{ForcedBy, Sound, New, Gained, IsStep}
use Rattle.step.specs.Theorems.{step_is}
use Rattle.step.specs.Laws.Given.{exact, model_fewer, consequence_model}
use Rattle.step.specs.Laws.Known.{goals_at, goal_is}
use Rattle.step.specs.Laws.TheStep.{sound_forcing, goal_unknown}

-- ---- digits of the goals

max_mono : (x y u v : ℕ) → x ≤ u → y ≤ v → max x y ≤ max u v
max_mono x y u v h k = omega arith

sub_more : (x k m : ℕ) → x - max k m ≤ x - k
sub_more x k m = omega arith

-- ---- one step

module _ {t : Theory} {table : List (List ℕ)} {c facts : LiteralSet} (fc : ForcedBy t c facts) {known : LiteralSet}
    (a : Sound (asking t table c known)) {s : Step} (e : step_of (asking t table c known) ≡ step s) where
  pub is : IsStep (asking t table c known) s
  is = step_is (asking t table c known) a s e

  -- a model of the given facts makes the reasons true
  reasons_model : (f : ℕ) → ModelOf t facts.yes facts.no f → ModelOf t s.reasons_on s.reasons_off f
  reasons_model f m =
      model_fewer (within_trans _ _ _ is.is_candidate.on_known a.known_on) (within_trans _ _ _ is.is_candidate.off_known a.known_off) f
      (consequence_model fc f m)

  -- ---- the new literals of a sign

  pub new_said : (says : Bool)
      → New t s.reasons_on s.reasons_off (digit says) (cond says known.yes known.no) (cond says s.new_on s.new_off)
  new_said true = is.new_yes
  new_said false = is.new_no

  -- they are of the consequence
  pub new_within : (says : Bool) → Within (cond says s.new_on s.new_off) (cond says c.yes c.no)
  new_within says =
      within_by _ _ (λ v h.
      let i = (new_said says).sound v h in
      (exact a.choices_below fc says).complete v (member_lt _ t.choices v i.0 a.choices_below) i.0 (λ f m. i.2 f (reasons_model f m)))

  -- and were not known
  new_unknown : (says : Bool) → Apart (cond says s.new_on s.new_off) (cond says known.yes known.no)
  new_unknown says = apart_by _ _ (λ v h. ((new_said says).sound v h).1)

  -- ---- what is known next

  pub sound_more : Sound (asking t table c (record { yes = union known.yes s.new_on; no = union known.no s.new_off }))
  sound_more = record {
    choices_below = a.choices_below;
    on_choices = a.on_choices;
    off_choices = a.off_choices;
    known_on = record { keeps = λ v. omega (arith, bit_union known.yes s.new_on v, a.known_on.keeps v, (new_within true).keeps v) };
    known_off = record { keeps = λ v. omega (arith, bit_union known.no s.new_off v, a.known_off.keeps v, (new_within false).keeps v) };
    model = a.model;
    forces = λ f m. a.forces f (model_fewer (in_union known.yes s.new_on) (in_union known.no s.new_off) f m);
  }

  -- ---- a goal less

  more : LiteralSet
  more = record { yes = union known.yes s.new_on; no = union known.no s.new_off }

  fewer : Within (goals (asking t table c more)) (goals (asking t table c known))
  unfolding more
  fewer = record {
    keeps = λ v.
        rw (
          goals_at (asking t table c known) v,
          goals_at (asking t table c more) v,
          bit_union known.yes s.new_on v,
          bit_union known.no
              s.new_off v,
        )
        (max_mono _ _ _ _ (sub_more (bit c.yes v) (bit known.yes v) (bit s.new_on v))
        (sub_more (bit c.no v) (bit known.no v) (bit s.new_off v)));
  }

  -- the goal was open, and its variable is known now
  gone : goals (asking t table c more) ≡ goals (asking t table c known) → ⊥
  unfolding more
  gone same =
      let v = is.variable in
      let wanted = (goal_is (asking t table c known) (sound_forcing (asking t table c known) a) v is.says is.is_candidate.goal).0 in
      let u = goal_unknown (asking t table c more) sound_more v (ap (λ (m : ℕ). bit m v) same ∙ wanted) in
      go v is.says is.gained u.1 u.2
    where
      go : (v : ℕ) (b : Bool) → Gained s v b → bit (union known.yes s.new_on) v ≡ 0 → bit (union known.no s.new_off) v ≡ 0 → ⊥
      go v true h x y = omega (arith, h, x, bit_union known.yes s.new_on v)
      go v false h x y = omega (arith, h, y, bit_union known.no s.new_off v)

  pub goals_fewer : count (goals (asking t table c (record { yes = union known.yes s.new_on; no = union known.no s.new_off })))
      < count (goals (asking t table c known))
  unfolding more
  goals_fewer = ones_proper _ _ fewer gone

  -- ---- reasons and new literals

  con_apart : Apart c.yes c.no
  con_apart = (sound_forcing (asking t table c known) a).apart

  pub reasons_apart : Apart s.reasons_on s.reasons_off
  reasons_apart =
      apart_within (within_trans _ _ _ is.is_candidate.on_known a.known_on) (within_trans _ _ _ is.is_candidate.off_known a.known_off)
      con_apart

  pub new_apart : Apart s.new_on s.new_off
  new_apart = apart_within (new_within true) (new_within false) con_apart

  sorted : (a b x y k l m o : ℕ) → a ≤ k → b ≤ l → k ≤ m → l ≤ o → m + o ≤ 1 → x ≤ m → y ≤ o → x + k ≤ 1 → y + l ≤ 1 → max a b + max x y ≤ 1
  sorted a b x y k l m o p q r t u v w z j = omega arith

  pub reasons_new_apart : Apart (union s.reasons_on s.reasons_off) (union s.new_on s.new_off)
  reasons_new_apart = record {
    avoids = λ v. rw (bit_union s.reasons_on s.reasons_off v, bit_union s.new_on s.new_off v)
        (sorted _ _ _ _ _ _ _ _ (is.is_candidate.on_known.keeps v) (is.is_candidate.off_known.keeps v) (a.known_on.keeps v) (a.known_off.keeps v)
        (con_apart.avoids v) ((new_within true).keeps v) ((new_within false).keeps v) ((new_unknown true).avoids v) ((new_unknown false).avoids v));
  }
