-- There is one step: what `IsStep` says leaves no freedom. Assumes nothing.
use Rattle.std.specs.Prelude.{◌≡◌, ℕ, ◌^◌, ◌<◌}
use Rattle.std.proofs.Common.{sym, ap, ap₂, ◌∙◌, arith}
use Rattle.std.proofs.Math.Logic.{by_cases}
use Rattle.std.proofs.Math.Decide.{ℕ_discrete}
use Rattle.sets.specs.Sets.{bit, has}
use Rattle.sets.specs.Laws.Bits.{bit_le, member_lt, ext}
use Rattle.literals.specs.Literal.{literal_of}
use Rattle.consequence.specs.Meaning.{Theory}
use Rattle.step.specs.Meaning.{Question, yes_goals, reasons_on, reasons_off, Candidate, Step}
use Rattle.step.specs.IsStep.{Sound, placed, New, IsStep}
use Rattle.step.specs.Laws.Order.{upto_both}
use Rattle.step.specs.Laws.Known.{goal_is, union_on, union_off}
use Rattle.step.specs.Laws.TheStep.{sound_forcing}

-- there is one set of new literals of a sign
new_within : {t : Theory} (below : t.choices < 2 ^ t.variables) {on off d known m k : ℕ} → New t on off d known m → New t on off d known k → (v : ℕ)
    → bit m v ≡ 1 → bit k v ≡ 1
new_within {t} below x y v e = let w = x.sound v e in y.complete v (member_lt _ t.choices v w.0 below) w.0 w.1 w.2

new_unique : {t : Theory} (below : t.choices < 2 ^ t.variables) {on off d known m k : ℕ} → New t on off d known m → New t on off d known k → m ≡ k
new_unique below {m = m} {k = k} x y =
    ext m k (λ v.
    by_cases (ℕ_discrete (bit m v) 1) (λ e. e ∙ sym (new_within below x y v e))
    (λ e. by_cases (ℕ_discrete (bit k v) 1) (λ o. absurd (e (new_within below y x v o))) (λ o. omega (arith, bit_le m v, bit_le k v))))

module _ (q : Question) (z : Sound q) {a b : Step} (x : IsStep q a) (y : IsStep q b) where
  -- each is first, so neither comes before the other
  same_place : placed q a.reasons_on a.reasons_off x.variable x.says ≡ placed q b.reasons_on b.reasons_off y.variable y.says
  same_place = upto_both (x.first _ _ _ _ y.is_candidate) (y.first _ _ _ _ x.is_candidate)

  same_variable : x.variable ≡ y.variable
  same_variable = ap (λ (c : Candidate). c.goal) same_place

  -- the goal says what the consequence says
  same_says : x.says ≡ y.says
  same_says =
      sym (goal_is q (sound_forcing q z) _ _ x.is_candidate.goal).1 ∙ ap (λ (v : ℕ). has (yes_goals q) v) same_variable
      ∙ (goal_is q (sound_forcing q z) _ _ y.is_candidate.goal).1

  same_goal : a.goal ≡ b.goal
  same_goal = x.goal_said ∙ ap₂ literal_of same_variable same_says ∙ sym y.goal_said

  -- reasons are told by their variables
  same_on : a.reasons_on ≡ b.reasons_on
  same_on =
      sym (union_on q (sound_forcing q z) _ _ x.is_candidate.on_known x.is_candidate.off_known)
      ∙ ap (λ (c : Candidate). reasons_on q c.reasons) same_place
      ∙ union_on q (sound_forcing q z) _ _ y.is_candidate.on_known y.is_candidate.off_known

  same_off : a.reasons_off ≡ b.reasons_off
  same_off =
      sym (union_off q (sound_forcing q z) _ _ x.is_candidate.on_known x.is_candidate.off_known)
      ∙ ap (λ (c : Candidate). reasons_off q c.reasons) same_place
      ∙ union_off q (sound_forcing q z) _ _ y.is_candidate.on_known y.is_candidate.off_known

  same_new_on : a.new_on ≡ b.new_on
  same_new_on = new_unique z.choices_below x.new_yes (rw (same_on, same_off) y.new_yes)

  same_new_off : a.new_off ≡ b.new_off
  same_new_off = new_unique z.choices_below x.new_no (rw (same_on, same_off) y.new_no)

  same_cost : a.cost ≡ b.cost
  same_cost = x.cost_said ∙ ap (λ (c : Candidate). c.cost) same_place ∙ sym y.cost_said

  pub step_unique : a ≡ b
  step_unique = λ i. record {
    goal = same_goal i;
    reasons_on = same_on i;
    reasons_off = same_off i;
    new_on = same_new_on i;
    new_off = same_new_off i;
    cost = same_cost i;
  }
