-- What the C side sees of an answer, from the contract of the engine's call and the case that the answer is. Assumes nothing.
use mathlib.Core.Path.{◌≡◌, refl, sym, ap, ◌∙◌}
use Rattle.std.specs.Prelude.{Option, Some, None, unwrap_or, pos}
use Rattle.log_form.specs.declared.Step.{Step}
use Prim.Native.Nat.{ℕ}
use Rattle.c_interface.specs.Promises.{Passed}
use Rattle.c_interface.specs.Seen.{code, Outcome, done, refusal, returned, behind, Seen, as_step, shown_step}

-- an outcome, in each of its cases
module _ {B : Type 0} {o : Outcome B} where
  pub passed_done : {b before : B} → o ≡ done b → Passed o before b 0
  unfolding returned behind
  passed_done e = record { returns = rw e refl; leaves = rw e refl }

  pub passed_refused : {number place r : ℕ} {before : B} → o ≡ refusal number place → r ≡ code number place → Passed o before before r
  unfolding returned behind
  passed_refused e c = record { returns = rw e c; leaves = rw e refl }

-- the engine's call gave `result`, which is `answer` by its contract; what is seen of that is what is meant
module _ {A B : Type 0} {Call : A → Type 0} {seen : A → Outcome B} {answer result : A} {meant : Outcome B} (called : Call result) (said : result ≡ answer)
    (means : seen answer ≡ meant) where
  pub seen_passed : {before after : B} {r : ℕ} → Passed (seen result) before after r → Seen Call answer seen meant before after r
  seen_passed p = record { called = rw said at called; as_meant = means; returns = rw said at p.returns; leaves = rw said at p.leaves }

  -- and the case `told`
  module _ {told : A} (is : result ≡ told) where
    pub seen_done : {b before : B} → seen told ≡ done b → Seen Call answer seen meant before b 0
    seen_done e = seen_passed (passed_done (ap seen is ∙ e))

    pub seen_refused : {number place r : ℕ} {before : B} → seen told ≡ refusal number place → r ≡ code number place → Seen Call answer seen meant before before r
    seen_refused e c = seen_passed (passed_refused (ap seen is ∙ e) c)

-- a step, or zeros where there is none
pub shown_or : (o : Option Step) {r : Step} → r ≡ unwrap_or o (as_step (pos 0) 0 0 0 0 0) → shown_step o ≡ r
shown_or (Some s) e = sym e
shown_or None e = sym e
