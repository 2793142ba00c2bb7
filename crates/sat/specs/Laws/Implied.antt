-- What an implied rule says of the models, and that where each rule has a true literal there is a model. Assumes nothing.
use Rattle.std.specs.Prelude.{◌≡◌, List, ℕ, length}
use Rattle.std.proofs.Common.{inl, inr, arith}
use Rattle.std.proofs.Math.Decide.{ℕ_discrete}
use Rattle.sets.specs.Sets.{bit}
use Rattle.literals.specs.Laws.{obeys_some}
use Rattle.propagation.specs.Promises.{Conflicts, Forces, Listed, MetBetween}
use Rattle.propagation.specs.Laws.Resolution.{TrueAt}
use Rattle.sat.specs.Meaning.{Model}
use Rattle.sat.specs.Promises.{Posed, Implied, Completes}
use Rattle.sat.specs.Laws.Rules.{obeys_at, obeys_each}

-- ---- implied rules

-- a rule of the lists is implied
pub listed_implied : {n : ℕ} {ys ns : List ℕ} {on off y m : ℕ} → Posed n ys ns on off → Listed ys ns y m → Implied n ys ns y m
listed_implied {n} {ys} {ns} p l =
    let a = l.rule in
    record {
      yes_below = rw a.yes_there (p.yes_masks.below l.place a.yes_place);
      no_below = rw a.no_there (p.no_masks.below l.place a.no_place);
      obeyed = λ f e. rw (a.yes_there, a.no_there) (obeys_at f ys ns l.place e a.yes_place a.no_place);
    }

-- what an implied rule says of a model
module _ {n : ℕ} {ys ns : List ℕ} {y m on off f : ℕ} (i : Implied n ys ns y m) (k : Model n ys ns on off f) where
  -- a conflict: there is none
  pub conflict_none : Conflicts y m on off → ⊥
  conflict_none t = let s = obeys_some f y m (i.obeyed f k.obeyed) in go s.0 s.1.truly
    where
      go : (u : ℕ) → TrueAt f y m u → ⊥
      go u (inl e) = omega (arith, e.0, e.1, t.yes_false.keeps u, k.avoids.avoids u)
      go u (inr e) = omega (arith, e.0, e.1, t.no_false.keeps u, k.keeps.keeps u)

  -- a forced variable has its value
  pub forced_value : (v : ℕ) → Forces y m on off v → bit f v ≡ bit y v
  forced_value v t = let s = obeys_some f y m (i.obeyed f k.obeyed) in go s.0 s.1.truly (ℕ_discrete s.0 v)
    where
      go : (u : ℕ) → TrueAt f y m u → Dec (u ≡ v) → bit f v ≡ bit y v
      go u (inl e) (yes q) = omega (arith, rw q at e.0, rw q at e.1)
      go u (inr e) (yes q) = omega (arith, rw q at e.0, rw q at e.1, t.one_sign)
      go u (inl e) (no q) = absurd (omega (arith, e.0, e.1, t.yes_false u q, k.avoids.avoids u))
      go u (inr e) (no q) = absurd (omega (arith, e.0, e.1, t.no_false u q, k.keeps.keeps u))

-- ---- model

-- where each rule has a true literal, a filling that extends the partial one is a model
pub met_model : {n : ℕ} {ys ns : List ℕ} {on off f : ℕ} → MetBetween 0 (length ys) ys ns on off → Completes n on off f → Model n ys ns on off f
met_model {n} {ys} {ns} {on} {off} {f} m c =
    record {
      below = c.below;
      keeps = c.keeps;
      avoids = c.avoids;
      obeyed = obeys_each f ys ns (λ i h. (m.each_met i (omega arith) h).met f c.keeps c.avoids);
    }
