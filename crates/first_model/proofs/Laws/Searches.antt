-- The search for the first model: a partial filling with the values of a model fixed, and one variable more. Assumes nothing.
use Rattle.std.specs.Prelude.{◌≡◌, refl, Bool, true, false, not, List, ℕ, ◌+◌, ◌-◌, ◌≤◌, ◌<◌, max, min, Option, Some, None, unwrap_or}
use Rattle.std.proofs.Common.{sym, ap, subst, ◌∙◌}
use Rattle.std.proofs.Math.Logic.{by_cases}
use Rattle.std.proofs.Math.Decide.{dec_lt, ℕ_discrete}
use native.Mathlib.Omega.{arith}
use Rattle.std.proofs.Math.Pow.{pow-lt}
use Rattle.std.proofs.lemmas.Bool.{not-true, not-false}
use Rattle.sets.specs.Sets.{bit, full, has, union, inter, diff}
use Rattle.sets.specs.Laws.Bits.{bit_le, bit_union, bit_inter, bit_diff, bit_full, bit_full_high, union_lt, diff_lt, full_lt}
use Rattle.sets.specs.Laws.Subset.{has_true, has_false, within_le}
use Rattle.propagation.specs.Promises.{Assigned}
use Rattle.sat.specs.Meaning.{Model, NoModel}
use Rattle.sat.specs.Promises.{Posed, Unset, Finds, Searched}
use Rattle.sat.specs.Laws.Assigns.{posed_with, model_with, model_assigned, assigned_model, posed_assigned}
use Rattle.first_model.specs.Meaning.{weight, First}
use Rattle.first_model.specs.Promises.{Fixed, FirstUpTo, FirstSearched}
use Rattle.first_model.proofs.Laws.Order.{weight_next, agree_weight, weight_agree, least_first}

-- ---- the values of m fixed

-- as the code makes it
pub is_fixed : {on off m v before kept lost a b : ℕ} → before ≡ full v → kept ≡ inter m before → a ≡ union on kept → lost ≡ diff before m
    → b ≡ union off lost → Fixed on off m v a b
is_fixed e k a l b = record { yes_too = rw (← e) (rw (← k) a); no_too = rw (← e) (rw (← l) b) }

module _ {on off m v a b : ℕ} (x : Fixed on off m v a b) where
  fixed_on : (u : ℕ) → bit a u ≡ max (bit on u) (min (bit m u) (bit (full v) u))
  fixed_on u = rw x.yes_too (bit_union on (inter m (full v)) u ∙ ap (max (bit on u)) (bit_inter m (full v) u))

  fixed_off : (u : ℕ) → bit b u ≡ max (bit off u) (bit (full v) u - bit m u)
  fixed_off u = rw x.no_too (bit_union off (diff (full v) m) u ∙ ap (max (bit off u)) (bit_diff (full v) m u))

  -- before v the values are those of m, and from v on those that there were
  fixed_before : (u : ℕ) → u < v → (bit a u ≡ max (bit on u) (bit m u)) × (bit b u ≡ max (bit off u) (1 - bit m u))
  fixed_before u h = (omega (arith, fixed_on u, bit_full v u h, bit_le m u), omega (arith, fixed_off u, bit_full v u h))

  fixed_after : (u : ℕ) → v ≤ u → (bit a u ≡ bit on u) × (bit b u ≡ bit off u)
  fixed_after u h = (omega (arith, fixed_on u, bit_full_high v u h), omega (arith, fixed_off u, bit_full_high v u h))

  module _ {n : ℕ} {ys ns : List ℕ} where
    -- its models are the models that agree with m before v
    pub fixed_model : {f : ℕ} → Model n ys ns on off f → ((u : ℕ) → u < v → bit f u ≡ bit m u) → Model n ys ns a b f
    fixed_model {f} w e =
        model_with w
        (record {
          keeps = λ u. by_cases (dec_lt u v) (λ h. omega (arith, (fixed_before u h).0, e u h, w.keeps.keeps u))
              (λ h. omega (arith, (fixed_after u (omega arith)).0, w.keeps.keeps u));
        })
        (record {
          avoids = λ u. by_cases (dec_lt u v) (λ h. omega (arith, (fixed_before u h).1, e u h, w.avoids.avoids u, bit_le f u))
              (λ h. omega (arith, (fixed_after u (omega arith)).1, w.avoids.avoids u));
        })

    pub model_fixed : {f : ℕ} → Model n ys ns a b f → Model n ys ns on off f × ((u : ℕ) → u < v → bit f u ≡ bit m u)
    model_fixed {f} w = (
      model_with w (record { keeps = λ u. omega (arith, fixed_on u, w.keeps.keeps u) })
          (record { avoids = λ u. omega (arith, fixed_off u, w.avoids.avoids u) }),
      λ u h. omega (arith, (fixed_before u h).0, (fixed_before u h).1, w.keeps.keeps u, w.avoids.avoids u, bit_le m u, bit_le f u),
    )

    -- m extends it, so that no variable is both on and off
    pub fixed_posed : Posed n ys ns on off → Model n ys ns on off m → v < n → Posed n ys ns a b
    fixed_posed p w h =
        let k = fixed_model w (λ u l. refl) in
        posed_with p (omega (arith, within_le a m k.keeps, w.below))
        (rw x.no_too (union_lt n off (diff (full v) m) p.off_below (diff_lt n (full v) m (omega (arith, full_lt v, pow-lt h)))))
        (record { avoids = λ u. omega (arith, k.keeps.keeps u, k.avoids.avoids u) })

    -- v is not set in it where m says yes and it is not given
    pub fixed_unset : Model n ys ns on off m → v < n → bit m v ≡ 1 → bit on v ≡ 0 → Unset n a b v
    fixed_unset w h e o =
        record {
          below = h;
          not_on = omega (arith, (fixed_after v (omega arith)).0);
          not_off = omega (arith, (fixed_after v (omega arith)).1, w.avoids.avoids v);
        }

-- ---- one variable more

module _ {n : ℕ} {ys ns : List ℕ} {on off m v : ℕ} (up : FirstUpTo n ys ns on off v m) where
  -- a model that agrees with m before v, and of v says what no such model is below
  onward : {r : ℕ} → Model n ys ns on off r → ((u : ℕ) → u < v → bit r u ≡ bit m u)
      → ((g : ℕ) → Model n ys ns on off g → ((u : ℕ) → u < v → bit g u ≡ bit m u) → bit r v ≤ bit g v) → FirstUpTo n ys ns on off (v + 1) r
  onward {r} w e least =
      record {
        model = w;
        least = λ g k. by_cases (ℕ_discrete (weight v g) (weight v m))
            (λ s. omega (arith, weight_next v r, weight_next v g, s, agree_weight v r m e, least g k (weight_agree v g m s)))
            (λ s. omega (arith, weight_next v r, weight_next v g, agree_weight v r m e, up.least g k, bit_le r v));
      }

  -- m says no of v, or v is given
  pub stays : {left : ℕ} {r : Bool} → left ≡ diff m on → r ≡ has left v → not r ≡ true → FirstUpTo n ys ns on off (v + 1) m
  stays {left} {r} o e t =
      let z : bit (diff m on) v ≡ 0 = rw o at (has_false left v (sym e ∙ not-true r t)) in
      onward up.model (λ u h. refl) (λ g k a. omega (arith, z, bit_diff m on v, k.keeps.keeps v))

  module _ {a b c d : ℕ} (x : Fixed on off m v a b) (s : Assigned a b v false c d) where
    -- another model says no
    pub found_lower : {r : ℕ} → Model n ys ns c d r → FirstUpTo n ys ns on off (v + 1) r
    found_lower w =
        let (k, z) = assigned_model s w in
        let (o, e) = model_fixed x k in
        onward o e (λ g l q. omega (arith, z))

    -- no other model does
    pub none_lower : NoModel n ys ns c d → FirstUpTo n ys ns on off (v + 1) m
    none_lower none =
        onward up.model (λ u h. refl)
        (λ g k e. by_cases (ℕ_discrete (bit g v) 0) (λ z. absurd (none.none g (model_assigned s (fixed_model x k e) z)))
        (λ z. omega (arith, bit_le m v, bit_le g v)))

    -- the model that is kept: another one where there is one
    pub lower_kept : {r : Option ℕ} {t : ℕ} → Searched n ys ns c d r → t ≡ unwrap_or r m → FirstUpTo n ys ns on off (v + 1) t
    lower_kept {r} w e = rw e (go r w.found)
      where
        go : (o : Option ℕ) → Finds n ys ns c d o → FirstUpTo n ys ns on off (v + 1) (unwrap_or o m)
        go (Some f) k = found_lower k
        go None k = none_lower k

    -- what is asked
    pub lower_posed : Posed n ys ns on off → v < n → {left : ℕ} {r : Bool} → left ≡ diff m on → r ≡ has left v → not r ≡ false → Posed n ys ns c d
    lower_posed p h {left} {r} q e t =
        let o : bit (diff m on) v ≡ 1 = rw q at (has_true left v (sym e ∙ not-false r t)) in
        let y : bit m v ≡ 1 = omega (arith, o, bit_diff m on v, bit_le m v) in
        let z : bit on v ≡ 0 = omega (arith, o, bit_diff m on v, bit_le m v, bit_le on v) in
        posed_assigned (fixed_posed x p up.model h) (fixed_unset x up.model h y z) s

-- ---- all variables

module _ {n : ℕ} {ys ns : List ℕ} {on off m : ℕ} where
  pub begins : Model n ys ns on off m → FirstUpTo n ys ns on off 0 m
  unfolding weight
  begins w = record { model = w; least = λ g k. omega arith }

  pub ends : {v : ℕ} → v ≤ n → n ≤ v → FirstUpTo n ys ns on off v m → First (Model n ys ns on off) m
  ends {v} h l up =
      let e : v ≡ n = omega arith in least_first n (Model n ys ns on off) (λ g k. k.below) m up.model (rw e at up.least)

pub ruleset lowest_laws = (begins, ends)

-- ---- what was found

module _ {n : ℕ} {ys ns : List ℕ} {on off : ℕ} {r : Option ℕ} where
  pub searched_first : {m : ℕ} → FirstSearched n ys ns on off r → r ≡ Some m → First (Model n ys ns on off) m
  searched_first s e = (subst (FirstSearched n ys ns on off) e s).found

  pub searched_no_first : FirstSearched n ys ns on off r → r ≡ None → NoModel n ys ns on off
  searched_no_first s e = (subst (FirstSearched n ys ns on off) e s).found
