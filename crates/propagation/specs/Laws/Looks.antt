-- What a rule tells under a partial filling: a law for each step of `look_at`. Assumes nothing.
use Rattle.std.specs.Prelude.{◌≡◌, ℕ, ◌+◌, ◌≤◌, max, ◌⊎◌, ◌≢◌}
use Rattle.std.proofs.Common.{sym, ap, ◌∙◌, inl, inr, arith}
use Rattle.std.proofs.Math.Logic.{by_cases}
use Rattle.std.proofs.Math.Decide.{ℕ_discrete}
use Rattle.sets.specs.Sets.{bit, single, union, inter, diff}
use Rattle.sets.specs.Laws.Bits.{bit_le, bit_zero, bit_none, bit_union, bit_inter, bit_diff, bit_single_same, bit_single_other, ext}
use Rattle.sets.specs.Laws.Subset.{union_none}
use Rattle.sets.specs.Laws.Least.{some_member}
use Rattle.literals.specs.Laws.{obeys_yes, obeys_no}
use Rattle.propagation.specs.Promises.{Forces, Met, LeftOpen, Looked}
use Rattle.propagation.specs.declared.pass.Look.TheVariants as Look

or_member : (a b v : ℕ) → bit (union a b) v ≡ 1 → (bit a v ≡ 1) ⊎ (bit b v ≡ 1)
or_member a b v e = by_cases (ℕ_discrete (bit a v) 1) inl (λ d. inr (omega (arith, bit_union a b v, bit_le a v, bit_le b v)))

-- a literal that is neither false nor true is not set
clear : (y on off v : ℕ) → bit (inter on y) v ≡ 0 → bit (diff y off) v + bit (union on off) v ≤ 1
clear y on off v e = omega (arith, bit_diff y off v, bit_union on off v, bit_inter on y v, bit_le y v, bit_le on v, bit_le off v)

module _ (y m on off : ℕ) where
  -- the variables of the true literals, and those of the literals that are not false
  abbrev true_ones : ℕ
  true_ones = union (inter on y) (inter off m)

  abbrev not_false : ℕ
  not_false = union (diff y off) (diff m on)

  -- a true literal
  true_met : (v : ℕ) → (bit (inter on y) v ≡ 1) ⊎ (bit (inter off m) v ≡ 1) → Met y m on off
  true_met v (inl e) =
      let d : (bit on v ≡ 1) × (bit y v ≡ 1) = omega (arith, bit_inter on y v, bit_le on v, bit_le y v) in
      record { met = λ f w a. obeys_yes f y m v d.1 (omega (arith, d.0, w.keeps v, bit_le f v)) }
  true_met v (inr e) =
      let d : (bit off v ≡ 1) × (bit m v ≡ 1) = omega (arith, bit_inter off m v, bit_le off v, bit_le m v) in
      record { met = λ f w a. obeys_no f y m v d.1 (omega (arith, d.0, a.avoids v)) }

  -- no literal is true: what is not false is not set
  left_open : true_ones ≡ 0 → (not_false ≢ 0) → LeftOpen y m on off not_false
  left_open z h =
      record {
        within = record {
          keeps = λ v.
              omega (arith, bit_union (diff y off) (diff m on) v, bit_diff y off v, bit_diff m on v, bit_union y m v);
        };
        not_set = record { avoids = unset };
        none_met = λ e. absurd (h e);
      }
    where
      none : (v : ℕ) → (bit (inter on y) v ≡ 0) × (bit (inter off m) v ≡ 0)
      none v =
          let e : max (bit (inter on y) v) (bit (inter off m) v) ≡ 0 = sym (bit_union (inter on y) (inter off m) v) ∙ bit_none true_ones v z in
          (omega (arith, e), omega (arith, e))

      unset : (v : ℕ) → bit not_false v + bit (union on off) v ≤ 1
      unset v =
          omega (
            arith,
            bit_union (diff y off) (diff m on) v,
            clear y on off v (none v).0,
            clear m off on v (none v).1,
            bit_union off on v,
            bit_union on off v,
          )

  -- one variable is left, in one of the masks
  forces_left : (v : ℕ) → true_ones ≡ 0 → not_false ≡ single v → inter not_false (inter y m) ≡ 0 → Forces y m on off v
  forces_left v z s o =
      record {
        not_on = omega (arith, here, bit_union on off v, unset);
        not_off = omega (arith, here, bit_union on off v, unset);
        one_sign = omega (
          arith,
          here,
          bit_union (diff y off) (diff m on) v,
          bit_diff y off v,
          bit_diff m on v,
          bit_none (inter not_false (inter y m)) v o,
          bit_inter not_false (inter y m) v,
          bit_inter y m v,
          bit_le y v,
          bit_le m v,
        );
        yes_false = λ u d. omega (arith, other u d, bit_union (diff y off) (diff m on) u, bit_diff y off u);
        no_false = λ u d. omega (arith, other u d, bit_union (diff y off) (diff m on) u, bit_diff m on u);
      }
    where
      here : bit not_false v ≡ 1
      here = rw s (bit_single_same v)

      unset : bit not_false v + bit (union on off) v ≤ 1
      unset = (left_open z (λ e. absurd (omega (arith, here, bit_none not_false v e)))).not_set.avoids v

      other : (u : ℕ) → (u ≢ v) → bit not_false u ≡ 0
      other u d = rw s (bit_single_other v u d)

-- a literal is true
pub look_met : {y m on off : ℕ} → (union (inter on y) (inter off m) ≢ 0) → Looked y m on off (Look.Quiet 0)
look_met {y} {m} {on} {off} h =
    record {
      said = record {
        within = record { keeps = λ v. omega (arith, bit_zero v) };
        not_set = record { avoids = λ v. omega (arith, bit_zero v, bit_le (union on off) v) };
        none_met = λ e. let t = some_member (union (inter on y) (inter off m)) (omega arith) in true_met y m on off t.0 (or_member _ _ t.0 t.1);
      };
    }

module _ {y m on off a b : ℕ} (p : a ≡ diff y off) (q : b ≡ diff m on) where
  -- none is, and some are not false
  look_open : union (inter on y) (inter off m) ≡ 0 → (union a b ≢ 0) → Looked y m on off (Look.Quiet (union a b))
  look_open z h = rw (p, q) (record { said = left_open y m on off z (rw (p, q) at h) })

  -- the quick test finds such a rule where no literal is true
  pub look_quick : (w : ℕ) → (union (union (inter on y) (inter off m)) (inter (union a b) w) ≢ 0) → union (inter on y) (inter off m) ≡ 0
      → Looked y m on off (Look.Quiet (union a b))
  look_quick w h z =
      look_open z
      (λ e.
      h
      (ext _ 0
      (λ v.
      omega (
        arith,
        bit_union (union (inter on y) (inter off m)) (inter (union a b) w) v,
        bit_inter (union a b) w v,
        bit_none (union (inter on y) (inter off m)) v z,
        bit_none (union a b) v e,
        bit_zero v,
      ))))

  -- the test does not find it, and several literals are left
  pub look_several : (w : ℕ) → union (union (inter on y) (inter off m)) w ≡ 0 → (union a b ≢ 0) → Looked y m on off (Look.Quiet (union a b))
  look_several w z h = look_open (union_none _ w z).0 h

  -- all are false
  pub look_conflict : union a b ≡ 0 → Looked y m on off Look.Conflict
  look_conflict e =
      record {
        said = record {
          yes_false = record { keeps = λ v. omega (arith, none v, bit_union a b v, ap (λ (x : ℕ). bit x v) p, bit_diff y off v) };
          no_false = record { keeps = λ v. omega (arith, none v, bit_union a b v, ap (λ (x : ℕ). bit x v) q, bit_diff m on v) };
        };
      }
    where
      none : (v : ℕ) → bit (union a b) v ≡ 0
      none v = bit_none (union a b) v e

  -- all but one are false
  pub look_unit : (w v : ℕ) → union (union (inter on y) (inter off m)) w ≡ 0 → union a b ≡ single v → inter (union a b) (inter y m) ≡ 0
      → Looked y m on off Look.Unit
  look_unit w v z s o =
      record { said = record { forced = v; forces = forces_left y m on off v (union_none _ w z).0 (rw (p, q) at s) (rw (p, q) at o) } }
