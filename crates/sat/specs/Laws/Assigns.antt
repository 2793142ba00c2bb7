-- A partial filling with one more variable set: what it keeps, and which models it has. Assumes nothing.
use Rattle.std.specs.Prelude.{◌≡◌, Bool, true, false, List, ℕ, suc, ◌+◌, ◌^◌, ◌≤◌, ◌<◌}
use Rattle.std.proofs.Common.{arith}
use Rattle.std.proofs.lemmas.Nat.{ones-le}
use Rattle.sets.specs.Sets.{bit, union, insert, count, Within, Apart}
use Rattle.sets.specs.Laws.Bits.{bit_le, bit_insert_same, union_lt, insert_lt}
use Rattle.sets.specs.Laws.Subset.{within_le, apart_within, apart_symm, within_insert, insert_within, apart_insert, insert_apart}
use Rattle.sets.specs.Laws.Count.{ones_union, ones_insert}
use Rattle.propagation.specs.Promises.{digit, SetTo, Assigned}
use Rattle.sat.specs.Meaning.{obeys_all, Model}
use Rattle.sat.specs.Promises.{Posed, Unset, unset}

-- ---- the same with another partial filling

module _ {n : ℕ} {ys ns : List ℕ} {on off a b : ℕ} where
  pub posed_with : Posed n ys ns on off → a < 2 ^ n → b < 2 ^ n → Apart a b → Posed n ys ns a b
  posed_with p x z w =
      record {
        small = p.small;
        paired = p.paired;
        yes_masks = p.yes_masks;
        no_masks = p.no_masks;
        on_below = x;
        off_below = z;
        apart = w;
      }

  -- a smaller one
  pub posed_within : Posed n ys ns on off → Within a on → Within b off → Posed n ys ns a b
  posed_within p x z =
      posed_with p (omega (arith, within_le a on x, p.on_below)) (omega (arith, within_le b off z, p.off_below))
      (apart_within x z p.apart)

  pub model_with : {f : ℕ} → Model n ys ns on off f → Within a f → Apart b f → Model n ys ns a b f
  model_with m x z = record { below = m.below; keeps = x; avoids = z; obeyed = m.obeyed }

-- and with other rules
pub model_rules : {n : ℕ} {ys ns zs ms : List ℕ} {on off f : ℕ} → Model n ys ns on off f → obeys_all f zs ms ≡ true → Model n zs ms on off f
model_rules m e = record { below = m.below; keeps = m.keeps; avoids = m.avoids; obeyed = e }

-- ---- the models of the partial filling with v set are the models of the old one that give v the value

module _ (n : ℕ) (ys ns : List ℕ) (on off v f : ℕ) where
  model_set_to : (value : Bool) (a b : ℕ) → SetTo on off v value a b → Model n ys ns on off f → bit f v ≡ digit value → Model n ys ns a b f
  model_set_to true a b s m e = rw (s.0, s.1) (model_with m (within_insert on v f m.keeps e) m.avoids)
  model_set_to false a b s m e = rw (s.0, s.1) (model_with m m.keeps (apart_insert off v f m.avoids e))

  set_to_model : (value : Bool) (a b : ℕ) → SetTo on off v value a b → Model n ys ns a b f → Model n ys ns on off f × (bit f v ≡ digit value)
  set_to_model true a b s m =
      let w : Within (insert on v) f = rw s.0 at m.keeps in
      (model_with m (insert_within on v f w) (rw s.1 at m.avoids), omega (arith, w.keeps v, bit_insert_same on v, bit_le f v))
  set_to_model false a b s m =
      let w : Apart (insert off v) f = rw s.1 at m.avoids in
      (model_with m (rw s.0 at m.keeps) (insert_apart off v f w), omega (arith, w.avoids v, bit_insert_same off v))

pub model_assigned : {n : ℕ} {ys ns : List ℕ} {on off v a b f : ℕ} {value : Bool} → Assigned on off v value a b → Model n ys ns on off f
    → bit f v ≡ digit value → Model n ys ns a b f
model_assigned {n} {ys} {ns} {on} {off} {v} {a} {b} {f} {value} s m e = model_set_to n ys ns on off v f value a b s.said m e

pub assigned_model : {n : ℕ} {ys ns : List ℕ} {on off v a b f : ℕ} {value : Bool} → Assigned on off v value a b → Model n ys ns a b f
    → Model n ys ns on off f × (bit f v ≡ digit value)
assigned_model {n} {ys} {ns} {on} {off} {v} {a} {b} {f} {value} s m = set_to_model n ys ns on off v f value a b s.said m

-- ---- it is a partial filling with one variable less to set

module _ (n : ℕ) (ys ns : List ℕ) (on off v : ℕ) (p : Posed n ys ns on off) (h : v < n) (x : bit on v ≡ 0) (z : bit off v ≡ 0) where
  set_to_posed : (value : Bool) (a b : ℕ) → SetTo on off v value a b → Posed n ys ns a b
  set_to_posed true a b s = rw (s.0, s.1) (posed_with p (insert_lt n on v p.on_below h) p.off_below (apart_insert on v off p.apart z))
  set_to_posed false a b s =
      rw (s.0, s.1) (posed_with p p.on_below (insert_lt n off v p.off_below h)
      (apart_symm _ _ (apart_insert off v on (apart_symm on off p.apart) x)))

  set_to_count : (value : Bool) (a b : ℕ) → SetTo on off v value a b → count a + count b ≡ suc (count on + count off)
  set_to_count true a b s = rw (s.0, s.1) (omega (arith, ones_insert on v x))
  set_to_count false a b s = rw (s.0, s.1) (omega (arith, ones_insert off v z))

count_le : (n : ℕ) (ys ns : List ℕ) (on off : ℕ) → Posed n ys ns on off → count on + count off ≤ n
count_le n ys ns on off p = omega (arith, ones_union on off p.apart, ones-le n (union on off) (union_lt n on off p.on_below p.off_below))

module _ {n : ℕ} {ys ns : List ℕ} {on off v a b : ℕ} {value : Bool} where
  pub posed_assigned : Posed n ys ns on off → Unset n on off v → Assigned on off v value a b → Posed n ys ns a b
  posed_assigned p u s = set_to_posed n ys ns on off v p u.below u.not_on u.not_off value a b s.said

  pub unset_less : Posed n ys ns on off → Unset n on off v → Assigned on off v value a b → suc (unset n a b) ≡ unset n on off
  unset_less p u s =
      omega (arith, count_le n ys ns a b (posed_assigned p u s), set_to_count n ys ns on off v p u.below u.not_on u.not_off value a b s.said)
