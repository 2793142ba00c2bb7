-- The question for one goal, the pool of the models found, and their witnesses, for the known literals with one goal: a law for each step. Assumes
-- nothing.
use Rattle.std.specs.Prelude.{◌≡◌, refl, Bool, true, false, not, cond, List, ℕ, ◌+◌, ◌-◌, ◌≤◌, ◌<◌, min, max, Some, Option}
use Rattle.std.proofs.Common.{arith}
use Rattle.sets.specs.Sets.{width, bit, union, inter, diff, insert, Within}
use Rattle.sets.specs.Laws.Bits.{bit_le, bit_union, bit_inter, bit_diff}
use Rattle.sets.specs.Laws.Subset.{inter_in}
use Rattle.items.specs.Cheapest.{Hit}
use Rattle.items.specs.Witnesses.{Rising, Witness, witness, witness_hit}
use Rattle.sat.specs.Meaning.{Model}
use Rattle.propagation.specs.Promises.{digit, Assigned}
use Rattle.sat.specs.Promises.{Posed, Searched}
use Rattle.sat.specs.Laws.Assigns.{posed_within, model_with, model_assigned, assigned_model, posed_assigned}
use Rattle.sat.specs.Laws.Searches.{searched_model}
use Rattle.witnesses.specs.Promises.{aim_on, aim_off, Against, denied_by, Refutes, Aimed, Obeying, Pooled, Denies, Meeting}
use Rattle.witnesses.specs.declared.Aim.{Aim}

-- ---- a question

pub opposite : (says : Bool) (on off v : ℕ) → Assigned on off v (not says) (cond says on (insert on v)) (cond says (insert off v) off)
opposite true on off v = record { said = (refl, refl) }
opposite false on off v = record { said = (refl, refl) }

pub aim_assigned : (aim : Aim) (s : ℕ) → Assigned (inter s aim.known.yes) (inter s aim.known.no) aim.goal (not aim.says) (aim_on aim s) (aim_off aim s)
unfolding aim_on aim_off
aim_assigned aim s = opposite aim.says (inter s aim.known.yes) (inter s aim.known.no) aim.goal

said : (says : Bool) (on off v a b : ℕ) → Assigned on off v (not says) a b → (a ≡ cond says on (insert on v)) × (b ≡ cond says (insert off v) off)
said true on off v a b s = s.said
said false on off v a b s = s.said

-- `against`
pub against_said : {aim : Aim} {s a b x y : ℕ} → Assigned x y aim.goal (not aim.says) a b → x ≡ inter s aim.known.yes → y ≡ inter s aim.known.no
    → Against aim s a b
unfolding aim_on aim_off
against_said {aim} {s} {a} {b} t p q =
    let w = said aim.says (inter s aim.known.yes) (inter s aim.known.no) aim.goal a b (rw (p, q) at t) in
    record { on_said = w.0; off_said = w.1 }

pub reasons_posed : {n on off : ℕ} {ys ns : List ℕ} (s t : ℕ) → Posed n ys ns on off → Posed n ys ns (inter s on) (inter t off)
reasons_posed {on = on} {off = off} s t p = posed_within p (inter_in s on) (inter_in t off)

pub aim_posed : {n : ℕ} {ys ns : List ℕ} (aim : Aim) (s : ℕ) → Posed n ys ns aim.known.yes aim.known.no → aim.goal < n → bit aim.known.yes aim.goal ≡ 0
    → bit aim.known.no aim.goal ≡ 0 → Posed n ys ns (aim_on aim s) (aim_off aim s)
aim_posed aim s p h x y =
    posed_assigned (reasons_posed s s p)
    (record {
      below = h;
      not_on = omega (arith, bit_inter s aim.known.yes aim.goal);
      not_off = omega (arith, bit_inter s aim.known.no aim.goal);
    })
    (aim_assigned aim s)

module _ {n : ℕ} {ys ns : List ℕ} {aim : Aim} (x : Aimed n ys ns aim) where
  pub ask_goal : aim.goal < width
  ask_goal = omega (arith, x.goal_row)

  pub ask_posed : {s on off : ℕ} → Against aim s on off → Posed n ys ns on off
  ask_posed {s} a = rw (a.on_said, a.off_said) (aim_posed aim s x.posed x.goal_below x.not_on x.not_off)

pub ask_said : {n : ℕ} {ys ns : List ℕ} {aim : Aim} {s on off : ℕ} {r : Option ℕ} → Against aim s on off → Searched n ys ns on off r
    → Searched n ys ns (aim_on aim s) (aim_off aim s) r
ask_said a s = rw (a.on_said, a.off_said) at s

pub ruleset ask_laws = (ask_goal, ask_posed, ask_said)

-- ---- the pool

pub found_obeys : {n : ℕ} {ys ns : List ℕ} {on off f : ℕ} {r : Option ℕ} → Searched n ys ns on off r → r ≡ Some f → Obeying n ys ns f
found_obeys s e = let m = searched_model s e in record { below = m.below; obeyed = m.obeyed }

-- ---- witnesses

-- more reasons leave fewer models
pub refutes_rises : (n : ℕ) (ys ns : List ℕ) (aim : Aim) → Rising (Refutes n ys ns aim)
refutes_rises n ys ns aim = record { rises = λ s t w c. record { none = λ f m. c.none f (fewer s t w f m) } }
  where
    fewer : (s t : ℕ) → Within s t → (f : ℕ) → Model n ys ns (aim_on aim t) (aim_off aim t) f → Model n ys ns (aim_on aim s) (aim_off aim s) f
    fewer s t w f m =
        let it = assigned_model (aim_assigned aim t) m in
        model_assigned (aim_assigned aim s)
        (model_with it.0
        (record { keeps = λ v. omega (arith, bit_inter s aim.known.yes v, bit_inter t aim.known.yes v, w.keeps v, it.0.keeps.keeps v) })
        (record { avoids = λ v. omega (arith, bit_inter s aim.known.no v, bit_inter t aim.known.no v, w.keeps v, it.0.avoids.avoids v) }))
        it.1

denied_at : (aim : Aim) (f v : ℕ) → bit (denied_by aim.known.yes aim.known.no f) v ≡ max (bit aim.known.yes v - bit f v) (min (bit aim.known.no v) (bit f v))
denied_at aim f v = omega (arith, bit_union (diff aim.known.yes f) (inter aim.known.no f) v, bit_diff aim.known.yes f v, bit_inter aim.known.no f v)

-- a filling that obeys the rules and makes the goal false is a model of all the known literals that it makes true
pub filling_witness : {n : ℕ} {ys ns : List ℕ} (aim : Aim) {f : ℕ} → Obeying n ys ns f → Denies aim f
    → Witness (Refutes n ys ns aim) (union aim.known.yes aim.known.no) (denied_by aim.known.yes aim.known.no f)
filling_witness {n} {ys} {ns} aim {f} x d =
    witness (union aim.known.yes aim.known.no) (denied_by aim.known.yes aim.known.no f) (refutes_rises n ys ns aim) (λ c. c.none f kept)
  where
    rest : ℕ
    rest = diff (union aim.known.yes aim.known.no) (denied_by aim.known.yes aim.known.no f)

    rest_at : (v : ℕ) → bit rest v ≡ bit (union aim.known.yes aim.known.no) v - bit (denied_by aim.known.yes aim.known.no f) v
    rest_at v = bit_diff (union aim.known.yes aim.known.no) (denied_by aim.known.yes aim.known.no f) v

    both_le : (v : ℕ) → bit (union aim.known.yes aim.known.no) v ≤ 1
    both_le v = bit_le (union aim.known.yes aim.known.no) v

    kept : Model n ys ns (aim_on aim rest) (aim_off aim rest) f
    kept =
        model_assigned (aim_assigned aim rest)
        (record {
          below = x.below;
          keeps = record { keeps = λ v. omega (arith, rest_at v, denied_at aim f v, bit_inter rest aim.known.yes v, both_le v, bit_le aim.known.yes v, bit_le f v) };
          avoids = record {
            avoids = λ v. omega (arith, rest_at v, denied_at aim f v, bit_inter rest aim.known.no v, both_le v, bit_le aim.known.no v, bit_le f v);
          };
          obeyed = x.obeyed;
        })
        d

-- what a model of the question makes false is met by every candidate of the part
pub model_hit : (n : ℕ) (ys ns : List ℕ) (aim : Aim) (s top f : ℕ) → Within top (union aim.known.yes aim.known.no) → Model n ys ns (aim_on aim s) (aim_off aim s) f
    → Hit (Refutes n ys ns aim) s top (denied_by aim.known.yes aim.known.no f)
model_hit n ys ns aim s top f w m =
    witness_hit s top (filling_witness aim (record { below = m.below; obeyed = m.obeyed }) it.1) w (record { avoids = avoids })
  where
    it : Model n ys ns (inter s aim.known.yes) (inter s aim.known.no) f × (bit f aim.goal ≡ digit (not aim.says))
    it = assigned_model (aim_assigned aim s) m

    avoids : (v : ℕ) → bit s v + bit (denied_by aim.known.yes aim.known.no f) v ≤ 1
    avoids v =
        omega (
          arith,
          denied_at aim f v,
          bit_inter s aim.known.yes v,
          bit_inter s aim.known.no v,
          it.0.keeps.keeps v,
          it.0.avoids.avoids v,
          bit_le s v,
          bit_le aim.known.yes v,
          bit_le aim.known.no v,
          bit_le f v,
        )

-- a set that forces the goal meets every filling of the pool that makes the goal false
pub meets_pool : {n : ℕ} {ys ns : List ℕ} (aim : Aim) {ms : List ℕ} → Pooled n ys ns ms → (t : ℕ)
    → Within t (union aim.known.yes aim.known.no) → Refutes n ys ns aim t → Meeting aim ms t
meets_pool aim p t w c = record { meets = λ i h d. (filling_witness aim (p.each i h) d).meets t w c }
