-- The computed forms of contradiction and forcing, and their logical forms: for every filling.
-- Assumes nothing.
use Rattle.std.specs.Prelude.{◌≡◌, Bool, cond, ◌&&◌, ◌||◌, ℕ, zero, suc, ◌+◌, ◌≤◌, ◌<◌, ◌^◌}
use Rattle.std.proofs.Math.Path.{refl, ap₂}
use Rattle.std.proofs.Common.{sym, ap, ◌∙◌, true≢false, pow-suc, arith}
use Rattle.std.proofs.Math.Bool.{true, false, not, false≢true}
use Rattle.std.proofs.Math.Logic.{by_cases}
use Rattle.std.proofs.Math.Decide.{ℕ_discrete}
use Rattle.std.proofs.lemmas.Bool.{not-true}
use Rattle.sets.specs.Sets.{bit, has, insert}
use Rattle.sets.specs.Laws.Bits.{bit_zero, bit_le, bit_insert_same, bit_insert_other, insert_lt, member_lt, ext_below}
use Rattle.sets.specs.Laws.Subset.{has_true, has_false, one_has, zero_has}
use Rattle.literals.specs.Laws.{and_both}
use Rattle.sat.specs.Meaning.{every_filling, extends}
use Rattle.propagation.specs.Promises.{digit}
use Rattle.sat.specs.Laws.Fillings.{every_all, all_every, every_fails}
use Rattle.sat.specs.Laws.Rules.{extends_both, both_extends}
use Rattle.consequence.specs.Meaning.{Theory, obeying, contradicts, forces_yes, forces_no, collect, yes_forced, no_forced, ModelOf, NoModelOf}

-- an implication as a test
pub implied : (a c : Bool) → not a || c ≡ true → a ≡ true → c ≡ true
implied true c e h = e
implied false c e h = absurd (false≢true h)

pub implies : (a c : Bool) → (a ≡ true → c ≡ true) → not a || c ≡ true
implies true c h = h refl
implies false c h = refl

module _ (p : Theory) (on off : ℕ) where
  pub obeying_model : (f : ℕ) → f < 2 ^ p.variables → obeying p on off f ≡ true → ModelOf p on off f
  unfolding obeying extends
  obeying_model f h e =
      let s = and_both (p.obeyed f) (extends on off f) e in
      let x = extends_both on off f s.1 in
      record { below = h; keeps = x.0; avoids = x.1; obeyed = s.0 }

  pub model_obeying : (f : ℕ) → ModelOf p on off f → obeying p on off f ≡ true
  unfolding obeying extends
  model_obeying f m = ap₂ (λ (x : Bool) (y : Bool). x && y) m.obeyed (both_extends on off f m.keeps m.avoids)

  -- ---- contradiction

  pub contradicts_none : contradicts p on off ≡ true → NoModelOf p on off
  unfolding contradicts
  contradicts_none e = record { none = λ f m. clash f m (every_all _ _ e f m.below) }
    where
      clash : (f : ℕ) → ModelOf p on off f → not (obeying p on off f) ≡ true → ⊥
      clash f m t = false≢true (sym (ap not (model_obeying f m)) ∙ t)

  pub none_contradicts : NoModelOf p on off → contradicts p on off ≡ true
  unfolding contradicts
  none_contradicts n = all_every _ _ (λ f h. go f h (obeying p on off f) refl)
    where
      go : (f : ℕ) → f < 2 ^ p.variables → (b : Bool) → obeying p on off f ≡ b → not b ≡ true
      go f h true e = absurd (n.none f (obeying_model f h e))
      go f h false e = refl

  pub contradicts_not : contradicts p on off ≡ false → (f : ℕ) × ModelOf p on off f
  unfolding contradicts
  contradicts_not e =
      let w = every_fails _ _ e in
      (w.0, go w.0 w.1 (obeying p on off w.0) refl w.2)
    where
      go : (f : ℕ) → f < 2 ^ p.variables → (b : Bool) → obeying p on off f ≡ b → not b ≡ false → ModelOf p on off f
      go f h true e t = obeying_model f h e
      go f h false e t = absurd (true≢false t)

  pub model_contradicts : (f : ℕ) → ModelOf p on off f → contradicts p on off ≡ false
  model_contradicts f m = go (contradicts p on off) refl
    where
      go : (b : Bool) → contradicts p on off ≡ b → b ≡ false
      go true e = absurd ((contradicts_none e).none f m)
      go false e = refl

  -- ---- forcing, of either value

  -- whether a filling gives the variable the value
  abbrev gives : Bool → ℕ → ℕ → Bool
  gives true f v = has f v
  gives false f v = not (has f v)

  gives_digit : (value : Bool) (f v : ℕ) → gives value f v ≡ true → bit f v ≡ digit value
  gives_digit true f v e = has_true f v e
  gives_digit false f v e = has_false f v (not-true (has f v) e)

  digit_gives : (value : Bool) (f v : ℕ) → bit f v ≡ digit value → gives value f v ≡ true
  digit_gives true f v e = one_has f v e
  digit_gives false f v e = ap not (zero_has f v e)

  -- the set forces the variable to the value: `forces_yes` and `forces_no`
  abbrev forces_to : Bool → ℕ → Bool
  forces_to value v = every_filling p.variables (λ f. not (obeying p on off f) || gives value f v)

  forces_digit : (value : Bool) (v : ℕ) → forces_to value v ≡ true → (f : ℕ) → ModelOf p on off f → bit f v ≡ digit value
  forces_digit value v e f m = gives_digit value f v (implied _ _ (every_all _ _ e f m.below) (model_obeying f m))

  digit_forces : (value : Bool) (v : ℕ) → ((f : ℕ) → ModelOf p on off f → bit f v ≡ digit value) → forces_to value v ≡ true
  digit_forces value v h = all_every _ _ (λ f l. implies _ _ (λ o. digit_gives value f v (h f (obeying_model f l o))))

-- ---- the set that a test collects

pub collect_lt : (n : ℕ) (t : ℕ → Bool) → collect n t < 2 ^ n
unfolding collect
collect_lt zero t = omega arith
collect_lt (suc n) t = go (t n) (omega (arith, collect_lt n t, pow-suc 2 n))
  where
    go : (b : Bool) → collect n t < 2 ^ suc n → cond b (insert (collect n t) n) (collect n t) < 2 ^ suc n
    go true wider = insert_lt (suc n) (collect n t) n wider (omega arith)
    go false wider = wider

pub collect_in : (n : ℕ) (t : ℕ → Bool) (v : ℕ) → v < n → t v ≡ true → bit (collect n t) v ≡ 1
unfolding collect
collect_in zero t v h e = absurd (omega arith)
collect_in (suc n) t v h e = go (t n) refl (ℕ_discrete v n) (collect_in n t v)
  where
    go : (b : Bool) → t n ≡ b → Dec (v ≡ n) → (v < n → t v ≡ true → bit (collect n t) v ≡ 1) → bit (cond b (insert (collect n t) n) (collect n t)) v ≡ 1
    go true d (yes q) ih = rw q (bit_insert_same (collect n t) n)
    go true d (no q) ih = bit_insert_other (collect n t) n v q ∙ ih (omega arith) e
    go false d (yes q) ih = absurd (false≢true (sym d ∙ ap t (sym q) ∙ e))
    go false d (no q) ih = ih (omega arith) e

pub collect_out : (n : ℕ) (t : ℕ → Bool) (v : ℕ) → t v ≡ false → bit (collect n t) v ≡ 0
unfolding collect
collect_out zero t v e = bit_zero v
collect_out (suc n) t v e = go (t n) refl (ℕ_discrete v n) (collect_out n t v e)
  where
    go : (b : Bool) → t n ≡ b → Dec (v ≡ n) → bit (collect n t) v ≡ 0 → bit (cond b (insert (collect n t) n) (collect n t)) v ≡ 0
    go true d (yes q) ih = absurd (true≢false (sym d ∙ ap t (sym q) ∙ e))
    go true d (no q) ih = bit_insert_other (collect n t) n v q ∙ ih
    go false d q ih = ih

pub collect_true : (n : ℕ) (t : ℕ → Bool) (v : ℕ) → bit (collect n t) v ≡ 1 → (v < n) × (t v ≡ true)
collect_true n t v e = (member_lt n _ v e (collect_lt n t), go (t v) refl)
  where
    go : (b : Bool) → t v ≡ b → b ≡ true
    go true d = refl
    go false d = absurd (omega (arith, collect_out n t v d))

-- ---- the literals over choices that a set forces, in the logical form

-- The variables of `m` are exactly the choices that have the digit d in every model of the rules and the set.
pub record Exactly (p : Theory) (on off d m : ℕ) : Type 0 where
  pub below : m < 2 ^ p.variables
  pub sound : (v : ℕ) → bit m v ≡ 1 → (bit p.choices v ≡ 1) × ((f : ℕ) → ModelOf p on off f → bit f v ≡ d)
  pub complete : (v : ℕ) → v < p.variables → bit p.choices v ≡ 1 → ((f : ℕ) → ModelOf p on off f → bit f v ≡ d) → bit m v ≡ 1

-- so there is one such mask
pub exactly_unique : (p : Theory) (on off d m k : ℕ) → Exactly p on off d m → Exactly p on off d k → m ≡ k
exactly_unique p on off d m k x y = ext_below p.variables m k x.below y.below (λ v h. go v h (ℕ_discrete (bit m v) 1) (ℕ_discrete (bit k v) 1))
  where
    go : (v : ℕ) → v < p.variables → Dec (bit m v ≡ 1) → Dec (bit k v ≡ 1) → bit m v ≡ bit k v
    go v h (yes a) b = let s = x.sound v a in a ∙ sym (y.complete v h s.0 s.1)
    go v h (no a) (yes b) = let s = y.sound v b in absurd (a (x.complete v h s.0 s.1))
    go v h (no a) (no b) = omega (arith, bit_le m v, bit_le k v)

module _ (p : Theory) (on off : ℕ) where
  forced_exactly : (value : Bool) → Exactly p on off (digit value) (collect p.variables (λ v. has p.choices v && forces_to p on off value v))
  forced_exactly value =
      record {
        below = collect_lt _ _;
        sound = λ v e. sound v (and_both _ _ (collect_true _ _ v e).1);
        complete = λ v h c a. collect_in _ _ v h (rw (one_has p.choices v c) (digit_forces p on off value v a));
      }
    where
      sound : (v : ℕ) → (has p.choices v ≡ true) × (forces_to p on off value v ≡ true)
          → (bit p.choices v ≡ 1) × ((f : ℕ) → ModelOf p on off f → bit f v ≡ digit value)
      sound v w = (has_true _ _ w.0, forces_digit p on off value v w.1)

  pub yes_exactly : Exactly p on off 1 (yes_forced p on off)
  unfolding yes_forced forces_yes
  yes_exactly = forced_exactly true

  pub no_exactly : Exactly p on off 0 (no_forced p on off)
  unfolding no_forced forces_no
  no_exactly = forced_exactly false

  -- every model of a set makes all that the set forces true
  pub forced_model : (f : ℕ) → ModelOf p on off f → ModelOf p (yes_forced p on off) (no_forced p on off) f
  forced_model f m = record { below = m.below; keeps = record { keeps = keeps }; avoids = record { avoids = avoids }; obeyed = m.obeyed }
    where
      keeps : (v : ℕ) → bit (yes_forced p on off) v ≤ bit f v
      keeps v =
          by_cases (ℕ_discrete (bit (yes_forced p on off) v) 1) (λ e. omega (arith, e, (yes_exactly.sound v e).1 f m))
          (λ e. omega (arith, bit_le (yes_forced p on off) v))

      avoids : (v : ℕ) → bit (no_forced p on off) v + bit f v ≤ 1
      avoids v =
          by_cases (ℕ_discrete (bit (no_forced p on off) v) 1) (λ e. omega (arith, e, (no_exactly.sound v e).1 f m))
          (λ e. omega (arith, bit_le (no_forced p on off) v, bit_le f v))
