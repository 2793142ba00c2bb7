-- The cheapest set: the laws of a hitting-set search that goes depth first under a bound. It searches any sets of costed items, as masks of any
-- number of bits, with any contradiction test `Con` and any key that does not fall from a set to a superset. Assumes nothing.
use Rattle.std.specs.Prelude.{◌≡◌, refl, ◌⊎◌, ℕ, ◌≤◌, ◌<◌, Some, Option}
use Rattle.std.proofs.Common.{sym, ap, ◌∙◌, inl, inr, arith}
use Rattle.std.proofs.Math.Logic.{by_cases}
use Rattle.std.proofs.Math.Decide.{ℕ_discrete}
use Rattle.sets.specs.Sets.{bit, inter, insert, remove, Within, Apart}
use Rattle.sets.specs.Laws.Bits.{bit_le, bit_none, bit_inter, bit_insert_same, bit_remove_same, bit_remove_other}
use Rattle.sets.specs.Laws.Subset.{within_refl, within_trans, within_le, within_insert, in_insert}

-- ---- the least key

-- r is the least of the bound b and the keys of what has P.
pub record Least {A : Type 0} (P : A → Type 0) (key : A → ℕ) (b r : ℕ) : Type 0 where
  pub low : r ≤ b
  pub least : (t : A) → P t → r ≤ key t
  pub from : (r ≡ b) ⊎ ((t : A) × P t × (r ≡ key t))

-- r is the least of the keys of what has P.
pub record Minimum {A : Type 0} (P : A → Type 0) (key : A → ℕ) (r : ℕ) : Type 0 where
  pub least : (t : A) → P t → r ≤ key t
  pub from : (t : A) × P t × (r ≡ key t)

-- under a bound that is itself such a key
pub least_minimum : {A : Type 0} {P : A → Type 0} {key : A → ℕ} {b r : ℕ} → Least P key b r → (t : A) → P t → b ≡ key t → Minimum P key r
least_minimum {A} {P} {key} {b} {r} x t p e = record { least = x.least; from = go x.from }
  where
    go : (r ≡ b) ⊎ ((t : A) × P t × (r ≡ key t)) → (t : A) × P t × (r ≡ key t)
    go (inl d) = (t, p, d ∙ e)
    go (inr w) = w

module _ {A : Type 0} {key : A → ℕ} where
  -- nothing has P
  pub least_none : {P : A → Type 0} {b : ℕ} → ((t : A) → P t → ⊥) → Least P key b b
  least_none n = record { low = omega arith; least = λ t p. absurd (n t p); from = inl refl }

  -- P is Q or R: first those of Q, then those of R, under the bound that Q gave
  pub least_both : {P Q R : A → Type 0} {b m r : ℕ} → ((t : A) → P t → Q t ⊎ R t) → ((t : A) → Q t → P t) → ((t : A) → R t → P t)
      → Least Q key b m → Least R key m r → Least P key b r
  least_both {P} {Q} {R} {b} {m} {r} split left right x y =
      record { low = omega (arith, x.low, y.low); least = λ t p. under t (split t p); from = came y.from x.from }
    where
      under : (t : A) → Q t ⊎ R t → r ≤ key t
      under t (inl q) = omega (arith, x.least t q, y.low)
      under t (inr w) = y.least t w

      came : (r ≡ m) ⊎ ((t : A) × R t × (r ≡ key t)) → (m ≡ b) ⊎ ((t : A) × Q t × (m ≡ key t)) → (r ≡ b) ⊎ ((t : A) × P t × (r ≡ key t))
      came (inr w) g = inr (w.0, right w.0 w.1, w.2)
      came (inl e) (inl d) = inl (e ∙ d)
      came (inl e) (inr w) = inr (w.0, left w.0 w.1, e ∙ w.2)

-- the same keys under other names
pub least_same : {A B : Type 0} {P : A → Type 0} {key : A → ℕ} {R : B → Type 0} {other : B → ℕ} {b r : ℕ}
    → ((x : B) → R x → (t : A) × P t × (key t ≡ other x)) → ((t : A) → P t → (x : B) × R x × (other x ≡ key t)) → Least P key b r
    → Least R other b r
least_same {A} {B} {P} {key} {R} {other} {b} {r} back forth l =
    record { low = l.low; least = λ x p. under x (back x p); from = came l.from }
  where
    under : (x : B) → (t : A) × P t × (key t ≡ other x) → r ≤ other x
    under x w = omega (arith, l.least w.0 w.1, w.2)

    came : (r ≡ b) ⊎ ((t : A) × P t × (r ≡ key t)) → (r ≡ b) ⊎ ((x : B) × R x × (r ≡ other x))
    came (inl e) = inl e
    came (inr w) = let o = forth w.0 w.1 in inr (o.0, o.1, w.2 ∙ sym o.2)

-- ---- one element more, one less

pub remove_within : (t v : ℕ) → Within (remove t v) t
remove_within t v = record { keeps = at }
  where
    at : (u : ℕ) → bit (remove t v) u ≤ bit t u
    at u = by_cases (ℕ_discrete u v) (λ q. rw q (omega (arith, bit_remove_same t v))) (λ q. omega (arith, bit_remove_other t v u q))

pub within_remove : (s t v : ℕ) → Within s t → bit s v ≡ 0 → Within s (remove t v)
within_remove s t v w e = record { keeps = at }
  where
    at : (u : ℕ) → bit s u ≤ bit (remove t v) u
    at u = by_cases (ℕ_discrete u v) (λ q. rw q (omega arith)) (λ q. omega (arith, bit_remove_other t v u q, w.keeps u))

-- a set with one element more is a larger number, and a set with one less a smaller one
pub insert_more : (s v : ℕ) → bit s v ≡ 0 → s < insert s v
insert_more s v e =
    let ne : s ≡ insert s v → ⊥ = λ p. omega (arith, ap (λ (x : ℕ). bit x v) p, bit_insert_same s v) in
    omega (arith, within_le s (insert s v) (in_insert s v))

pub remove_less : (t v : ℕ) → bit t v ≡ 1 → remove t v < t
remove_less t v e =
    let ne : remove t v ≡ t → ⊥ = λ p. omega (arith, ap (λ (x : ℕ). bit x v) p, bit_remove_same t v) in
    omega (arith, within_le (remove t v) t (remove_within t v))

-- ---- the sets between s and top

-- The set t contradicts, holds s and lies within top.
pub record InInterval (Con : ℕ → Type 0) (s top t : ℕ) : Type 0 where
  pub above : Within s t
  pub below : Within t top
  pub holds : Con t

module _ {Con : ℕ → Type 0} {s t : ℕ} where
  -- the same with a larger limit, and with fewer elements to hold
  pub interval_below : {limit top : ℕ} → Within limit top → InInterval Con s limit t → InInterval Con s top t
  interval_below {limit} {top} w p = record { above = p.above; below = within_trans t limit top p.below w; holds = p.holds }

  pub interval_above : {more top : ℕ} → Within s more → InInterval Con more top t → InInterval Con s top t
  interval_above {more} w p = record { above = within_trans s more t w p.above; below = p.below; holds = p.holds }

  -- and of a weaker test
  pub interval_weaker : {Other : ℕ → Type 0} {top : ℕ} → ((t : ℕ) → Within t top → Other t → Con t) → InInterval Other s top t → InInterval Con s top t
  interval_weaker implies p = record { above = p.above; below = p.below; holds = implies t p.below p.holds }

-- The key does not fall from a set to a superset.
pub record Monotone (key : ℕ → ℕ) : Type 0 where
  pub rises : (s t : ℕ) → Within s t → key s ≤ key t

-- The oracle's second answer: w is apart from s, and every contradicting set between s and top meets w.
pub record Hit (Con : ℕ → Type 0) (s top w : ℕ) : Type 0 where
  pub apart : Apart s w
  pub meets : (t : ℕ) → InInterval Con s top t → (v : ℕ) × (bit w v ≡ 1) × (bit t v ≡ 1)

module _ {Con : ℕ → Type 0} {key : ℕ → ℕ} {s top : ℕ} where
  -- s contradicts, and no superset has a lower key
  pub hit : {b : ℕ} → Monotone key → Within s top → Con s → key s < b → Least (InInterval Con s top) key b (key s)
  hit m w c h =
      record {
        low = omega arith;
        least = λ t p. m.rises s t p.above;
        from = inr (s, record { above = within_refl s; below = w; holds = c }, refl);
      }

  -- no member of the witness is left: no set between s and top contradicts
  pub no_member : {b w : ℕ} → Hit Con s top w → inter w top ≡ 0 → Least (InInterval Con s top) key b b
  no_member {b} {w} h z = least_none (λ t p. clash t p (h.meets t p))
    where
      clash : (t : ℕ) → InInterval Con s top t → (v : ℕ) × (bit w v ≡ 1) × (bit t v ≡ 1) → ⊥
      clash t p (v, a, c) = omega (arith, bit_inter w top v, bit_none (inter w top) v z, p.below.keeps v, bit_le top v)

  -- a member v of the witness within top: the sets with v, and then those without it
  pub branch_on : (v : ℕ) {b m r : ℕ} → Within s top → bit s v ≡ 0 → bit top v ≡ 1 → Least (InInterval Con (insert s v) top) key b m
      → Least (InInterval Con s (remove top v)) key m r → Least (InInterval Con s top) key b r
  branch_on v w i o x y = least_both split (λ t. interval_above (in_insert s v)) (λ t. interval_below (remove_within top v)) x y
    where
      split : (t : ℕ) → InInterval Con s top t → InInterval Con (insert s v) top t ⊎ InInterval Con s (remove top v) t
      split t p =
          by_cases (ℕ_discrete (bit t v) 1)
          (λ e. inl (record { above = within_insert s v t p.above e; below = p.below; holds = p.holds }))
          (λ d. inr (record { above = p.above; below = within_remove t top v p.below (omega (arith, bit_le t v)); holds = p.holds }))

-- a witness serves for a smaller limit
pub hit_narrow : {Con : ℕ → Type 0} {s top limit w : ℕ} → Hit Con s top w → Within limit top → Hit Con s limit w
hit_narrow h i = record { apart = h.apart; meets = λ t p. h.meets t (interval_below i p) }

-- and for the items within the limit alone
pub hit_within : {Con : ℕ → Type 0} {s top w : ℕ} → Hit Con s top w → Hit Con s top (inter w top)
hit_within {Con} {s} {top} {w} h =
    record {
      apart = record { avoids = λ v. omega (arith, h.apart.avoids v, bit_inter w top v, bit_le top v) };
      meets = λ t p. let m = h.meets t p in (m.0, both t p m.0 m.1 m.2, m.2);
    }
  where
    both : (t : ℕ) → InInterval Con s top t → (v : ℕ) → bit w v ≡ 1 → bit t v ≡ 1 → bit (inter w top) v ≡ 1
    both t p v i m = omega (arith, bit_inter w top v, p.below.keeps v, bit_le top v)

-- a witness serves for a stronger test
pub hit_stronger : {Con Other : ℕ → Type 0} {s top w : ℕ} → ((t : ℕ) → Within t top → Other t → Con t) → Hit Con s top w → Hit Other s top w
hit_stronger implies h = record { apart = h.apart; meets = λ t p. h.meets t (interval_weaker implies p) }

-- The set that is given, if one is, is a witness.
pub record Witnessed (Con : ℕ → Type 0) (s top : ℕ) (given : Option ℕ) : Type 0 where
  pub hits : (w : ℕ) → given ≡ Some w → Hit Con s top w
