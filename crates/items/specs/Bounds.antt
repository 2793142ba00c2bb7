-- The residual bound: a lower bound on the keys of a part, which uses up the weights of items witness by witness; and what it shuts out. It holds
-- for any number of items, any weights, any contradiction test. Assumes nothing.
use Rattle.std.specs.Prelude.{◌≡◌, refl, ◌⊎◌, ℕ, ◌+◌, ◌-◌, ◌*◌, ◌^◌, ◌≤◌, ◌<◌}
use Rattle.std.proofs.Math.Path.{ap}
use Rattle.std.proofs.Common.{inl, inr}
use Rattle.std.proofs.Math.Logic.{by_cases}
use Rattle.std.proofs.Math.Nat.{mul-le-mul_left}
use Rattle.std.proofs.Math.Decide.{ℕ_discrete, dec_lt}
use native.Mathlib.Omega.{arith}
use Rattle.sets.specs.Sets.{bit, union, diff, Within, Apart}
use Rattle.sets.specs.Laws.Bits.{bit_le, bit_union, bit_diff, member_lt}
use Rattle.sets.specs.Laws.Subset.{within_refl, in_union}
use Rattle.items.specs.Weights.{total}
use Rattle.items.specs.Cheapest.{Least, InInterval, interval_below, interval_weaker}
use Rattle.items.specs.Laws.Sums.{sum_drop, total_rest, total_member}

-- The key of a set of n items is a sum: a base and the weights of its items.
abbrev pub sum_key : ℕ → (ℕ → ℕ) → ℕ → ℕ → ℕ
sum_key base w n s = base + total w n s

-- For every contradicting set between s and top, the bound and what is left of the weights of its items outside s are together at most its key.
pub record LowerBound (Con : ℕ → Type 0) (key : ℕ → ℕ) (n s top : ℕ) (left : ℕ → ℕ) (bound : ℕ) : Type 0 where
  pub under : (t : ℕ) → InInterval Con s top t → bound + total left n (diff t s) ≤ key t

-- The same holds of top itself, so that the bound stays below its key.
pub record Bounding (Con : ℕ → Type 0) (key : ℕ → ℕ) (n s top : ℕ) (left : ℕ → ℕ) (bound : ℕ) : Type 0 where
  pub lower : LowerBound Con key n s top left bound
  pub fits : bound + total left n (diff top s) ≤ key top

-- at first the bound is the key of s, and the weights are whole
pub bounding_start : {Con : ℕ → Type 0} (base : ℕ) (w : ℕ → ℕ) (n s top : ℕ) → Within s top → Bounding Con (sum_key base w n) n s top w (sum_key base w n s)
bounding_start base w n s top h =
    record {
      lower = record { under = λ t p. omega (arith, total_rest w n s t p.above) };
      fits = omega (arith, total_rest w n s top h);
    }

module _ (n s top : ℕ) (left less : ℕ → ℕ) (o amount : ℕ) (small : top < 2 ^ n) (apart : Apart s o)
    (taken : (v : ℕ) → less v + bit o v * amount ≡ left v) where
  -- a set that meets o loses the amount at least once
  charged : (t : ℕ) → Within t top → (v : ℕ) × (bit o v ≡ 1) × (bit t v ≡ 1) → total less n (diff t s) + amount ≤ total left n (diff t s)
  unfolding total
  charged t h (v, i, m) =
      sum_drop n (λ u. bit (diff t s) u * left u) (λ u. bit (diff t s) u * less u) v amount
      (member_lt n top v (omega (arith, m, h.keeps v, bit_le top v)) small)
      (λ u. mul-le-mul_left (bit (diff t s) u) (omega (arith, taken u)))
      (omega (
        arith,
        taken v,
        ap (λ (d : ℕ). d * amount) i,
        ap (λ (d : ℕ). d * left v) here,
        ap (λ (d : ℕ). d * less v) here,
      ))
    where
      here : bit (diff t s) v ≡ 1
      here = omega (arith, bit_diff t s v, i, m, apart.avoids v)

  -- the least weight left among the items of a witness goes from them to the bound
  pub bounding_charge : {Con : ℕ → Type 0} {key : ℕ → ℕ} {bound : ℕ} → Bounding Con key n s top left bound
      → ((t : ℕ) → InInterval Con s top t → (v : ℕ) × (bit o v ≡ 1) × (bit t v ≡ 1)) → (v : ℕ) × (bit o v ≡ 1) × (bit top v ≡ 1)
      → Bounding Con key n s top less (bound + amount)
  bounding_charge b meets some =
      record {
        lower = record { under = λ t p. omega (arith, b.lower.under t p, charged t p.below (meets t p)) };
        fits = omega (arith, b.fits, charged top (within_refl top) some);
      }

-- Each contradicting set between s and top with a key below best lies within the limit.
pub record Narrowed (Con : ℕ → Type 0) (key : ℕ → ℕ) (s top best limit : ℕ) : Type 0 where
  pub nested : Within s limit
  pub smaller : Within limit top
  pub below_best : (t : ℕ) → InInterval Con s top t → key t < best → Within t limit

module _ {Con : ℕ → Type 0} {key : ℕ → ℕ} {n s top : ℕ} {left : ℕ → ℕ} {bound : ℕ} (b : LowerBound Con key n s top left bound) where
  -- dead: no set of the part has a key below best
  pub dead : {best : ℕ} → best ≤ bound → Least (InInterval Con s top) key best best
  dead h = record { low = omega arith; least = λ t p. omega (arith, b.under t p); from = inl refl }

  -- fixing: an item whose weight left is at least best - bound is in no set with a key below best
  pub fixing : {best : ℕ} (kept : ℕ) → top < 2 ^ n → Within s top → bound < best → Within kept (diff top s)
      → ((v : ℕ) → bit (diff top s) v ≡ 1 → left v < best - bound → bit kept v ≡ 1) → Narrowed Con key s top best (union s kept)
  fixing {best} kept small h low inside light =
      record {
        nested = in_union s kept;
        smaller = record { keeps = λ v. omega (arith, bit_union s kept v, h.keeps v, inside.keeps v, bit_diff top s v) };
        below_best = λ t p k. record { keeps = at t p k };
      }
    where
      outside : (t : ℕ) → InInterval Con s top t → key t < best → (v : ℕ) → bit t v ≡ 1 → bit s v ≡ 0 → bit kept v ≡ 1
      outside t p k v i o =
          light v (omega (arith, bit_diff top s v, p.below.keeps v, bit_le top v))
          (omega (
            arith,
            b.under t p,
            total_member left n (diff t s) v (member_lt n top v (omega (arith, i, p.below.keeps v, bit_le top v)) small)
                (omega (arith, bit_diff t s v)),
          ))

      at : (t : ℕ) → InInterval Con s top t → key t < best → (v : ℕ) → bit t v ≤ bit (union s kept) v
      at t p k v =
          by_cases (ℕ_discrete (bit t v) 1)
          (λ i.
          by_cases (ℕ_discrete (bit s v) 0) (λ o. omega (arith, bit_union s kept v, outside t p k v i o)) (λ o. omega (arith, bit_union s kept v)))
          (λ i. omega (arith, bit_le t v))

-- where no set contradicts, any number is a bound
pub no_set : {Con : ℕ → Type 0} {key : ℕ → ℕ} {n s top : ℕ} {left : ℕ → ℕ} {bound : ℕ} → ((t : ℕ) → InInterval Con s top t → ⊥)
    → LowerBound Con key n s top left bound
no_set none = record { under = λ t p. absurd (none t p) }

-- the sets with a key below b lie within a smaller limit: it will do
pub narrowed : {Con : ℕ → Type 0} {key : ℕ → ℕ} {s top limit b r : ℕ} → Narrowed Con key s top b limit → Least (InInterval Con s limit) key b r
    → Least (InInterval Con s top) key b r
narrowed {Con} {key} {s} {top} {limit} {b} {r} x l = record { low = l.low; least = least; from = from l.from }
  where
    least : (t : ℕ) → InInterval Con s top t → r ≤ key t
    least t p =
        by_cases (dec_lt (key t) b) (λ k. l.least t (record { above = p.above; below = x.below_best t p k; holds = p.holds }))
        (λ k. omega (arith, l.low))

    from : (r ≡ b) ⊎ ((t : ℕ) × InInterval Con s limit t × (r ≡ key t)) → (r ≡ b) ⊎ ((t : ℕ) × InInterval Con s top t × (r ≡ key t))
    from (inl e) = inl e
    from (inr w) = inr (w.0, interval_below x.smaller w.1, w.2)

-- the same of a stronger test
module _ {Con Other : ℕ → Type 0} {s top : ℕ} (implies : (t : ℕ) → Within t top → Other t → Con t) where
  pub dead_stronger : {key : ℕ → ℕ} {best : ℕ} → Least (InInterval Con s top) key best best → Least (InInterval Other s top) key best best
  dead_stronger l = record { low = l.low; least = λ t p. l.least t (interval_weaker implies p); from = inl refl }

  pub narrowed_stronger : {key : ℕ → ℕ} {best limit : ℕ} → Narrowed Con key s top best limit → Narrowed Other key s top best limit
  narrowed_stronger x = record { nested = x.nested; smaller = x.smaller; below_best = λ t p. x.below_best t (interval_weaker implies p) }
