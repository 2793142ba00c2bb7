-- Witnesses: sets of items that every contradicting set meets, and the pool that they come from. Assumes nothing.
use Rattle.std.specs.Prelude.{◌≡◌, refl, ◌≢◌, ◌⊎◌, Bool, true, false, List, [], ℕ, ◌+◌, ◌≤◌, ◌<◌, length, get_or, set, take}
use Rattle.std.proofs.Common.{sym, subst, ◌∙◌, inl, inr, arith, length-set, get_or-set_same, get_or-set_other}
use Rattle.std.proofs.lemmas.List.{get_or-take, length-take-le}
use Rattle.std.proofs.Math.Logic.{by_cases}
use Rattle.std.proofs.Math.Decide.{ℕ_discrete}
use Rattle.sets.specs.Sets.{bit, diff, disjoint, Within, Apart}
use Rattle.sets.specs.Laws.Bits.{bit_le, bit_diff}
use Rattle.sets.specs.Laws.Subset.{within_trans, disjoint_apart, disjoint_false}
use Rattle.items.specs.Cheapest.{Hit}

-- ---- witnesses

-- The test is monotone: a set that contradicts does so with more items.
pub record Rising (Con : ℕ → Type 0) : Type 0 where
  pub rises : (s t : ℕ) → Within s t → Con s → Con t

-- Every set of items of `all` that contradicts holds an item of w.
pub record Witness (Con : ℕ → Type 0) (all w : ℕ) : Type 0 where
  pub meets : (t : ℕ) → Within t all → Con t → (v : ℕ) × (bit w v ≡ 1) × (bit t v ≡ 1)

-- so it is where all items but those of w do not contradict
pub witness : {Con : ℕ → Type 0} (all w : ℕ) → Rising Con → (Con (diff all w) → ⊥) → Witness Con all w
witness {Con} all w r n = record { meets = λ t i c. found t i c (disjoint t w) refl }
  where
    found : (t : ℕ) → Within t all → Con t → (b : Bool) → disjoint t w ≡ b → (v : ℕ) × (bit w v ≡ 1) × (bit t v ≡ 1)
    found t i c true e = absurd (n (r.rises t (diff all w) (record { keeps = rest }) c))
      where
        rest : (v : ℕ) → bit t v ≤ bit (diff all w) v
        rest v = omega (arith, bit_diff all w v, i.keeps v, (disjoint_apart t w e).avoids v, bit_le t v, bit_le all v)
    found t i c false e = let m = disjoint_false t w e in (m.0, m.2, m.1)

-- a witness that shares nothing with s, for the sets between s and top
pub witness_hit : {Con : ℕ → Type 0} {all w : ℕ} (s top : ℕ) → Witness Con all w → Within top all → Apart s w → Hit Con s top w
witness_hit {all = all} s top x i a =
    record { apart = a; meets = λ t p. x.meets t (within_trans t top all p.below i) p.holds }

-- ---- the pool

-- Each number of the pool has P.
pub record Pool (P : ℕ → Type 0) (ms : List ℕ) : Type 0 where
  pub each : (i : ℕ) → i < length ms → P (get_or ms i 0)

pub pool_empty : {P : ℕ → Type 0} → Pool P []
pool_empty = record { each = λ i h. absurd (omega arith) }

-- Each number of us is m or one of the numbers of ms.
pub record Kept (ms : List ℕ) (m : ℕ) (us : List ℕ) : Type 0 where
  pub each : (i : ℕ) → i < length us → (get_or us i 0 ≡ m) ⊎ ((i < length ms) × (get_or us i 0 ≡ get_or ms i 0))

-- so the pool keeps what it has
pub pool_kept : {P : ℕ → Type 0} {ms us : List ℕ} {m : ℕ} → Pool P ms → P m → Kept ms m us → Pool P us
pool_kept {P} {ms} {us} {m} x p k = record { each = λ i h. at i (k.each i h) }
  where
    at : (i : ℕ) → (get_or us i 0 ≡ m) ⊎ ((i < length ms) × (get_or us i 0 ≡ get_or ms i 0)) → P (get_or us i 0)
    at i (inl e) = subst P (sym e) p
    at i (inr w) = subst P (sym w.1) (x.each i w.0)

-- a number is put behind the first `used` of a list, or over one of its numbers
at_set : (ms : List ℕ) (used m at i : ℕ) → used ≤ length ms → at < length ms → (i ≢ at → i < used)
    → (get_or (set ms at m) i 0 ≡ m) ⊎ ((i < length (take used ms)) × (get_or (set ms at m) i 0 ≡ get_or (take used ms) i 0))
at_set ms used m at i r h q =
    by_cases (ℕ_discrete i at) (λ e. inl (rw e (get_or-set_same ms at m 0 h)))
    (λ e. inr (
      omega (arith, length-take-le used ms r, q e),
      get_or-set_other ms at i m 0 e ∙ sym (get_or-take used ms i 0 (q e)),
    ))

module _ (ms : List ℕ) (used m : ℕ) where
  pub kept_more : used < length ms → Kept (take used ms) m (take (used + 1) (set ms used m))
  kept_more h = record { each = at }
    where
      within : used + 1 ≤ length (set ms used m)
      within = omega (arith, length-set ms used m)

      at : (i : ℕ) → i < length (take (used + 1) (set ms used m))
          → (get_or (take (used + 1) (set ms used m)) i 0 ≡ m)
          ⊎ ((i < length (take used ms)) × (get_or (take (used + 1) (set ms used m)) i 0 ≡ get_or (take used ms) i 0))
      at i l =
          let less : i < used + 1 = omega (arith, l, length-take-le (used + 1) (set ms used m) within) in
          rw (get_or-take (used + 1) (set ms used m) i 0 less)
          (at_set ms used m used i (omega arith) h (λ e. let ne : i ≡ used → ⊥ = e in omega arith))

  pub kept_over : (at : ℕ) → used ≤ length ms → at < length ms → Kept (take used ms) m (take used (set ms at m))
  kept_over at r h = record { each = over }
    where
      within : used ≤ length (set ms at m)
      within = omega (arith, length-set ms at m)

      over : (i : ℕ) → i < length (take used (set ms at m))
          → (get_or (take used (set ms at m)) i 0 ≡ m)
          ⊎ ((i < length (take used ms)) × (get_or (take used (set ms at m)) i 0 ≡ get_or (take used ms) i 0))
      over i l =
          let less : i < used = omega (arith, l, length-take-le used (set ms at m) within) in
          rw (get_or-take used (set ms at m) i 0 less) (at_set ms used m at i r h (λ e. less))

pub kept_same : {ms : List ℕ} (m : ℕ) → Kept ms m ms
kept_same m = record { each = λ i l. inr (l, refl) }

pub ruleset kept_laws = (kept_more, kept_over, kept_same)
