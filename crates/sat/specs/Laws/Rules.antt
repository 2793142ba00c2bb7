-- Rules as masks and as lists of literals, and models as tests. Assumes nothing.
use Rattle.std.specs.Prelude.{◌≡◌, refl, ◌⊎◌, Bool, true, ◌&&◌, ℕ, zero, suc, ◌^◌, ◌≤◌, ◌<◌, length, get_or}
use Rattle.std.proofs.Common.{ap, ap₂, ◌∙◌, inl, inr, suc-le-suc, arith, pow_pos}
use mathlib.Core.List.Memᴰ
use mathlib.Core.List.{List, [], ◌∷◌, map, Memᴰ}
use Rattle.sets.specs.Sets.{single, subset, disjoint, Within, Apart}
use Rattle.sets.specs.Laws.Bits.{union_lt, single_lt}
use Rattle.sets.specs.Laws.Subset.{subset_within, within_subset, disjoint_apart, apart_disjoint}
use Rattle.literals.specs.Literal.{Literal, variable}
use Rattle.literals.specs.Truth.{yes_mask, no_mask, obeys, obeys_masks, all_hold_masks}
use Rattle.literals.specs.Laws.{masks_obey, sign_bit, sign_mask, mask_none, mask_more, sign_bit_lem, and_both}
use Rattle.propagation.specs.Promises.{MasksBelow}
use Rattle.sat.specs.Meaning.{obeys_rules, obeys_all, extends}

both_and : (a b : Bool) → a ≡ true → b ≡ true → a && b ≡ true
both_and a b p q = ap₂ (λ x y. x && y) p q

-- ---- all rules, one by one

pub obeys_at : (f : ℕ) (ys ns : List ℕ) (i : ℕ) → obeys_all f ys ns ≡ true → i < length ys → i < length ns
    → obeys_masks f (get_or ys i 0) (get_or ns i 0) ≡ true
unfolding obeys_all
obeys_at f [] ns i e h k = absurd (omega arith)
obeys_at f (y ∷ ys) [] i e h k = absurd (omega arith)
obeys_at f (y ∷ ys) (n ∷ ns) zero e h k = (and_both (obeys_masks f y n) (obeys_all f ys ns) e).0
obeys_at f (y ∷ ys) (n ∷ ns) (suc i) e h k = obeys_at f ys ns i (and_both (obeys_masks f y n) (obeys_all f ys ns) e).1 (omega arith) (omega arith)

pub obeys_each : (f : ℕ) (ys ns : List ℕ) → ((i : ℕ) → i < length ys → obeys_masks f (get_or ys i 0) (get_or ns i 0) ≡ true)
    → obeys_all f ys ns ≡ true
unfolding obeys_all
obeys_each f [] ns h = refl
obeys_each f (y ∷ ys) [] h = refl
obeys_each f (y ∷ ys) (n ∷ ns) h =
    both_and (obeys_masks f y n) (obeys_all f ys ns) (h zero (omega arith)) (obeys_each f ys ns (λ i l. h (suc i) (suc-le-suc l)))

-- a filling obeys a list of rules exactly where it obeys each of them
pub rules_each : (f : ℕ) (rs : List (List Literal)) → obeys_rules f rs ≡ true → (r : List Literal) → Memᴰ r rs → obeys f r ≡ true
unfolding obeys_rules
rules_each f [] e r m = absurd (Memᴰ.not-nil m)
rules_each f (x ∷ rs) e r m = go (and_both _ _ e) (Memᴰ.cases_cons m) (rules_each f rs)
  where
    go : (obeys f x ≡ true) × (obeys_rules f rs ≡ true) → (r ≡ x) ⊎ Memᴰ r rs
        → (obeys_rules f rs ≡ true → (r : List Literal) → Memᴰ r rs → obeys f r ≡ true) → obeys f r ≡ true
    go w (inl q) ih = ap (obeys f) q ∙ w.0
    go w (inr k) ih = ih w.1 r k

pub each_rules : (f : ℕ) (rs : List (List Literal)) → ((r : List Literal) → Memᴰ r rs → obeys f r ≡ true) → obeys_rules f rs ≡ true
unfolding obeys_rules
each_rules f [] h = refl
each_rules f (x ∷ rs) h = both_and _ _ (h x (Memᴰ.head refl)) (each_rules f rs (λ r m. h r (Memᴰ.tail m)))

-- ---- masks and lists say the same

pub masks_rules : (f : ℕ) (rs : List (List Literal)) → obeys_all f (map yes_mask rs) (map no_mask rs) ≡ obeys_rules f rs
unfolding obeys_all obeys_rules
masks_rules f [] = refl
masks_rules f (r ∷ rs) = ap₂ (λ x y. x && y) (masks_obey f r) (masks_rules f rs)

-- ---- masks of n variables

pub masks_none : (n : ℕ) → MasksBelow n []
masks_none n = record { below = λ i h. absurd (omega arith) }

pub masks_more : {n m : ℕ} {ms : List ℕ} → m < 2 ^ n → MasksBelow n ms → MasksBelow n (m ∷ ms)
masks_more {n} {m} {ms} h r = record { below = go }
  where
    go : (i : ℕ) → i < length (m ∷ ms) → get_or (m ∷ ms) i 0 < 2 ^ n
    go zero l = h
    go (suc i) l = r.below i (omega arith)

-- literals of n variables
abbrev pub Of : ℕ → List Literal → Type 0
Of n [] = Unit {0}
Of n (l ∷ ls) = (variable l ≤ n) × Of n ls

-- their masks, of either sign
bit_lt : (sign : Bool) (n : ℕ) (l : Literal) → variable l ≤ n → sign_bit sign l < 2 ^ n
bit_lt sign n l h = go (sign_bit_lem sign l)
  where
    go : (sign_bit sign l ≡ 0) ⊎ ((v : ℕ) × (variable l ≡ suc v) × (sign_bit sign l ≡ single v)) → sign_bit sign l < 2 ^ n
    go (inl e) = rw e (pow_pos n)
    go (inr w) = rw w.2 (single_lt n w.0 (omega (arith, w.1)))

pub mask_lt : (sign : Bool) (n : ℕ) (ls : List Literal) → Of n ls → sign_mask sign ls < 2 ^ n
mask_lt sign n [] h = rw (mask_none sign) (pow_pos n)
mask_lt sign n (l ∷ ls) h =
    rw (mask_more sign l ls) (union_lt n (sign_bit sign l) (sign_mask sign ls) (bit_lt sign n l h.0) (mask_lt sign n ls h.1))

-- ---- a partial filling extended, as a test

pub extends_both : (on off f : ℕ) → extends on off f ≡ true → Within on f × Apart off f
unfolding extends all_hold_masks
extends_both on off f e = let s = and_both (subset on f) (disjoint off f) e in (subset_within on f s.0, disjoint_apart off f s.1)

pub both_extends : (on off f : ℕ) → Within on f → Apart off f → extends on off f ≡ true
unfolding extends all_hold_masks
both_extends on off f w a = both_and (subset on f) (disjoint off f) (within_subset on f w) (apart_disjoint off f a)
