-- Laws of truth: two masks say what the list of literals says, for every filling; and what one member of a mask decides.
-- Assumes nothing.
use Rattle.std.specs.Prelude.{◌≡◌, refl, ◌⊎◌, Bool, true, false, not, cond, ◌&&◌, ◌||◌, List, [], ◌∷◌, ◌++◌, ℕ, zero, suc, ◌<◌, eqb, pos, negsuc}
use Rattle.std.proofs.Common.{sym, ap, ap₂, ◌∙◌, inl, inr, arith, eqb-true, ne_eqb}
use Rattle.std.proofs.lemmas.Bool.{false≢true, eqb-false}
use Rattle.std.proofs.Math.Bool.{and-true, and_comm, or-true, or-false, not-not}
use Rattle.std.specs.Int.Bits.{or_zero_r}
use Rattle.sets.specs.Sets.{bit, has, single, union, inter, diff, subset, disjoint}
use Rattle.sets.specs.Laws.Bits.{bit_union, bit_inter, bit_diff, bit_single_same, pos_of_member, ext}
use Rattle.sets.specs.Laws.Subset.{has_true, has_false, within_subset, subset_false, apart_disjoint, disjoint_false, union_none, single_within, single_apart}
use Rattle.literals.specs.Literal.{Literal, variable}
use Rattle.literals.specs.Truth.{holds, obeys, all_hold, yes_bit, no_bit, yes_mask, no_mask, obeys_masks, all_hold_masks}

-- ---- both of two tests

pub and_both : (a b : Bool) → a && b ≡ true → (a ≡ true) × (b ≡ true)
and_both true b e = (refl, e)
and_both false b e = absurd (false≢true e)

-- ---- one member decides

-- a set with an element is not empty
not_empty : (m v : ℕ) → bit m v ≡ 1 → eqb m 0 ≡ false
not_empty m v e = ne_eqb m 0 (λ z. absurd (omega (arith, pos_of_member m v e)))

-- a common element
pub meets : (a f v : ℕ) → bit a v ≡ 1 → bit f v ≡ 1 → disjoint a f ≡ false
unfolding disjoint
meets a f v p q = not_empty (inter a f) v (omega (arith, bit_inter a f v))

-- an element of the one that is not in the other
pub leaves : (a f v : ℕ) → bit a v ≡ 1 → bit f v ≡ 0 → subset a f ≡ false
unfolding subset
leaves a f v p q = not_empty (diff a f) v (omega (arith, bit_diff a f v))

-- ---- tests of a union

-- a union is empty where both are
empty_union : (x y : ℕ) → eqb (union x y) 0 ≡ eqb x 0 && eqb y 0
empty_union x y = go (eqb x 0) (eqb y 0) refl refl
  where
    go : (a b : Bool) → eqb x 0 ≡ a → eqb y 0 ≡ b → eqb (union x y) 0 ≡ a && b
    go true b p q = rw (eqb-true x 0 p) q
    go false b p q = ne_eqb (union x y) 0 (λ e. eqb-false x 0 p (union_none x y e).0)

-- what a set has in common with a union, and what is left of a union, comes of both
inter_union : (a b f : ℕ) → inter (union a b) f ≡ union (inter a f) (inter b f)
inter_union a b f =
    ext _ _ (λ v. omega (arith, bit_inter (union a b) f v, bit_union a b v, bit_union (inter a f) (inter b f) v, bit_inter a f v, bit_inter b f v))

diff_union : (a b f : ℕ) → diff (union a b) f ≡ union (diff a f) (diff b f)
diff_union a b f =
    ext _ _ (λ v. omega (arith, bit_diff (union a b) f v, bit_union a b v, bit_union (diff a f) (diff b f) v, bit_diff a f v, bit_diff b f v))

pub disjoint_union : (a b f : ℕ) → disjoint (union a b) f ≡ disjoint a f && disjoint b f
unfolding disjoint
disjoint_union a b f = ap (λ x. eqb x 0) (inter_union a b f) ∙ empty_union (inter a f) (inter b f)

pub subset_union : (a b f : ℕ) → subset (union a b) f ≡ subset a f && subset b f
unfolding subset
subset_union a b f = ap (λ x. eqb x 0) (diff_union a b f) ∙ empty_union (diff a f) (diff b f)

-- ---- tests of one element

pub disjoint_single : (v f : ℕ) → disjoint (single v) f ≡ not (has f v)
disjoint_single v f = go (has f v) refl
  where
    go : (b : Bool) → has f v ≡ b → disjoint (single v) f ≡ not b
    go true e = meets (single v) f v (bit_single_same v) (has_true f v e)
    go false e = apart_disjoint (single v) f (single_apart v f (has_false f v e))

pub subset_single : (v f : ℕ) → subset (single v) f ≡ has f v
subset_single v f = go (has f v) refl
  where
    go : (b : Bool) → has f v ≡ b → subset (single v) f ≡ b
    go true e = within_subset (single v) f (single_within v f (has_true f v e))
    go false e = leaves (single v) f v (bit_single_same v) (has_false f v e)

-- ---- two masks say what the list says

-- the empty set of literals: no rule of it is obeyed, and all of it is true
none_obeys : (f : ℕ) → obeys_masks f 0 0 ≡ false
unfolding obeys_masks disjoint subset diff
none_obeys f = refl

none_holds : (f : ℕ) → all_hold_masks f 0 0 ≡ true
unfolding all_hold_masks disjoint subset diff
none_holds f = refl

disjoint_none : (f : ℕ) → disjoint 0 f ≡ true
unfolding disjoint
disjoint_none f = refl

subset_none : (f : ℕ) → subset 0 f ≡ true
unfolding subset diff
subset_none f = refl

-- a rule is obeyed where the opposites of its literals are not all true
not_and : (c d : Bool) → not (c && d) ≡ not d || not c
not_and true d = sym (or-false (not d))
not_and false d = sym (or-true (not d))

obeys_unless : (f p q : ℕ) → not (all_hold_masks f q p) ≡ obeys_masks f p q
unfolding obeys_masks all_hold_masks
obeys_unless f p q = not_and (subset q f) (disjoint p f)

-- two sets of literals together
and_swap : (a b c d : Bool) → (a && b) && (c && d) ≡ (a && c) && (b && d)
and_swap true b true d = refl
and_swap true true false d = refl
and_swap true false false d = refl
and_swap false b c d = refl

both_hold : (f a b c d : ℕ) → all_hold_masks f (union a b) (union c d) ≡ all_hold_masks f a c && all_hold_masks f b d
unfolding all_hold_masks
both_hold f a b c d = rw (subset_union a b f, disjoint_union c d f) (and_swap (subset a f) (subset b f) (disjoint c f) (disjoint d f))

both_obey : (f a b c d : ℕ) → obeys_masks f (union a b) (union c d) ≡ obeys_masks f a c || obeys_masks f b d
both_obey f a b c d =
    sym (obeys_unless f (union a b) (union c d))
    ∙ ap not (both_hold f c d a b ∙ and_comm (all_hold_masks f c a) (all_hold_masks f d b))
    ∙ not_and (all_hold_masks f d b) (all_hold_masks f c a)
    ∙ ap₂ (λ x y. x || y) (obeys_unless f a c) (obeys_unless f b d)

-- one literal
one_obeys : (f : ℕ) (l : Literal) → obeys_masks f (yes_bit l) (no_bit l) ≡ holds f l
unfolding obeys_masks yes_bit no_bit holds
one_obeys f (pos zero) = none_obeys f
one_obeys f (pos (suc v)) = rw (disjoint_single v f, subset_none f) (or-false (not (not (has f v))) ∙ not-not (has f v))
one_obeys f (negsuc v) = rw (subset_single v f, disjoint_none f) refl

one_holds : (f : ℕ) (l : Literal) → 0 < variable l → all_hold_masks f (yes_bit l) (no_bit l) ≡ holds f l
unfolding all_hold_masks yes_bit no_bit holds variable
one_holds f (pos zero) h = absurd (omega arith)
one_holds f (pos (suc v)) h = rw (subset_single v f, disjoint_none f) (and-true (has f v))
one_holds f (negsuc v) h = rw (disjoint_single v f, subset_none f) refl

-- a rule's two masks say what its list of literals says, for every rule and every filling
pub masks_obey : (f : ℕ) (r : List Literal) → obeys_masks f (yes_mask r) (no_mask r) ≡ obeys f r
unfolding obeys yes_mask no_mask
masks_obey f [] = none_obeys f
masks_obey f (l ∷ ls) = both_obey f (yes_bit l) (yes_mask ls) (no_bit l) (no_mask ls) ∙ ap₂ (λ x y. x || y) (one_obeys f l) (masks_obey f ls)

-- a list that speaks of variables, and so has no literal 0
abbrev pub Proper : List Literal → Type 0
Proper [] = Unit {0}
Proper (l ∷ ls) = (0 < variable l) × Proper ls

-- the two masks of a list of literals are all true where the list is
pub masks_hold : (f : ℕ) (ls : List Literal) → Proper ls → all_hold_masks f (yes_mask ls) (no_mask ls) ≡ all_hold f ls
unfolding all_hold yes_mask no_mask
masks_hold f [] h = none_holds f
masks_hold f (l ∷ ls) h = both_hold f (yes_bit l) (yes_mask ls) (no_bit l) (no_mask ls) ∙ ap₂ (λ x y. x && y) (one_holds f l h.0) (masks_hold f ls h.1)

-- ---- a rule of two masks: what obeys it, and what an obeyed one has

pub obeys_yes : (f p q v : ℕ) → bit p v ≡ 1 → bit f v ≡ 1 → obeys_masks f p q ≡ true
unfolding obeys_masks
obeys_yes f p q v a b = rw (meets p f v a b) refl

pub obeys_no : (f p q v : ℕ) → bit q v ≡ 1 → bit f v ≡ 0 → obeys_masks f p q ≡ true
unfolding obeys_masks
obeys_no f p q v a b = rw (leaves q f v a b) (or-true (not (disjoint p f)))

-- the literal that makes it true: one of the first mask that is yes, or one of the second that is no
pub record TrueLiteral (f p q v : ℕ) : Type 0 where
  pub truly : ((bit p v ≡ 1) × (bit f v ≡ 1)) ⊎ ((bit q v ≡ 1) × (bit f v ≡ 0))

pub obeys_some : (f p q : ℕ) → obeys_masks f p q ≡ true → (v : ℕ) × TrueLiteral f p q v
unfolding obeys_masks
obeys_some f p q e = go (disjoint p f) (subset q f) refl refl e
  where
    go : (a b : Bool) → disjoint p f ≡ a → subset q f ≡ b → not a || not b ≡ true → (v : ℕ) × TrueLiteral f p q v
    go false b d s t = let w = disjoint_false p f d in (w.0, record { truly = inl (w.1, w.2) })
    go true false d s t = let w = subset_false q f s in (w.0, record { truly = inr (w.1, w.2) })
    go true true d s t = absurd (false≢true t)

-- ---- the masks by the sign

-- what a literal, and what a list of them, adds to the mask of one sign
abbrev pub sign_bit : Bool → Literal → ℕ
sign_bit sign l = cond sign (yes_bit l) (no_bit l)

abbrev pub sign_mask : Bool → List Literal → ℕ
sign_mask sign ls = cond sign (yes_mask ls) (no_mask ls)

pub mask_none : (sign : Bool) → sign_mask sign [] ≡ 0
unfolding yes_mask no_mask
mask_none true = refl
mask_none false = refl

pub mask_more : (sign : Bool) (l : Literal) (ls : List Literal) → sign_mask sign (l ∷ ls) ≡ union (sign_bit sign l) (sign_mask sign ls)
unfolding yes_mask no_mask
mask_more true l ls = refl
mask_more false l ls = refl

-- a literal adds nothing, or its variable
pub sign_bit_lem : (sign : Bool) (l : Literal) → (sign_bit sign l ≡ 0) ⊎ ((v : ℕ) × (variable l ≡ suc v) × (sign_bit sign l ≡ single v))
unfolding yes_bit no_bit variable
sign_bit_lem true (pos zero) = inl refl
sign_bit_lem true (pos (suc v)) = inr (v, refl, refl)
sign_bit_lem true (negsuc v) = inl refl
sign_bit_lem false (pos v) = inl refl
sign_bit_lem false (negsuc v) = inr (v, refl, refl)

-- ---- a list that grows at its end, as a reader builds it

union_assoc : (a b c : ℕ) → union (union a b) c ≡ union a (union b c)
union_assoc a b c = ext _ _ (λ v. omega (arith, bit_union (union a b) c v, bit_union a b v, bit_union a (union b c) v, bit_union b c v))

mask_snoc : (sign : Bool) (done : List Literal) (l : Literal) → sign_mask sign (done ++ (l ∷ [])) ≡ union (sign_mask sign done) (sign_bit sign l)
mask_snoc sign [] l = rw (mask_more sign l [], mask_none sign) (or_zero_r (sign_bit sign l))
mask_snoc sign (x ∷ done) l =
    mask_more sign x _ ∙ ap (union (sign_bit sign x)) (mask_snoc sign done l)
    ∙ sym (union_assoc (sign_bit sign x) (sign_mask sign done) (sign_bit sign l)) ∙ ap (λ m. union m (sign_bit sign l)) (sym (mask_more sign x done))

pub yes_mask_snoc : (done : List Literal) (l : Literal) → yes_mask (done ++ (l ∷ [])) ≡ union (yes_mask done) (yes_bit l)
yes_mask_snoc = mask_snoc true

pub no_mask_snoc : (done : List Literal) (l : Literal) → no_mask (done ++ (l ∷ [])) ≡ union (no_mask done) (no_bit l)
no_mask_snoc = mask_snoc false
