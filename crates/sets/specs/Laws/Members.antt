-- The elements of a set as a list: how many, which, in what order, and how code walks them, least first. Assumes nothing.
use Rattle.std.specs.Prelude.{◌≡◌, refl, ◌⊎◌, ℕ, zero, suc, ◌+◌, ◌/◌, ◌%◌, ◌^◌, ◌≤◌, ◌<◌, length}
use Rattle.std.proofs.Common.{sym, ap, ap₂, subst, ◌∙◌, inl, inr, pow-suc, arith}
use mathlib.Core.List.Memᴰ
use mathlib.Core.List.{List, [], ◌∷◌, Memᴰ}
use Rattle.std.specs.Int.Count.{ones, ones_step}
use Rattle.sets.specs.Sets.{bit, remove, keep, members_from, members_below, members, RisingFrom, StrictlyRising, LeastMember}
use Rattle.std.specs.Prelude.{Option, None, Some}
use Rattle.std.specs.Iterator.{YieldsFirst}
use Rattle.sets.specs.Iter.{TakesLowest}
use Rattle.sets.specs.declared.iter.Iter.{Iter}
use Rattle.sets.specs.Laws.Bits.{remove_zero_half, remove_zero_even, remove_suc_half, remove_suc_odd, remove_lt, lt_pow, member_lt}
use Rattle.sets.specs.Laws.Least.{least_half}
use Rattle.sets.specs.Laws.Count.{ones_zero}

from_zero : (n v : ℕ) → members_from n v 0 ≡ []
unfolding members_from
from_zero zero v = refl
from_zero (suc n) v = refl

-- the lowest digit, and the elements above it
from_step : (n v m : ℕ) → members_from (suc n) v m ≡ keep (m % 2) v (members_from n (suc v) (m / 2))
unfolding members_from
from_step n v zero = sym (from_zero n (suc v))
from_step n v (suc m) = refl

from_even : (n v m : ℕ) → m % 2 ≡ 0 → members_from (suc n) v m ≡ members_from n (suc v) (m / 2)
from_even n v m e = from_step n v m ∙ ap (λ (d : ℕ). keep d v (members_from n (suc v) (m / 2))) e

from_odd : (n v m : ℕ) → m % 2 ≡ 1 → members_from (suc n) v m ≡ v ∷ members_from n (suc v) (m / 2)
from_odd n v m e = from_step n v m ∙ ap (λ (d : ℕ). keep d v (members_from n (suc v) (m / 2))) e

pub members_zero : (n : ℕ) → members_below n 0 ≡ []
unfolding members_below
members_zero n = from_zero n 0

-- ---- how many

length_keep : (d v : ℕ) (l : List ℕ) → d ≤ 1 → length (keep d v l) ≡ d + length l
length_keep zero v l h = omega arith
length_keep (suc d) v l h = omega arith

length_from : (n v m : ℕ) → m < 2 ^ n → length (members_from n v m) ≡ ones m
unfolding members_from
length_from zero v m h = let z : m ≡ 0 = omega arith in omega (arith, ap ones z, ones_zero)
length_from (suc n) v m h =
    ap length (from_step n v m)
    ∙ omega (
      arith,
      length_keep (m % 2) v (members_from n (suc v) (m / 2)) (omega arith),
      length_from n (suc v) (m / 2) (omega (arith, pow-suc 2 n)),
      ones_step m,
    )

pub members_length : (n m : ℕ) → m < 2 ^ n → length (members_below n m) ≡ ones m
unfolding members_below
members_length n m h = length_from n 0 m h

-- more digits than m has change nothing
from_enough : (n k v m : ℕ) → m < 2 ^ n → m < 2 ^ k → members_from n v m ≡ members_from k v m
from_enough zero k v m h l = let z : m ≡ 0 = omega arith in rw z (from_zero 0 v ∙ sym (from_zero k v))
from_enough (suc n) zero v m h l = let z : m ≡ 0 = omega arith in rw z (from_zero (suc n) v ∙ sym (from_zero 0 v))
from_enough (suc n) (suc k) v m h l =
    from_step n v m
    ∙ ap (keep (m % 2) v) (from_enough n k (suc v) (m / 2) (omega (arith, pow-suc 2 n)) (omega (arith, pow-suc 2 k)))
    ∙ sym (from_step k v m)

pub members_below_lem : (n m : ℕ) → m < 2 ^ n → members_below n m ≡ members m
unfolding members_below members
members_below_lem n m h = from_enough n m 0 m h (lt_pow m)

-- ---- which

-- v is an element of m among its n lowest digits, where the lowest stands for s
abbrev MemberFrom : ℕ → ℕ → ℕ → ℕ → Type 0
MemberFrom n s m v = (u : ℕ) × (v ≡ s + u) × (u < n) × (bit m u ≡ 1)

mem_from : (n s m v : ℕ) → Memᴰ v (members_from n s m) → MemberFrom n s m v
unfolding members_from bit
mem_from zero s m v h = absurd (Memᴰ.not-nil h)
mem_from (suc n) s m v h = go (m % 2) refl (subst (Memᴰ v) (from_step n s m) h)
    (mem_from n (suc s) (m / 2) v)
  where
    rest : List ℕ
    rest = members_from n (suc s) (m / 2)

    above : MemberFrom n (suc s) (m / 2) v → MemberFrom (suc n) s m v
    above t = (suc t.0, omega (arith, t.1), omega (arith, t.2), t.3)

    split : m % 2 ≡ 1 → (v ≡ s) ⊎ Memᴰ v rest → (Memᴰ v rest → MemberFrom n (suc s) (m / 2) v) → MemberFrom (suc n) s m v
    split e (inl p) f = (0, omega arith, omega arith, e)
    split e (inr q) f = above (f q)

    go : (d : ℕ) → m % 2 ≡ d → Memᴰ v (keep d s rest) → (Memᴰ v rest → MemberFrom n (suc s) (m / 2) v) → MemberFrom (suc n) s m v
    go zero e q f = above (f q)
    go (suc d) e q f = split (omega arith) (Memᴰ.cases_cons q) f

mem_keep : (d s v : ℕ) (l : List ℕ) → Memᴰ v l → Memᴰ v (keep d s l)
mem_keep zero s v l h = h
mem_keep (suc d) s v l h = Memᴰ.tail h

from_mem : (n s m v u : ℕ) → v ≡ s + u → u < n → bit m u ≡ 1 → Memᴰ v (members_from n s m)
unfolding bit
from_mem zero s m v u p h e = absurd (omega arith)
from_mem (suc n) s m v zero p h e = subst (Memᴰ v) (sym (from_odd n s m e)) (Memᴰ.head (omega arith))
from_mem (suc n) s m v (suc u) p h e =
    subst (Memᴰ v) (sym (from_step n s m))
    (mem_keep (m % 2) s v (members_from n (suc s) (m / 2)) (from_mem n (suc s) (m / 2) v u (omega arith) (omega arith) e))

pub members_sound : (n m v : ℕ) → Memᴰ v (members_below n m) → (v < n) × (bit m v ≡ 1)
unfolding members_below
members_sound n m v h =
    let t = mem_from n 0 m v h in
    let e : v ≡ t.0 = omega (arith, t.1) in
    (omega (arith, t.2), ap (bit m) e ∙ t.3)

pub members_complete : (n m v : ℕ) → v < n → bit m v ≡ 1 → Memᴰ v (members_below n m)
unfolding members_below
members_complete n m v h e = from_mem n 0 m v v (omega arith) h e

-- ---- in rising order

rising_lower : (v : ℕ) (l : List ℕ) → RisingFrom (suc v) l → RisingFrom v l
rising_lower v [] r = tt
rising_lower v (u ∷ l) r = (omega (arith, r.0), r.1)

rising_keep : (d v : ℕ) (l : List ℕ) → RisingFrom (suc v) l → RisingFrom v (keep d v l)
rising_keep zero v l r = rising_lower v l r
rising_keep (suc d) v l r = (omega arith, r)

rising_from : (n v m : ℕ) → RisingFrom v (members_from n v m)
unfolding members_from
rising_from zero v m = tt
rising_from (suc n) v m =
    subst (RisingFrom v) (sym (from_step n v m)) (rising_keep (m % 2) v (members_from n (suc v) (m / 2)) (rising_from n (suc v) (m / 2)))

pub members_rising : (n m : ℕ) → StrictlyRising (members_below n m)
unfolding members_below
members_rising n m = rising_from n 0 m

-- ---- the least first, and then those of the rest

next_from : (n s m r : ℕ) → m < 2 ^ n → LeastMember m r → members_from n s m ≡ (s + r) ∷ members_from n s (remove m r)
unfolding bit
next_from zero s m r h l = absurd (omega (arith, member_lt 0 m r l.member h))
next_from (suc n) s m zero h l =
    from_odd n s m l.member
    ∙ ap₂ (λ (x : ℕ) (y : ℕ). x ∷ members_from n (suc s) y) (omega arith) (sym (remove_zero_half m))
    ∙ ap (λ (x : List ℕ). (s + 0) ∷ x) (sym (from_even n s (remove m 0) (remove_zero_even m)))
next_from (suc n) s m (suc r) h l =
    let even : m % 2 ≡ 0 = l.first 0 (omega arith) in
    from_even n s m even
    ∙ next_from n (suc s) (m / 2) r (omega (arith, pow-suc 2 n)) (least_half m r l)
    ∙ ap₂ (λ (x : ℕ) (y : ℕ). x ∷ members_from n (suc s) y) (omega arith) (sym (remove_suc_half m r))
    ∙ ap (λ (x : List ℕ). (s + suc r) ∷ x) (sym (from_even n s (remove m (suc r)) (remove_suc_odd m r ∙ even)))

pub members_least : (n m r : ℕ) → m < 2 ^ n → LeastMember m r → members_below n m ≡ r ∷ members_below n (remove m r)
unfolding members_below
members_least n m r h l =
    next_from n 0 m r h l ∙ ap (λ (x : ℕ). x ∷ members_from n 0 (remove m r)) (omega arith)

-- the whole list likewise
pub members_next : (m r : ℕ) → LeastMember m r → members m ≡ r ∷ members (remove m r)
unfolding members
members_next m r l =
    members_least m m r (lt_pow m) l ∙ ap (λ x. r ∷ x) (members_below_lem m (remove m r) (remove_lt m m r (lt_pow m)))

-- the calls of `sets::Iter` give the elements still to come in rising order, as the list has them, and then nothing
pub takes_members : (it : Iter) (r : Option ℕ) (next : Iter) → TakesLowest it r next → YieldsFirst (λ i. members i.left) it r next
unfolding members
takes_members it None next t = (ap members t.0 ∙ members_zero 0, ap members t.1 ∙ members_zero 0)
takes_members it (Some v) next t = members_next it.left v t.0.least ∙ ap (λ x. v ∷ members x) (sym t.1)

-- a sparse mask computes
members_example : members (2 ^ 20 + 5) ≡ 0 ∷ 2 ∷ 20 ∷ []
unfolding members members_below members_from
members_example = refl
