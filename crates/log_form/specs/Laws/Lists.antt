-- The list of a set of literals: its members, its length, its order. A sign stands for its mask: `cond says on off`.
-- Assumes nothing.
use Rattle.std.specs.Prelude.{◌≡◌, refl, Bool, true, false, not, cond, ℕ, zero, suc, ◌-◌, pos, negsuc, neg_ℤ, length}
use Rattle.std.proofs.Common.{sym, ap, subst, ◌∙◌, arith, lt-ltb}
use mathlib.Core.List.Memᴰ
use mathlib.Core.List.{List, [], ◌∷◌, map, Memᴰ}
use Rattle.std.proofs.lemmas.List.{length-map}
use Rattle.sets.specs.Sets.{bit, has, union, count, members, RisingFrom, Within}
use Rattle.sets.specs.Laws.Bits.{bit_le, bit_union, lt_pow, member_lt}
use Rattle.sets.specs.Laws.Subset.{has_true, has_false, one_has}
use Rattle.sets.specs.Laws.Members.{members_sound, members_complete, members_below_lem, members_length, members_rising}
use Rattle.literals.specs.Literal.{Literal, variable, literal_of, literals_of}
use Rattle.log_form.specs.Format.{rising_over}

-- ---- one literal

-- it is 0, or over a variable with a sign
pub each_literal : (P : Literal → Type 0) → P (pos zero) → ((v : ℕ) (says : Bool) → P (literal_of v says)) → (l : Literal) → P l
each_literal P z s (pos zero) = z
each_literal P z s (pos (suc v)) = s v true
each_literal P z s (negsuc v) = s v false

pub variable_signed : (v : ℕ) (says : Bool) → variable (literal_of v says) ≡ suc v
unfolding variable
variable_signed v true = refl
variable_signed v false = refl

pub opposite_literal : (v : ℕ) (says : Bool) → neg_ℤ (literal_of v says) ≡ literal_of v (not says)
opposite_literal v true = refl
opposite_literal v false = refl

pub literal_same : (v u : ℕ) (says b : Bool) → literal_of v says ≡ literal_of u b → (v ≡ u) × (says ≡ b)
literal_same v u true true e = (cc, refl)
literal_same v u true false e = let z : ◌≡◌ {A = ℕ} 0 1 = cc in absurd (omega arith)
literal_same v u false true e = let z : ◌≡◌ {A = ℕ} 0 1 = cc in absurd (omega arith)
literal_same v u false false e = (cc, refl)

pub not_zero : (v : ℕ) (says : Bool) → pos zero ≡ literal_of v says → ⊥
unfolding variable
not_zero v says e = omega (arith, ap variable e, variable_signed v says)

-- ---- the members of a set of literals

in_members : (m v : ℕ) → bit m v ≡ 1 → Memᴰ v (members m)
in_members m v e = subst (Memᴰ v) (members_below_lem m m (lt_pow m)) (members_complete m m v (member_lt m m v e (lt_pow m)) e)

pub members_in : (m v : ℕ) → Memᴰ v (members m) → bit m v ≡ 1
members_in m v h = (members_sound m m v (subst (Memᴰ v) (sym (members_below_lem m m (lt_pow m))) h)).1

pub members_count : (m : ℕ) → length (members m) ≡ count m
members_count m = ap length (sym (members_below_lem m m (lt_pow m))) ∙ members_length m m (lt_pow m)

pub list_length_is : (on off : ℕ) → length (literals_of on off) ≡ count (union on off)
unfolding literals_of
list_length_is on off = length-map (members (union on off)) (λ (u : ℕ). literal_of u (has on u)) ∙ members_count (union on off)

pub in_set : (on off v : ℕ) (b : Bool) → bit (union on off) v ≡ 1 → has on v ≡ b → Memᴰ (literal_of v b) (literals_of on off)
unfolding literals_of
in_set on off v b e h =
    Memᴰ.cast (ap (literal_of v) (sym h)) (Memᴰ.map (λ (u : ℕ). literal_of u (has on u)) (in_members (union on off) v e))

-- A literal of the list of a set: its variable and its sign.
pub record ListMember (on off : ℕ) (l : Literal) : Type 0 where
  pub variable_of : ℕ
  pub says : Bool
  pub is : l ≡ literal_of variable_of says
  pub member : bit (cond says on off) variable_of ≡ 1

pub list_member : (on off : ℕ) (l : Literal) → Memᴰ l (literals_of on off) → ListMember on off l
unfolding literals_of
list_member on off l m =
    let t = Memᴰ.of_map (λ (u : ℕ). literal_of u (has on u)) (members (union on off)) m in
    record {
      variable_of = t.0;
      says = has on t.0;
      is = sym t.2;
      member = go t.0 (has on t.0) refl (members_in (union on off) t.0 t.1);
    }
  where
    go : (v : ℕ) (b : Bool) → has on v ≡ b → bit (union on off) v ≡ 1 → bit (cond b on off) v ≡ 1
    go v true h k = has_true on v h
    go v false h k = omega (arith, bit_union on off v, has_false on v h, bit_le off v)

-- ---- order

abbrev pub signed : (ℕ → Bool) → ℕ → Literal
signed g v = literal_of v (g v)

pub rising_members : (m : ℕ) → RisingFrom 0 (members m)
rising_members m = subst (RisingFrom 0) (members_below_lem m m (lt_pow m)) (members_rising m m)

rises_signed : (ch last : ℕ) (g : ℕ → Bool) (xs : List ℕ) → RisingFrom last xs → ((v : ℕ) → Memᴰ v xs → bit ch v ≡ 1)
    → rising_over ch last (map (signed g) xs) ≡ true
unfolding rising_over
rises_signed ch last g [] r h = refl
rises_signed ch last g (x ∷ xs) r h =
    let e : suc x - 1 ≡ x = omega arith in
    rw (variable_signed x (g x), lt-ltb last (suc x) (omega (arith, r.0)), e, one_has ch x (h x (Memᴰ.head refl)))
    (rises_signed ch (suc x) g xs r.1 (λ v m. h v (Memᴰ.tail m)))

pub list_rises : (ch on off : ℕ) → Within on ch → Within off ch → rising_over ch 0 (literals_of on off) ≡ true
unfolding literals_of
list_rises ch on off p q =
    rises_signed ch 0 (has on) (members (union on off)) (rising_members (union on off))
    (λ v m. omega (arith, members_in (union on off) v m, bit_union on off v, p.keeps v, q.keeps v, bit_le ch v))
