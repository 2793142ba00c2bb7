-- The order of the candidates: it is total, `first_of` gives the first of a list, and as a key of 64 bits it is the order of numbers.
-- Assumes nothing.
use Rattle.std.specs.Prelude.{◌≡◌, ◌⊎◌, Bool, true, false, ◌&&◌, ◌||◌, ℕ, ◌/◌, ◌%◌, ◌≤◌, ◌<◌, ltb, eqb}
use Rattle.std.proofs.Math.Path.{refl, subst}
use Rattle.std.proofs.Common.{sym, ◌∙◌, inl, inr, true≢false, le_antisymm, arith, ltb-true, ltb-false, eqb-true}
use Rattle.std.proofs.lemmas.Bool.{false≢true, eqb-false}
use mathlib.Core.List.Memᴰ
use mathlib.Core.List.{List, ◌∷◌, Memᴰ, []}
use Rattle.std.proofs.lemmas.Nat.{ones-le}
use Rattle.sets.specs.Sets.{count}
use Rattle.records.specs.Limits.{max_choices}
use Rattle.step.specs.Meaning.{Candidate, before, earlier, first_of}
use Rattle.step.specs.IsStep.{Lex, Upto}
use Rattle.step.specs.Promises.{goal_unit, cost_unit, count_room, set_room, goal_room, key_of, Small}

-- ---- the order as facts

lex_trans : {a b c : ℕ} {X Y Z : Type 0} → (X → Y → Z) → Lex a b X → Lex b c Y → Lex a c Z
lex_trans f (inl h) (inl k) = inl (omega arith)
lex_trans f (inl h) (inr k) = inl (omega (arith, k.0))
lex_trans f (inr h) (inl k) = inl (omega (arith, h.0))
lex_trans f (inr h) (inr k) = inr (h.0 ∙ k.0, f h.1 k.1)

before_true : (a b : ℕ) (t : Bool) {X : Type 0} → (t ≡ true → X) → before a b t ≡ true → Lex a b X
unfolding before
before_true a b t {X} f e = go (ltb a b) (eqb a b) t refl refl f e
  where
    go : (x y z : Bool) → ltb a b ≡ x → eqb a b ≡ y → (z ≡ true → X) → x || (y && z) ≡ true → Lex a b X
    go true y z p q g d = inl (ltb-true a b p)
    go false true z p q g d = inr (eqb-true a b q, g d)
    go false false z p q g d = absurd (false≢true d)

before_false : (a b : ℕ) (t : Bool) {X : Type 0} → (t ≡ false → X) → before a b t ≡ false → Lex b a X
unfolding before
before_false a b t {X} f e = go (ltb a b) (eqb a b) t refl refl f e
  where
    go : (x y z : Bool) → ltb a b ≡ x → eqb a b ≡ y → (z ≡ false → X) → x || (y && z) ≡ false → Lex b a X
    go true y z p q g d = absurd (true≢false d)
    go false true z p q g d = inr (sym (eqb-true a b q), g d)
    go false false z p q g d = let ne : a ≡ b → ⊥ = eqb-false a b q in inl (omega (arith, ltb-false a b p))

-- An order as a test and as a fact. Two candidates may each come up to the other.
pub record TotalPreorder (order : Candidate → Candidate → Bool) (Le : Candidate → Candidate → Type 0) : Type 0 where
  pub reflexive : (c : Candidate) → Le c c
  pub transitive : {c d e : Candidate} → Le c d → Le d e → Le c e
  pub if_before : (c d : Candidate) → order c d ≡ true → Le c d
  pub if_not : (c d : Candidate) → order c d ≡ false → Le d c

-- by a number,
pub by_number : (f : Candidate → ℕ) → TotalPreorder (λ c d. ltb (f c) (f d)) (λ c d. f c ≤ f d)
by_number f =
    record {
      reflexive = λ c. omega arith;
      transitive = λ h k. omega arith;
      if_before = λ c d e. omega (arith, ltb-true (f c) (f d) e);
      if_not = λ c d e. ltb-false (f c) (f d) e;
    }

-- and by a number, then by an order
pub by_number_then : (f : Candidate → ℕ) {order : Candidate → Candidate → Bool} {Le : Candidate → Candidate → Type 0} → TotalPreorder order Le
    → TotalPreorder (λ c d. before (f c) (f d) (order c d)) (λ c d. Lex (f c) (f d) (Le c d))
by_number_then f o =
    record {
      reflexive = λ c. inr (refl, o.reflexive c);
      transitive = lex_trans o.transitive;
      if_before = λ c d. before_true (f c) (f d) _ (o.if_before c d);
      if_not = λ c d. before_false (f c) (f d) _ (o.if_not c d);
    }

-- the order of the candidates
pub upto_order : TotalPreorder earlier Upto
unfolding earlier
upto_order =
    by_number_then (λ c. c.cost)
    (by_number_then (λ c. count c.reasons) (by_number_then (λ c. c.goal) (by_number (λ c. c.reasons))))

-- of two, neither comes before the other only where they are the same
pub lex_both : {a b : ℕ} {X Y : Type 0} → Lex a b X → Lex b a Y → (a ≡ b) × X × Y
lex_both (inl h) (inl k) = absurd (omega arith)
lex_both (inl h) (inr k) = absurd (omega (arith, k.0))
lex_both (inr h) (inl k) = absurd (omega (arith, h.0))
lex_both (inr h) (inr k) = (h.0, h.1, k.1)

pub upto_both : {c d : Candidate} → Upto c d → Upto d c → c ≡ d
upto_both h k =
    let cost = lex_both h k in
    let facts = lex_both cost.1 cost.2 in
    let goal = lex_both facts.1 facts.2 in
    let reasons = le_antisymm goal.1 goal.2 in
    λ i. record { cost = cost.0 i; goal = goal.0 i; reasons = reasons i }

pub lex_le : {a b : ℕ} {X : Type 0} → Lex a b X → a ≤ b
lex_le (inl h) = omega arith
lex_le (inr h) = omega (arith, h.0)

-- ---- the first of a list

-- What `first_of` gives: a member that comes before all others.
pub record FirstIn (Le : Candidate → Candidate → Type 0) (cs : List Candidate) (d : Candidate) : Type 0 where
  pub member : Memᴰ d cs
  pub first : (c : Candidate) → Memᴰ c cs → Le d c

module _ {order : Candidate → Candidate → Bool} {Le : Candidate → Candidate → Type 0} (o : TotalPreorder order Le) where
  pub first_in : (c : Candidate) (cs : List Candidate) → FirstIn Le (c ∷ cs) (first_of order c cs)
  unfolding first_of
  first_in c [] = record { member = Memᴰ.head refl; first = λ x m. alone x (Memᴰ.cases_cons m) }
    where
      alone : (x : Candidate) → (x ≡ c) ⊎ Memᴰ x [] → Le c x
      alone x (inl p) = subst (Le c) (sym p) (o.reflexive c)
      alone x (inr m) = absurd (Memᴰ.not-nil m)
  first_in c (d ∷ ds) = go (order d c) refl (first_in d ds) (first_in c ds)
    where
      -- one more, which the first comes before
      more : (e f : Candidate) → Le e f → ((x : Candidate) → Memᴰ x ds → Le e x) → (x : Candidate) → (x ≡ f) ⊎ Memᴰ x ds → Le e x
      more e f h k x (inl p) = subst (Le e) (sym p) h
      more e f h k x (inr m) = k x m

      both : (e : Candidate) → Le e c → Le e d → ((x : Candidate) → Memᴰ x ds → Le e x) → (x : Candidate) → (x ≡ c) ⊎ Memᴰ x (d ∷ ds) → Le e x
      both e h i k x (inl p) = subst (Le e) (sym p) h
      both e h i k x (inr m) = more e d i k x (Memᴰ.cases_cons m)

      skip : {e : Candidate} → (e ≡ c) ⊎ Memᴰ e ds → Memᴰ e (c ∷ d ∷ ds)
      skip (inl p) = Memᴰ.head p
      skip (inr m) = Memᴰ.tail (Memᴰ.tail m)

      go : (b : Bool) → order d c ≡ b → FirstIn Le (d ∷ ds) (first_of order d ds) → FirstIn Le (c ∷ ds) (first_of order c ds)
          → FirstIn Le (c ∷ d ∷ ds) (elim b [ true ↦ first_of order d ds | false ↦ first_of order c ds ])
      go true e f g =
          let i = f.first d (Memᴰ.head refl) in
          record {
            member = Memᴰ.tail f.member;
            first = λ x m. both _ (o.transitive i (o.if_before d c e)) i (λ y k. f.first y (Memᴰ.tail k)) x (Memᴰ.cases_cons m);
          }
      go false e f g =
          let h = g.first c (Memᴰ.head refl) in
          record {
            member = skip (Memᴰ.cases_cons g.member);
            first = λ x m. both _ h (o.transitive h (o.if_not d c e)) (λ y k. g.first y (Memᴰ.tail k)) x (Memᴰ.cases_cons m);
          }

-- ---- the order as one number

abbrev pub key : Candidate → ℕ
key c = key_of c.cost c.goal c.reasons

abbrev pub SmallOne : Candidate → Type 0
SmallOne c = Small c.cost c.goal c.reasons

-- a set of choices has so many facts that a key has room for their number
facts_small : (s : ℕ) → s < set_room → count s < count_room
facts_small s h = omega (arith, ones-le max_choices s h)

-- the order of the keys is the order of the candidates
pub upto_key : (c d : Candidate) → SmallOne c → SmallOne d → Upto c d → key c ≤ key d
upto_key c d x y (inl h) = omega (arith, facts_small c.reasons x.set_small, x.goal_small, x.set_small)
upto_key c d x y (inr (p, inl h)) = omega (arith, x.goal_small, x.set_small)
upto_key c d x y (inr (p, inr (q, inl h))) = omega (arith, x.set_small)
upto_key c d x y (inr (p, inr (q, inr (r, h)))) = omega arith

-- what a key says
pub record Decoded (r cost goal s : ℕ) : Type 0 where
  pub cost_of_lem : r / cost_unit ≡ cost
  pub goal_of : r / goal_unit % goal_room ≡ goal
  pub set_of : r % set_room ≡ s

pub decode : (cost goal s : ℕ) → Small cost goal s → Decoded (key_of cost goal s) cost goal s
decode cost goal s x =
    record {
      cost_of_lem = omega (arith, facts_small s x.set_small, x.goal_small, x.set_small);
      goal_of = omega (arith, x.goal_small, x.set_small);
      set_of = omega (arith, x.set_small);
    }
