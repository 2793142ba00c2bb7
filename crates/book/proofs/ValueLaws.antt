-- Where the bytes come to a value, each part of them did: the reading taken apart.
-- Assumes nothing.
use mathlib.Core.Path.{◌≡◌, refl, ap}
use mathlib.Core.List.{List, [], ◌∷◌}
use Prim.Native.Nat.{ℕ, zero, suc, ◌+◌, ◌≤◌}
use native.Mathlib.Omega.{arith}
use lib.ListN.{length}
pub use Rattle.records.proofs.RowLaws.{then_value, item_value, Each}
use Rattle.records.specs.Format.{RecordRead, says, fails, Read, value, begin, and_then, with_item, many}

module _ {A B : Type 0} where
  pub begin_value : (place : ℕ) (r : RecordRead A) (next : A → ℕ → Read B) {b : B} {end : ℕ} → begin place r next ≡ value b end
      → (a : A) × (len : ℕ) × (r ≡ says a len) × (next a (place + len) ≡ value b end)
  begin_value place (says a len) next e = (a, len, refl, e)
  begin_value place (fails n) next e = let z : ◌≡◌ {A = ℕ} 0 1 = cc in absurd (omega arith)

module _ {A : Type 0} where
  pub record FirstOf (place : ℕ) (r : RecordRead A) (after : A → ℕ → Read (List A)) (items : List A) (end : ℕ) : Type 0 where
    pub item : A
    pub len : ℕ
    pub rest : List A
    pub said : r ≡ says item len
    pub others : after item (place + len) ≡ value rest end
    pub all : item ∷ rest ≡ items

  -- the first record of a row that came to a value
  pub first_of : (place : ℕ) (r : RecordRead A) (after : A → ℕ → Read (List A)) {items : List A} {end : ℕ}
      → begin place r (λ a next. with_item a (after a next)) ≡ value items end → FirstOf place r after items end
  first_of place r after e =
      let f = begin_value place r (λ a next. with_item a (after a next)) e in
      let m = item_value f.0 (after f.0 (place + f.1)) f.3 in
      record { item = f.0; len = f.1; rest = m.0; said = f.2; others = m.1; all = m.2 }

  pub record FirstItem (r : Read A) (after : A → ℕ → Read (List A)) (items : List A) (end : ℕ) : Type 0 where
    pub item : A
    pub next : ℕ
    pub rest : List A
    pub said : r ≡ value item next
    pub others : after item next ≡ value rest end
    pub all : item ∷ rest ≡ items

  -- the first item of a row that came to a value
  pub first_item : (r : Read A) (after : A → ℕ → Read (List A)) {items : List A} {end : ℕ}
      → and_then r (λ a next. with_item a (after a next)) ≡ value items end → FirstItem r after items end
  first_item r after e =
      let f = then_value r (λ a next. with_item a (after a next)) e in
      let m = item_value f.0 (after f.0 f.1) f.3 in
      record { item = f.0; next = f.1; rest = m.0; said = f.2; others = m.1; all = m.2 }

-- As many items as were to be read, each good, and the place after them within the bytes.
pub record AllGood {A : Type 0} (s : List ℕ) (P : A → Type 0) (left : ℕ) (items : List A) (end : ℕ) : Type 0 where
  pub counted : length items ≡ left
  pub each : Each P items
  pub within : end ≤ length s

-- An item that was read is good, and the place after it is within the bytes.
pub record GoodItem {A : Type 0} (P : A → Type 0) (s : List ℕ) (a : A) (next : ℕ) : Type 0 where
  pub within : next ≤ length s
  pub good : P a

module _ {A : Type 0} (item_from : ℕ → ℕ → Read A) (s : List ℕ) (P : A → Type 0)
    (each-good : (i place : ℕ) (a : A) (next : ℕ) → place ≤ length s → item_from i place ≡ value a next → GoodItem P s a next) where
  pub many_good : (left i place : ℕ) {items : List A} {end : ℕ} → place ≤ length s → many item_from left i place ≡ value items end
      → AllGood s P left items end
  unfolding many
  many_good zero i place {items} {end} h e =
      let none : [] ≡ items = cc in
      let here : place ≡ end = cc in
      rw (← none) (record { counted = refl; each = tt; within = omega arith })
  many_good (suc left) i place h e =
      let f = first_item (item_from i place) (λ a next. many item_from left (suc i) next) e in
      let w = each-good i place f.item f.next h f.said in
      let g = many_good left (suc i) f.next w.within f.others in
      rw (← f.all) (record { counted = ap suc g.counted; each = (w.good, g.each); within = g.within })
