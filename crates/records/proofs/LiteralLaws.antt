-- Reading literals: what one more changes in the two masks, and whether it rises; the literals of a rule, byte by byte.
-- Assumes nothing.
use mathlib.Core.Logic.{◌⊎◌, inl, inr}
use mathlib.Core.Path.{◌≡◌, refl, sym, ap₂, ◌∙◌}
use mathlib.Core.Bool.{Bool, true, false, ◌&&◌, and-false, false≢true}
use mathlib.Core.List.{List, [], ◌∷◌, ◌++◌, map, map-append}
use Prim.Native.Nat.{ℕ, ◌+◌, ◌≤◌, ◌<◌, zero-le}
use native.Mathlib.Numerals.{add-one}
use native.Mathlib.Omega.{arith}
use borrow.Author.Tests.{lt-ltb, le-ltb, le-leb, lt-leb, ltb-true, leb-true}
use lib.Dec.{ltb, leb}
use lib.ListN.{length, get_or, take, drop, drop_of_length-le}
use mir.Syntax.{w8}
use mir.Val.{SFits, to_z, of_z}
use mir.Facts.{to_z-of_z}
use lib.Seq.{take-suc, drop-cons, take_all}
use Rattle.literals.specs.Literal.{Literal, variable, of_byte}
use Rattle.literals.specs.Truth.{yes_mask, no_mask}
use Rattle.literals.specs.WithLiteral.{WithLiteral}
use Rattle.literals.specs.Laws.{yes_mask_snoc, no_mask_snoc}
use Rattle.literals.specs.declared.LiteralSet.{LiteralSet}
use Rattle.records.specs.Format.{rising}
use Rattle.records.specs.Promises.{masks}

-- a literal that fits a signed byte is the one that it is handed over as
pub handed_byte : {z l : Literal} → SFits w8 z → z ≡ l → to_z w8 (of_z w8 z) ≡ l
handed_byte f e = to_z-of_z {w = w8} f ∙ e

-- ---- the masks of the literals read

pub masks_none : record { yes = 0; no = 0 } ≡ masks []
unfolding yes_mask no_mask
masks_none = refl

pub masks_more : {set set' : LiteralSet} (done : List Literal) {l : Literal} → set ≡ masks done → WithLiteral set l set' → set' ≡ masks (done ++ (l ∷ []))
masks_more done {l} e w =
    ap₂ (λ y n. record { yes = y; no = n })
    (w.yes_with ∙ rw e (sym (yes_mask_snoc done l)))
    (w.no_with ∙ rw e (sym (no_mask_snoc done l)))

-- ---- one more literal rises or does not

module _ (n last : ℕ) (l : Literal) (ls : List Literal) {v : ℕ} (e : v ≡ variable l) where
  pub rising_low : v ≤ last → rising n last (l ∷ ls) ≡ false
  unfolding rising
  rising_low h = rw (← e, le-ltb _ _ h) refl

  pub rising_high : n < v → rising n last (l ∷ ls) ≡ false
  unfolding rising
  rising_high h = rw (← e, lt-leb _ _ h, and-false) refl

  pub rising_more : last < v → v ≤ n → rising n last (l ∷ ls) ≡ rising n v ls
  unfolding rising
  rising_more h k = rw (← e, lt-ltb _ _ h, le-leb _ _ k) refl

-- The first literal of a list that rises, and the rest.
pub record RisingHead (n last : ℕ) (l : Literal) (ls : List Literal) : Type 0 where
  pub above : last < variable l
  pub upto : variable l ≤ n
  pub rest : rising n (variable l) ls ≡ true

pub rising_head : (n last : ℕ) (l : Literal) (ls : List Literal) → rising n last (l ∷ ls) ≡ true → RisingHead n last l ls
unfolding rising
rising_head n last l ls e = go (ltb last (variable l)) (leb (variable l) n) refl refl e
  where
    go : (a b : Bool) → ltb last (variable l) ≡ a → leb (variable l) n ≡ b → a && b && rising n (variable l) ls ≡ true → RisingHead n last l ls
    go true true p q r = record { above = ltb-true _ _ p; upto = leb-true _ _ q; rest = r }
    go true false p q r = absurd (false≢true r)
    go false b p q r = absurd (false≢true r)

pub rising_none : (n last : ℕ) → rising n last [] ≡ true
unfolding rising
rising_none n last = refl

-- ---- the bytes of a rule

module _ (n : ℕ) (s : List ℕ) where
  -- After i of the bytes: the set of the literals read, and the last variable.
  pub record Gathered (set : LiteralSet) (last i : ℕ) : Type 0 where
    pub risen : rising n 0 (map of_byte s) ≡ rising n last (map of_byte (drop i s))
    pub kept : set ≡ masks (map of_byte (take i s))
    pub upto : i ≤ length s

  pub gathered_none : Gathered (record { yes = 0; no = 0 }) 0 0
  gathered_none = record { risen = refl; kept = masks_none; upto = zero-le }

  module _ {set : LiteralSet} {last i : ℕ} (g : Gathered set last i) (h : i < length s) where
    -- the literal that is next
    next_one : map of_byte (drop i s) ≡ of_byte (get_or s i 0) ∷ map of_byte (drop (i + 1) s)
    next_one = rw (add-one, drop-cons s i 0 h) refl

    read_one : map of_byte (take (i + 1) s) ≡ map of_byte (take i s) ++ (of_byte (get_or s i 0) ∷ [])
    read_one = rw (add-one, take-suc s i 0) (map-append of_byte (take i s) (get_or s i 0 ∷ []))

    module _ {v : ℕ} (e : v ≡ variable (of_byte (get_or s i 0))) where
      pub gathered_more : {set' : LiteralSet} → last < v → v ≤ n → WithLiteral set (of_byte (get_or s i 0)) set' → Gathered set' v (i + 1)
      gathered_more low high w = record {
        risen = g.risen ∙ rw next_one (rising_more n last _ _ e low high);
        kept = rw read_one (masks_more _ g.kept w);
        upto = omega arith;
      }

      pub not_rising : v ≤ last → rising n 0 (map of_byte s) ≡ false
      not_rising low = g.risen ∙ rw (next_one, rising_low n last _ _ e low) refl

      pub too_high : n < v → rising n 0 (map of_byte s) ≡ false
      too_high high = g.risen ∙ rw (next_one, rising_high n last _ _ e high) refl

      pub out_of_order : (v ≤ last) ⊎ ((last < v) × (n < v)) → rising n 0 (map of_byte s) ≡ false
      out_of_order (inl low) = not_rising low
      out_of_order (inr high) = too_high high.1

  pub gathered_all : {set : LiteralSet} {last i : ℕ} → Gathered set last i → length s ≤ i → (rising n 0 (map of_byte s) ≡ true) × (set ≡ masks (map of_byte s))
  gathered_all {set} {last} {i} g h =
      let all : take i s ≡ s = take_all i s h in
      let end : drop i s ≡ [] = drop_of_length-le s h in
      (g.risen ∙ rw (end, rising_none) refl, rw all at g.kept)
