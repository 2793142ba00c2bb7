-- Reading the facts: one FA record, the facts as a row of records, and EN after them.
-- Assumes nothing.
use mathlib.Core.Path.{◌≡◌, refl, sym, ap, ◌∙◌}
use mathlib.Core.Bool.{Bool, true, false, cond}
use mathlib.Core.List.{List, [], ◌∷◌}
use Prim.Native.Nat.{ℕ, zero, suc, ◌+◌, ◌≤◌, ◌<◌}
use native.Mathlib.Omega.{arith}
use lib.ListN.{length, drop, length-drop}
use lib.IntN.{pos, negsuc}
use mir.Syntax.{w8}
use mir.Val.{to_z, of_z}
use mir.Facts.{to_z-of_z}
use Rattle.sets.specs.Sets.{width}
use Rattle.literals.specs.Literal.{Literal, variable, of_byte}
use Rattle.literals.specs.WithLiteral.{WithLiteral}
use Rattle.literals.specs.declared.LiteralSet.{LiteralSet}
use Rattle.records.specs.Format.{RecordRead, says, fails, Read, value, refused, with_item, begin, byte, opened, rising, FA, EN}
use Rattle.records.specs.Format.{fact_at, fact_values, begins, end_at, facts_from}
use Rattle.records.specs.Promises.{masks}
use Rattle.records.proofs.CheckLaws.{Good, says_same, checked_first_says, check_says, opened_says}
use Rattle.records.proofs.ReadLaws.{part_from, part_from_lem}
use Rattle.records.proofs.LiteralLaws.{masks_more, RisingHead, rising_head}
use Rattle.records.proofs.RowLaws.{so_far_refused, so_far_all}
use Rattle.book.proofs.ManyLaws.{WholeFrom, begin_then, Due, due_refused, Walked, walked_more}

-- ---- one FA record

-- an FA record that is whole has 3 bytes
pub fact_whole : (u last : ℕ) (t : List ℕ) {l : Literal} {len : ℕ} → fact_at u last t ≡ says l len → (len ≡ 3) × Good (λ k. RisingHead u last k []) t l len
unfolding fact_at fact_values
fact_whole u last t {l} {len} e =
    let o = checked_first_says (opened FA 3 t) (fact_values u last t) e in
    let v = check_says (rising u last (of_byte (byte t 2) ∷ [])) 6 _ o.2 in
    let same = says_same v.1 in
    (same.1, record { within = rw same.1 (opened_says FA 3 t o.1).0; good = rw same.0 at (rising_head u last (of_byte (byte t 2)) [] v.0) })

-- a literal over few variables is the signed byte that it is handed over as
pub handed : (l : Literal) → variable l ≤ width → to_z w8 (of_z w8 l) ≡ l
unfolding variable
handed (pos v) h = to_z-of_z {w = w8} {z = pos v} (record { sfits = omega arith })
handed (negsuc v) h = to_z-of_z {w = w8} {z = negsuc v} (record { sfits = omega arith })

-- ---- the facts in a row

-- a fact takes bytes, so what is read after it is read at a later place
after_fact : (s : List ℕ) (u last place turns more : ℕ) → place ≤ length s
    → ((v p : ℕ) → p ≤ length s → place < p → facts_from s u more v p ≡ facts_from s u turns v p)
    → begin place (fact_at u last (drop place s)) (λ l next. with_item l (facts_from s u more (variable l) next))
    ≡ begin place (fact_at u last (drop place s)) (λ l next. with_item l (facts_from s u turns (variable l) next))
after_fact s u last place turns more h k = go (fact_at u last (drop place s)) refl
  where
    go : (r : RecordRead Literal) → fact_at u last (drop place s) ≡ r → begin place r (λ l next. with_item l (facts_from s u more (variable l) next))
        ≡ begin place r (λ l next. with_item l (facts_from s u turns (variable l) next))
    go (fails n) d = refl
    go (says l len) d =
        let z = fact_whole u last (drop place s) d in
        let w = simp length-drop at z.1.within in
        ap (with_item l) (k (variable l) (place + len) (omega arith) (omega (arith, z.0)))

-- more turns than there are bytes change nothing: the meaning does not depend on how many it is given
pub facts_enough : (s : List ℕ) (u turns last place : ℕ) → place ≤ length s → length s < turns + place
    → facts_from s u (suc turns) last place ≡ facts_from s u turns last place
unfolding facts_from
facts_enough s u zero last place h l = absurd (omega arith)
facts_enough s u (suc turns) last place h l =
    ap (λ b. cond (begins FA (drop place s)) b (begin place (end_at (drop place s)) (λ e next. value [] next)))
    (after_fact s u last place turns (suc turns) h (λ v p within later. facts_enough s u turns v p within (omega arith)))

module _ (s : List ℕ) (u : ℕ) where
  -- What is still to be read of the facts, after one over the variable `last`.
  abbrev pub facts_left : ℕ → ℕ → Read (List Literal)
  facts_left last place = facts_from s u (suc (length s)) last place

  module _ (last place : ℕ) {test : Bool} (t : test ≡ begins FA (part_from s place)) where
    -- a fact follows
    facts_due : place ≤ length s → test ≡ true
        → Due (facts_left last place) (begin place (fact_at u last (drop place s)) value) (λ l next. facts_left (variable l) next)
    unfolding facts_from
    facts_due h a =
        let here : begins FA (drop place s) ≡ true = rw part_from_lem at (sym t ∙ a) in
        let same = after_fact s u last place (length s) (suc (length s)) h (λ v p within later. facts_enough s u (length s) v p within (omega arith)) in
        record { due = rw here (sym same) ∙ begin_then place (fact_at u last (drop place s)) _ }

    -- where none follows, EN decides
    facts_over : test ≡ false → facts_left last place ≡ begin place (end_at (drop place s)) (λ e next. value [] next)
    unfolding facts_from
    facts_over a = let here : begins FA (drop place s) ≡ false = rw part_from_lem at (sym t ∙ a) in rw here refl

-- ---- the facts as the code reads them, into a set

module _ (s : List ℕ) (u from : ℕ) where
  -- After some facts: those read are in the set.
  abbrev pub FactsWalked : LiteralSet → ℕ → ℕ → Type 0
  FactsWalked set last place = Walked s (facts_left s u 0 from) (λ done. set ≡ masks done) (facts_left s u last place) place

  module _ (last place : ℕ) {set : LiteralSet} {test : Bool} (g : FactsWalked set last place) (t : test ≡ begins FA (part_from s place)) where
    -- a fact that is refused
    pub fact_refused : {number : ℕ} → test ≡ true → fact_at u last (drop place s) ≡ fails number → facts_left s u 0 from ≡ refused number place
    fact_refused a f = so_far_refused g.so_far (due_refused (facts_due s u last place t g.within a) (ap (λ o. begin place o value) f))

    -- one more fact
    pub fact_more : {l : Literal} {len : ℕ} {set' : LiteralSet} {v : ℕ} → test ≡ true → fact_at u last (drop place s) ≡ says l len → WithLiteral set l set'
        → v ≡ variable l → FactsWalked set' v (place + 3)
    fact_more {l = l} {set' = set'} a e w d =
        let f = fact_whole u last (drop place s) e in
        let one : WholeFrom (λ i. i ≡ l) s (place + 3) (begin place (fact_at u last (drop place s)) value) =
        record { item = l; said = rw (e, f.0) refl; within = omega (arith, g.within, f.0, f.1.within, length-drop place s); holds = refl } in
        rw d (walked_more {Kept' = λ done. set' ≡ masks done} g (facts_due s u last place t g.within a) one (λ done i. masks_more done i w))

    -- no EN after the facts
    pub end_refused : {number : ℕ} → test ≡ false → end_at (drop place s) ≡ fails number → facts_left s u 0 from ≡ refused number place
    end_refused a f = so_far_refused g.so_far (facts_over s u last place t a ∙ ap (λ o. begin place o (λ e next. value [] next)) f)

    -- EN
    pub end_passed : {e : Unit {0}} {len : ℕ} → test ≡ false → end_at (drop place s) ≡ says e len → facts_left s u 0 from ≡ value g.so_far.done (place + 2)
    unfolding end_at
    end_passed a f =
        let two = (opened_says EN 2 (drop place s) f).1 in
        so_far_all g.so_far (facts_over s u last place t a ∙ rw (f, two) refl)
