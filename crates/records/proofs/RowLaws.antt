-- Parts that are read one after the other: going on at a `?`, by the answer that the code matched on; where the bytes come to a value, each part of
-- them did; and what holds after some items of a row, as a loop reads them.
-- Assumes nothing.
use mathlib.Core.Path.{◌≡◌, refl, sym, ap, ◌∙◌}
use mathlib.Core.List.{List, [], ◌∷◌, ◌++◌}
use Prim.Native.Nat.{ℕ}
use native.Mathlib.Omega.{arith}
use Rattle.std.specs.Prelude.{Result, Ok, Err, IsErrAnd}
use Rattle.records.specs.Format.{Read, value, refused, and_then, with_item}
use Rattle.records.specs.Refusals.{refusal_of}
use Rattle.records.specs.Promises.{read_answer, place_after}
use Rattle.records.proofs.CheckLaws.{residual_err}
use Rattle.records.proofs.ReadLaws.{then_ok, then_fails}
use Rattle.records.specs.declared.refusal.Refusal.{Refusal}

-- ---- at the exit of a `read(..)?`, and after it

module _ {A X : Type 0} (keep : A → ℕ → X) (m : Read A) where
  module _ {B C : Type 0} (keep' : B → ℕ → C) {r : Result C Refusal} {d : Refusal} (e : Err d ≡ read_answer keep m) (g : IsErrAnd r (λ y. y ≡ d)) where
    -- what the exit of the `?` returns, where the refusal of a part is that of the whole
    pub stopped_whole : (whole : Read B) → ((number place : ℕ) → m ≡ refused number place → whole ≡ refused number place) → r ≡ read_answer keep' whole
    unfolding read_answer
    stopped_whole whole same =
        let q = then_fails keep m e in
        let at_err : read_answer keep' whole ≡ Err (refusal_of q.0 q.1) = ap (read_answer keep') (same q.0 q.1 q.2) in
        residual_err r g (ap (λ x. Err x) q.3 ∙ sym at_err)

    -- the same, where the part comes first
    pub stopped : (next : A → ℕ → Read B) → r ≡ read_answer keep' (and_then m next)
    stopped next = stopped_whole (and_then m next) (λ n p f. rw f refl)

-- a part that is passed over
pub passed_ok : (m : Read (Unit {0})) {p : ℕ} → Ok p ≡ read_answer place_after m → m ≡ value tt p
passed_ok m e = let q = then_ok place_after m e in q.2 ∙ ap (value tt) (sym q.3)

-- ---- what comes to a value

module _ {A B : Type 0} where
  pub then_value : (m : Read A) (next : A → ℕ → Read B) {b : B} {end : ℕ} → and_then m next ≡ value b end
      → (a : A) × (place : ℕ) × (m ≡ value a place) × (next a place ≡ value b end)
  then_value (value a place) next e = (a, place, refl, e)
  then_value (refused n place) next e = let z : ◌≡◌ {A = ℕ} 0 1 = cc in absurd (omega arith)

module _ {A : Type 0} where
  pub item_value : (a : A) (m : Read (List A)) {items : List A} {end : ℕ} → with_item a m ≡ value items end
      → (rest : List A) × (m ≡ value rest end) × (a ∷ rest ≡ items)
  item_value a (value rest p) e = (rest, cc, cc)
  item_value a (refused n p) e = let z : ◌≡◌ {A = ℕ} 0 1 = cc in absurd (omega arith)

  -- Each item of a list has a property.
  abbrev pub Each : (A → Type 0) → List A → Type 0
  Each P [] = Unit {0}
  Each P (a ∷ rest) = P a × Each P rest

  -- ---- some items of a row

  -- Items that were read before the others.
  abbrev pub prefixed : List A → Read (List A) → Read (List A)
  prefixed [] r = r
  prefixed (a ∷ done) r = with_item a (prefixed done r)

  prefixed_snoc : (done : List A) (a : A) (r : Read (List A)) → prefixed (done ++ (a ∷ [])) r ≡ prefixed done (with_item a r)
  prefixed_snoc [] a r = refl
  prefixed_snoc (x ∷ done) a r = ap (with_item x) (prefixed_snoc done a r)

  prefixed_refused : (done : List A) (number place : ℕ) → prefixed done (refused number place) ≡ refused number place
  prefixed_refused [] number place = refl
  prefixed_refused (x ∷ done) number place = ap (with_item x) (prefixed_refused done number place)

  prefixed_value : (done : List A) (place : ℕ) → prefixed done (value [] place) ≡ value done place
  prefixed_value [] place = refl
  prefixed_value (x ∷ done) place = ap (with_item x) (prefixed_value done place)

  -- Of the items `whole`, after some of them: those read, what is kept of them, and what is still to be read.
  pub record SoFar (whole : Read (List A)) (Kept : List A → Type 0) (rest : Read (List A)) : Type 0 where
    pub done : List A
    pub kept : Kept done
    pub same : whole ≡ prefixed done rest

  module _ {whole rest : Read (List A)} {Kept : List A → Type 0} where
    pub so_far_none : whole ≡ rest → Kept [] → SoFar whole Kept rest
    so_far_none e k = record { done = []; kept = k; same = e }

    -- one more item is read
    pub so_far_more : {Kept' : List A → Type 0} {rest' : Read (List A)} (a : A) → SoFar whole Kept rest → rest ≡ with_item a rest'
        → ((done : List A) → Kept done → Kept' (done ++ (a ∷ []))) → SoFar whole Kept' rest'
    so_far_more a g e k =
        record {
          done = g.done ++ (a ∷ []);
          kept = k g.done g.kept;
          same = g.same ∙ ap (prefixed g.done) e ∙ sym (prefixed_snoc g.done a _);
        }

    -- what is still to be read is refused
    pub so_far_refused : {number end : ℕ} → SoFar whole Kept rest → rest ≡ refused number end → whole ≡ refused number end
    so_far_refused {number} {end} g e = g.same ∙ ap (prefixed g.done) e ∙ prefixed_refused g.done number end

    -- nothing is left
    pub so_far_all : {end : ℕ} (g : SoFar whole Kept rest) → rest ≡ value [] end → whole ≡ value g.done end
    so_far_all {end} g e = g.same ∙ ap (prefixed g.done) e ∙ prefixed_value g.done end
