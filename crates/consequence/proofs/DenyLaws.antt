-- One rule more at the end of the rules: the search is posed again, and what it finds. Assumes nothing.
use mathlib.Core.Path.{◌≡◌, refl, sym, ap, ◌∙◌}
use mathlib.Core.Bool.{true, ◌&&◌, and-true, and_assoc}
use mathlib.Core.List.{List, [], ◌∷◌, ◌++◌, map-append}
use Rattle.std.specs.Prelude.{Option, Some, None}
use Prim.Native.Nat.{ℕ, ◌^◌, ◌<◌}
use native.Mathlib.Decide.{dec_lt}
use native.Mathlib.Omega.{arith}
use lib.ListN.{length, get_or, length-append, get_or-append}
use lib.Seq.{get_or_at}
use Rattle.literals.specs.Truth.{obeys_masks}
use Rattle.literals.specs.Laws.{and_both}
use Rattle.literals.specs.declared.LiteralSet.{LiteralSet}
use Rattle.propagation.specs.Promises.{MasksBelow, yes_masks, no_masks}
use Rattle.sat.specs.Meaning.{obeys_all, Model}
use Rattle.sat.specs.Promises.{Posed, Searched}
use Rattle.sat.specs.Laws.Assigns.{model_rules}
use Rattle.consequence.specs.Algorithm2.{Denies}
use Rattle.consequence.specs.Promises.{Denied}

masks_snoc : (n : ℕ) (ms : List ℕ) (m : ℕ) → MasksBelow n ms → m < 2 ^ n → MasksBelow n (ms ++ (m ∷ []))
masks_snoc n ms m a h = record { below = λ i l. go i l (dec_lt i (length ms)) }
  where
    go : (i : ℕ) → i < length (ms ++ (m ∷ [])) → Dec (i < length ms) → get_or (ms ++ (m ∷ [])) i 0 < 2 ^ n
    go i l (yes k) = rw (get_or-append ms (m ∷ []) 0 i k) (a.below i k)
    go i l (no k) =
        let end : length ms ≡ i = omega (arith, length-append ms (m ∷ [])) in
        rw (get_or_at ms m [] 0 i end) h

pub posed_more : {n : ℕ} {ys ns : List ℕ} {on off : ℕ} (y m : ℕ) → Posed n ys ns on off → y < 2 ^ n → m < 2 ^ n
    → Posed n (ys ++ (y ∷ [])) (ns ++ (m ∷ [])) on off
posed_more {n} {ys} {ns} y m p hy hm = record {
  small = p.small;
  paired = rw (length-append ys (y ∷ []), length-append ns (m ∷ []), p.paired) refl;
  yes_masks = masks_snoc n ys y p.yes_masks hy;
  no_masks = masks_snoc n ns m p.no_masks hm;
  on_below = p.on_below;
  off_below = p.off_below;
  apart = p.apart;
}

-- ---- its models

obeys_snoc : (f : ℕ) (ys ns : List ℕ) (y k : ℕ) → length ys ≡ length ns
    → obeys_all f (ys ++ (y ∷ [])) (ns ++ (k ∷ [])) ≡ obeys_all f ys ns && obeys_masks f y k
unfolding obeys_all
obeys_snoc f [] [] y k e = and-true (obeys_masks f y k)
obeys_snoc f [] (m ∷ ns) y k e = absurd (omega arith)
obeys_snoc f (x ∷ ys) [] y k e = absurd (omega arith)
obeys_snoc f (x ∷ ys) (m ∷ ns) y k e =
    ap (λ b. obeys_masks f x m && b) (obeys_snoc f ys ns y k (omega arith)) ∙ sym (and_assoc (obeys_masks f x m) (obeys_all f ys ns) (obeys_masks f y k))

module _ {n : ℕ} {ys ns : List ℕ} {on off : ℕ} (posed : Posed n ys ns on off) where
  -- a model that obeys one rule more, and back
  fewer_rules : (y k f : ℕ) → Model n (ys ++ (y ∷ [])) (ns ++ (k ∷ [])) on off f → Model n ys ns on off f × (obeys_masks f y k ≡ true)
  fewer_rules y k f m =
      let t = and_both _ _ (sym (obeys_snoc f ys ns y k posed.paired) ∙ m.obeyed) in
      (model_rules m t.0, t.1)

  more_rules : (y k f : ℕ) → Model n ys ns on off f → obeys_masks f y k ≡ true → Model n (ys ++ (y ∷ [])) (ns ++ (k ∷ [])) on off f
  more_rules y k f m e = model_rules m (obeys_snoc f ys ns y k posed.paired ∙ rw (m.obeyed, e) refl)

-- what the search with one rule more says of the kept literals, where the fillings that obey that rule are those that deny one of them
pub denial : {n : ℕ} (rs : List LiteralSet) {more : List LiteralSet} {on off : ℕ} (posed : Posed n (yes_masks rs) (no_masks rs) on off) (last : LiteralSet) (r : Option ℕ)
    → more ≡ rs ++ (last ∷ []) → Searched n (yes_masks more) (no_masks more) on off r → (kept : LiteralSet)
    → ((f : ℕ) → obeys_masks f last.yes last.no ≡ true → Denies kept f) → ((f : ℕ) → Denies kept f → obeys_masks f last.yes last.no ≡ true)
    → Denied n (yes_masks rs) (no_masks rs) on off kept r
denial {n} rs {more} {on} {off} posed last r e s kept obeyed denied =
    go r (rw (e, map-append (λ (l : LiteralSet). l.yes) rs (last ∷ []), map-append (λ (l : LiteralSet). l.no) rs (last ∷ [])) at s)
  where
    go : (r : Option ℕ) → Searched n (yes_masks rs ++ (last.yes ∷ [])) (no_masks rs ++ (last.no ∷ [])) on off r → Denied n (yes_masks rs) (no_masks rs) on off kept r
    go (Some m) s = let t = fewer_rules posed last.yes last.no m s.found in record { said = (t.0, obeyed m t.1) }
    go None s = record { said = λ f m d. s.found.none f (more_rules posed last.yes last.no f m (denied f d)) }
