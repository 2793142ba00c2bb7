-- An array that is filled from the front: one more entry after those that are there.
-- Assumes nothing.
use mathlib.Core.Path.{◌≡◌, refl, sym, ap, ◌∙◌}
use mathlib.Core.List.{List, [], ◌∷◌, ◌++◌, map, map-append}
use Prim.Native.Nat.{ℕ, suc, ◌+◌, ◌-◌, ◌<◌}
use native.Mathlib.Nat.{sub-zero}
use native.Mathlib.Omega.{arith}
use lib.ListN.{length, set, replicate, length-append, length-map}
use lib.Seq.{set_at, append_snoc}
use Rattle.book.specs.Answer.{padded}

pub padded_snoc : {A : Type 0} (d : A) (n : ℕ) (xs : List A) (x : A) → length xs < n → set (padded d n xs) (length xs) x ≡ padded d n (xs ++ (x ∷ []))
unfolding padded
padded_snoc d n xs x h =
    let left : n - length xs ≡ suc (n - length (xs ++ (x ∷ []))) = omega (arith, length-append xs (x ∷ [])) in
    rw left (set_at xs d _ x (length xs) refl ∙ sym (append_snoc xs x _))

-- An array that holds the images of the items read, i of them, and d after them.
pub record Filled {A B : Type 0} (d : A) (n : ℕ) (f : B → A) (array : List A) (i : ℕ) (done : List B) : Type 0 where
  pub counted : length done ≡ i
  pub stored : array ≡ padded d n (map f done)

module _ {A B : Type 0} {d : A} {n : ℕ} {f : B → A} where
  pub filled_none : Filled d n f (replicate n d) 0 []
  unfolding padded
  filled_none = record { counted = refl; stored = rw sub-zero refl }

  pub filled_more : {array : List A} {i : ℕ} {done : List B} {item : B} {x : A} → Filled d n f array i done → i < n → x ≡ f item
      → Filled d n f (set array i x) (i + 1) (done ++ (item ∷ []))
  filled_more {i = i} {done = done} {item = item} g l e =
      let k : length (map f done) ≡ i = length-map done f ∙ g.counted in
      record {
        counted = length-append done (item ∷ []) ∙ ap (λ m. m + 1) g.counted;
        stored = rw (g.stored, e, map-append f done (item ∷ [])) (rw (← k) (padded_snoc d n (map f done) (f item) (omega arith)));
      }
