-- Bytes stored one after the other.
-- Assumes nothing.
use mathlib.Core.Path.{◌≡◌, refl, sym, ap, ap₂, ◌∙◌}
use mathlib.Core.List.{List, [], ◌∷◌, ◌++◌}
use Prim.Native.Nat.{ℕ, zero, suc, ◌+◌, ◌≤◌, ◌<◌}
use native.Mathlib.Nat.{add-zero, zero-add}
use native.Mathlib.Omega.{arith}
use native.Mathlib.Numerals.{add-one}
use lib.ListN.{length, get_or, set, take, drop, length-append}
use lib.Seq.{sets, sets-eq, length-sets, take_at, take-suc, length-take-le}
use Rattle.log_form.specs.Promises.{Put}
use Rattle.log_form.specs.Restarts.{written_up_to}

pub sets_append : (l : List ℕ) (i : ℕ) (xs ys : List ℕ) → sets l i (xs ++ ys) ≡ sets (sets l i xs) (i + length xs) ys
sets_append l i [] ys = rw (add-zero i) refl
sets_append l i (x ∷ xs) ys = sets_append (set l i x) (suc i) xs ys ∙ ap (λ k. sets (sets (set l i x) (suc i) xs) k ys) (omega arith)

-- one part after another
pub put_append : {a b c : List ℕ} {at k r : ℕ} (xs ys : List ℕ) → Put a at xs b k → Put b k ys c r → Put a at (xs ++ ys) c r
put_append {a} {b} {c} {at} {k} {r} xs ys p q = record {
  stored = q.stored ∙ rw (p.stored, p.place) (sym (sets_append a at xs ys));
  place = q.place ∙ rw (p.place, length-append xs ys) (omega arith);
}

-- one byte
pub put_byte : (a : List ℕ) (at x : ℕ) → Put a at (x ∷ []) (set a at x) (at + 1)
put_byte a at x = record { stored = refl; place = refl }

pub put_none : (a : List ℕ) (at : ℕ) → Put a at [] a at
put_none a at = record { stored = refl; place = sym (add-zero at) }

-- the buffer keeps its length
pub put_length : {a b : List ℕ} {at r : ℕ} (xs : List ℕ) → Put a at xs b r → length b ≡ length a
put_length {a} xs p = rw p.stored (length-sets a _ xs)

take_all : (i : ℕ) (xs : List ℕ) → length xs ≤ i → take i xs ≡ xs
take_all zero [] h = refl
take_all zero (x ∷ xs) h = absurd (omega arith)
take_all (suc i) [] h = refl
take_all (suc i) (x ∷ xs) h = ap (λ l. x ∷ l) (take_all i xs (omega arith))

-- bytes of a part, one after the other: the first i of them are put
module _ {a b : List ℕ} {at i k : ℕ} (xs : List ℕ) (p : Put a at (take i xs) b k) where
  pub putting_room : i < length xs → at + length xs ≤ length a → k < length b
  putting_room h room = omega (arith, p.place, put_length (take i xs) p, length-take-le i xs (omega arith))

  pub putting_more : {c : List ℕ} {x r : ℕ} → i < length xs → x ≡ get_or xs i 0 → Put b k (x ∷ []) c r → Put a at (take (i + 1) xs) c r
  putting_more {x = x} h e q = rw (add-one i, take-suc xs i 0 h, sym e) (put_append (take i xs) (x ∷ []) p q)

  pub putting_all : length xs ≤ i → Put a at xs b k
  putting_all h = rw (take_all i xs h) at p

pub ruleset putting_laws = (put_none, putting_room, putting_more, putting_all, put_length)

-- what is stored from the first byte on stands in front, and after it what was there
pub put_whole : {a b : List ℕ} {r : ℕ} (xs : List ℕ) → Put a 0 xs b r → length xs ≤ length a → b ≡ xs ++ drop (length xs) a
put_whole {a} {b} xs p h = p.stored ∙ rw (← zero-add (length xs)) (sets-eq xs a 0 (omega arith))

-- The bytes of a log xs ++ ys are written from the first on: once the part xs is put, whatever part that is, the buffer holds the log's first k bytes and then
-- the old contents (document 02, E8). Each function that puts a part says `Put`, from the place that the one before it answered.
pub put_part : {a b : List ℕ} {k : ℕ} (xs ys : List ℕ) → Put a 0 xs b k → length xs ≤ length a → b ≡ written_up_to k (xs ++ ys) a
unfolding written_up_to
put_part {a} {b} {k} xs ys p h =
    let e : length xs ≡ k = sym (p.place ∙ zero-add (length xs)) in
    put_whole xs p h ∙ ap₂ (λ (l : List ℕ) (j : ℕ). l ++ drop j a) (sym (take_at xs ys k e)) e
