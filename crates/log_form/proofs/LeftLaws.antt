-- Bytes that are put part by part: the parts that are left.
-- Assumes nothing.
use mathlib.Core.Path.{◌≡◌, sym, ap, ◌∙◌}
use mathlib.Core.List.{List, [], ◌∷◌, ◌++◌, append_assoc, append-nil}
use Prim.Native.Nat.{ℕ, ◌+◌, ◌≤◌}
use native.Mathlib.Omega.{arith}
use lib.ListN.{length, length-append}
use Rattle.log_form.specs.Promises.{Put}
use Rattle.log_form.proofs.StoreLaws.{put_append, put_none, put_length}

-- Parts, one after the other.
abbrev pub joined : List (List ℕ) → List ℕ
joined [] = []
joined (part ∷ parts) = part ++ joined parts

-- The text that is to stand in the buffer `a` from `at` on is put up to the place k, the buffer is then b, and these parts are left.
pub record Left (a : List ℕ) (at : ℕ) (text b : List ℕ) (k : ℕ) (parts : List (List ℕ)) : Type 0 where
  pub done : List ℕ
  pub put : Put a at done b k
  pub split : text ≡ done ++ joined parts

-- nothing is put
pub left_all : (a : List ℕ) (at : ℕ) (text : List ℕ) → Left a at text a at (text ∷ [])
left_all a at text = record { done = []; put = put_none a at; split = sym (append-nil text) }

module _ {a : List ℕ} {at : ℕ} {text b : List ℕ} {k : ℕ} where
  -- the buffer keeps its length
  pub left_length : {parts : List (List ℕ)} → Left a at text b k parts → length b ≡ length a
  left_length w = put_length w.done w.put

  -- what is left, in other parts
  pub left_as : {parts : List (List ℕ)} (others : List (List ℕ)) → Left a at text b k parts → joined parts ≡ joined others → Left a at text b k others
  left_as others w e = record { done = w.done; put = w.put; split = w.split ∙ ap (λ l. w.done ++ l) e }

  -- there is room for the next part
  pub part_room : {part : List ℕ} {parts : List (List ℕ)} → Left a at text b k (part ∷ parts) → at + length text ≤ length a → k + length part ≤ length b
  part_room {part} {parts} w h =
      omega (arith, left_length w, w.put.place, ap length w.split, length-append w.done (part ++ joined parts), length-append part (joined parts))

  -- the next part is put
  pub left_part : {part : List ℕ} {parts : List (List ℕ)} {c : List ℕ} {r : ℕ} → Left a at text b k (part ∷ parts) → Put b k part c r
      → Left a at text c r parts
  left_part {part} {parts} w p = record {
    done = w.done ++ part;
    put = put_append w.done part w.put p;
    split = w.split ∙ sym (append_assoc w.done part (joined parts));
  }

  -- nothing is left
  pub left_none : Left a at text b k [] → Put a at text b k
  left_none w = rw (w.split, append-nil w.done) w.put

  -- the last part is put
  pub left_last : {part c : List ℕ} {r : ℕ} → Left a at text b k (part ∷ []) → Put b k part c r → Put a at text c r
  left_last w p = rw (w.split, append-nil _) (put_append w.done _ w.put p)

-- two parts: room for the first, and after it for the second
module _ (a : List ℕ) (at : ℕ) (first second : List ℕ) (room : at + length (first ++ second) ≤ length a) where
  pub two_room : at + length first ≤ length a
  two_room = omega (arith, length-append first second)

  pub two_next : {b : List ℕ} {k : ℕ} → Put a at first b k → k + length second ≤ length b
  two_next p = omega (arith, length-append first second, put_length first p, p.place)
