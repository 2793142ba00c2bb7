-- The text of a literal and of several, from their bytes.
-- Assumes nothing.
use mathlib.Core.Path.{◌≡◌, refl, ap, ◌∙◌}
use mathlib.Core.Logic.{by_cases}
use mathlib.Core.List.{List, [], ◌∷◌, ◌++◌, map, append_assoc}
use Prim.Native.Nat.{ℕ, suc, ◌+◌, ◌-◌, ◌*◌, ◌≤◌, ◌<◌}
use native.Mathlib.Numerals.{add-one}
use native.Mathlib.Omega.{arith}
use native.Mathlib.Decide.{dec_lt}
use lib.ListN.{length, set, drop, get_or, drop_of_length-le, length-append}
use lib.Seq.{drop-cons}
use borrow.Author.Tests.{lt-ltb, le-ltb}
use Rattle.literals.specs.Literal.{of_byte}
use Rattle.log_form.proofs.StoreLaws.{put_byte}
use Rattle.log_form.specs.Promises.{Put}
use Rattle.printing.specs.Text.{decimal, literal_text, literals_text}
use Rattle.printing.proofs.DecimalLaws.{decimal_short}
use Rattle.log_form.proofs.LeftLaws.{Left, left_all, left_as, left_part, left_none, part_room}

-- a byte below 80 says yes, one from 80 on no
pub yes_text : (b : ℕ) → b < 128 → literal_text (of_byte b) ≡ decimal b
unfolding literal_text of_byte
yes_text b h = rw (lt-ltb b 128 h) refl

no_literal : (b : ℕ) → 128 ≤ b → literal_text (of_byte b) ≡ 0x2D ∷ decimal (suc (255 - b))
unfolding literal_text of_byte
no_literal b h = rw (le-ltb b 128 h) refl

pub no_text : (b : ℕ) → 128 ≤ b → b < 256 → literal_text (of_byte b) ≡ 0x2D ∷ decimal (256 - b)
no_text b h k = let same : suc (255 - b) ≡ 256 - b = omega arith in no_literal b h ∙ ap (λ n. 0x2D ∷ decimal n) same

-- the text of bytes, and its first literal
abbrev pub bytes_text : List ℕ → List ℕ
bytes_text bytes = literals_text (map of_byte bytes)

pub first_literal : (bytes : List ℕ) (i : ℕ) → i < length bytes
    → bytes_text (drop i bytes) ≡ (0x20 ∷ []) ++ (literal_text (of_byte (get_or bytes i 0)) ++ bytes_text (drop (i + 1) bytes))
unfolding literals_text
first_literal bytes i h = rw (add-one i, drop-cons bytes i 0 h) refl

-- ---- literals, one by one

module _ (a : List ℕ) (at : ℕ) (bytes : List ℕ) where
  -- after i literals
  pub record LiteralsPut (b : List ℕ) (k i : ℕ) : Type 0 where
    pub within : i ≤ length bytes
    pub left : Left a at (bytes_text bytes) b k (bytes_text (drop i bytes) ∷ [])

  pub listing_none : LiteralsPut a at 0
  listing_none = record { within = omega arith; left = left_all a at (bytes_text bytes) }

  module _ {b : List ℕ} {k i : ℕ} (w : LiteralsPut b k i) (h : i < length bytes) where
    next : Left a at (bytes_text bytes) b k ((0x20 ∷ []) ∷ literal_text (of_byte (get_or bytes i 0)) ∷ bytes_text (drop (i + 1) bytes) ∷ [])
    next = left_as _ w.left (rw (first_literal bytes i h)
        (ap (λ l. 0x20 ∷ l) (append_assoc (literal_text (of_byte (get_or bytes i 0))) (bytes_text (drop (i + 1) bytes)) [])))

    pub blank_room : at + length (bytes_text bytes) ≤ length a → k < length b
    blank_room r = omega (arith, part_room next r)

    -- the blank is put
    blanked : Left a at (bytes_text bytes) (set b k 0x20) (k + 1) (literal_text (of_byte (get_or bytes i 0)) ∷ bytes_text (drop (i + 1) bytes) ∷ [])
    blanked = left_part next (put_byte b k 0x20)

    pub literal_room : at + length (bytes_text bytes) ≤ length a → k + 1 + length (literal_text (of_byte (get_or bytes i 0))) ≤ length (set b k 0x20)
    literal_room r = part_room blanked r

    pub listing_more : {c : List ℕ} {r : ℕ} → Put (set b k 0x20) (k + 1) (literal_text (of_byte (get_or bytes i 0))) c r → LiteralsPut c r (i + 1)
    listing_more p = record { within = omega arith; left = left_part blanked p }

  pub listing_all : {b : List ℕ} {k i : ℕ} → LiteralsPut b k i → length bytes ≤ i → Put a at (bytes_text bytes) b k
  unfolding literals_text
  listing_all w h = left_none (left_as [] w.left (rw (drop_of_length-le bytes h) refl))

-- ---- how long the texts are

pub literal_length : (b : ℕ) → length (literal_text (of_byte b)) ≤ 4
literal_length b = by_cases (dec_lt b 128)
    (λ h. rw (yes_text b h) (omega (arith, decimal_short 2 b (omega arith))))
    (λ h. rw (no_literal b (omega arith)) (omega (arith, decimal_short 2 (suc (255 - b)) (omega arith))))

pub literals_length : (bytes : List ℕ) → length (bytes_text bytes) ≤ 5 * length bytes
unfolding literals_text
literals_length [] = omega arith
literals_length (b ∷ bytes) = omega (arith, literal_length b, literals_length bytes, length-append (literal_text (of_byte b)) (bytes_text bytes))
