-- The parts of a log's bytes: numbers, literals and marks, and what each step of the parser ensures. Assumes nothing.
use Rattle.std.specs.Prelude.{◌≡◌, refl, Bool, true, false, cond, ◌&&◌, List, [], ◌∷◌, ◌++◌, map, ℕ, zero, suc, ◌+◌, ◌*◌, ◌<◌, eqb, leb, length, get_or, take, drop}
use Rattle.std.proofs.Common.{sym, ap, ap₂, ◌∙◌, arith, length-take, take-append-drop, drop_of_length-le, drop-cons, length-take-le, get_or-take, get_or-drop, lt-ltb, le-ltb, leb-true, eqb-true}
use Rattle.std.proofs.Math.Logic.{by_cases}
use Rattle.std.proofs.Math.Decide.{dec_lt}
use Rattle.std.proofs.Math.ListN.{get_or-eq_default}
use Rattle.literals.specs.Literal.{of_byte, byte_of}
use Rattle.literals.specs.Laws.{and_both}
use Rattle.log_form.specs.Format.{two_bytes, four_bytes, Parsed, parsed, malformed, and_parse, parse_bytes, begins}

module _ {A : Type 0} where
  -- P holds of each element.
  abbrev pub Each : (A → Type 0) → List A → Type 0
  Each P [] = Unit {0}
  Each P (x ∷ xs) = P x × Each P xs

-- Each of s is a byte.
abbrev pub Bytes : List ℕ → Type 0
Bytes s = (i : ℕ) → get_or s i 0 < 256

-- ---- literals and numbers

-- the byte of the literal of a byte, and so of each byte of a list
pub literal_back : (b : ℕ) → b < 256 → byte_of (of_byte b) ≡ b
unfolding of_byte byte_of
literal_back b h = by_cases (dec_lt b 128) (λ l. rw (lt-ltb b 128 l) refl) (λ l. rw (le-ltb b 128 (omega arith)) (omega arith))

pub map_back : (s : List ℕ) → Bytes s → map byte_of (map of_byte s) ≡ s
map_back [] b = refl
map_back (x ∷ s) b = ap₂ (λ y t. y ∷ t) (literal_back x (b 0)) (map_back s (λ i. b (suc i)))

-- the bytes of a number read from two bytes, and from four
pub two_written : (x y : ℕ) → x < 256 → y < 256 → two_bytes (256 * x + y) ≡ x ∷ y ∷ []
unfolding two_bytes
two_written x y h k = ap₂ (λ a b. a ∷ b ∷ []) (omega arith) (omega arith)

pub four_written : (w x y z : ℕ) → w < 256 → x < 256 → y < 256 → z < 256
    → four_bytes (16777216 * w + 65536 * x + 256 * y + z) ≡ w ∷ x ∷ y ∷ z ∷ []
unfolding four_bytes
four_written w x y z hw hx hy hz =
    ap₂ (λ a b. a ++ b)
    (ap₂ (λ a b. a ∷ b ∷ []) (omega arith) (omega arith))
    (ap₂ (λ a b. a ∷ b ∷ []) (omega arith) (omega arith))

-- The n elements from i on. Where n is a numeral this computes to a list with each element written out.
abbrev pub elements : ℕ → ℕ → List ℕ → List ℕ
elements zero i s = []
elements (suc n) i s = get_or s i 0 ∷ elements n (suc i) s

-- they are all that is left, where the list has no more
pub all_elements : (n i : ℕ) (s : List ℕ) → length s ≡ n + i → drop i s ≡ elements n i s
all_elements zero i s e = drop_of_length-le s {i = i} (omega arith)
all_elements (suc n) i s e = drop-cons s i 0 (omega arith) ∙ ap (λ t. get_or s i 0 ∷ t) (all_elements n (suc i) s (omega arith))

-- Q holds of what is parsed and of the bytes after it, unless the bytes are not of the form.
pub data Ensures {A : Type 0} (Q : A → List ℕ → Type 0) : Parsed A → Type 0 where
  of_parsed : {a : A} {rest : List ℕ} → Q a rest → Ensures Q (parsed a rest)
  of_malformed : Ensures Q malformed

module _ {A : Type 0} {Q : A → List ℕ → Type 0} where
  pub ensures_cond : (t : Bool) (a : A) (rest : List ℕ) → (t ≡ true → Q a rest) → Ensures Q (cond t (parsed a rest) malformed)
  ensures_cond true a rest h = of_parsed (h refl)
  ensures_cond false a rest h = of_malformed

  pub ensures_and : {B : Type 0} {R : B → List ℕ → Type 0} {p : Parsed A} {next : A → List ℕ → Parsed B}
      → Ensures Q p → ((a : A) (rest : List ℕ) → Q a rest → Ensures R (next a rest)) → Ensures R (and_parse p next)
  ensures_and (of_parsed q) k = k _ _ q
  ensures_and of_malformed k = of_malformed

take_bytes : (n : ℕ) (s : List ℕ) → Bytes s → Bytes (take n s)
take_bytes n s b i =
    by_cases (dec_lt i n)
    (λ l. rw (get_or-take n s i 0 l) (b i))
    (λ l. rw (get_or-eq_default (take n s) 0 {n = i} (omega (arith, length-take n s))) (omega arith))

drop_bytes : (n : ℕ) (s : List ℕ) → Bytes s → Bytes (drop n s)
drop_bytes n s b i = rw (get_or-drop n s i 0) (b (n + i))

-- The first n bytes, and those after them.
pub record Cut (n : ℕ) (s front rest : List ℕ) : Type 0 where
  pub whole : s ≡ front ++ rest
  pub size : length front ≡ n
  pub front_bytes : Bytes front
  pub rest_bytes : Bytes rest

pub cut : (n : ℕ) (s : List ℕ) → Bytes s → Ensures (Cut n s) (parse_bytes n s)
unfolding parse_bytes
cut n s b = ensures_cond _ _ _ (λ e. record {
  whole = sym (take-append-drop n s);
  size = length-take-le n s (leb-true n (length s) e);
  front_bytes = take_bytes n s b;
  rest_bytes = drop_bytes n s b;
})

-- the two bytes of a mark
pub begins_with : (mark s : List ℕ) → begins mark s ≡ true → (get_or s 0 0 ≡ get_or mark 0 0) × (get_or s 1 0 ≡ get_or mark 1 0)
unfolding begins
begins_with mark s e =
    let both = and_both (leb 2 (length s) && eqb (get_or s 0 0) (get_or mark 0 0)) (eqb (get_or s 1 0) (get_or mark 1 0)) e in
    (eqb-true _ _ (and_both (leb 2 (length s)) _ both.0).1, eqb-true _ _ both.1)
