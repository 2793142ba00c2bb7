-- The refusals of a text: each has the number 12 or 13, and its place is in the text or at its length, whatever the bytes are.
-- Assumes nothing.
use mathlib.Core.Path.{◌≡◌, refl}
use mathlib.Core.Bool.{Bool, true, false, cond, not, ◌||◌}
use mathlib.Core.List.{List, [], ◌∷◌}
use Prim.Native.Nat.{ℕ, zero, suc, ◌≤◌}
use native.Mathlib.Omega.{arith}
use borrow.Author.Tests.{leb-true, ltb-true}
use lib.Dec.{leb, ltb, eqb}
use lib.ListN.{length}
use Rattle.literals.specs.Literal.{variable}
use Rattle.records.specs.Limits.{max_variables, max_rules, max_literals}
use Rattle.records.specs.Format.{Read, value, refused, and_then, with_item}
use Rattle.dimacs.specs.Text.{Formula, is, is_blank, is_line_end, is_gap, is_digit, is_first_digit, is_dropped, rule_of, P, CNF}
use Rattle.dimacs.specs.Text.{stands, after, one_or_more, word, line, comments, number, number_up_to, limited, signed, next_signed, literals_from, clause_from}
use Rattle.dimacs.specs.Text.{clauses_from, text_ends, count_from, counts_from, word_and_blanks, head_of, body_from, formula_of}
use Rattle.dimacs.proofs.ByteLaws.{stands_within, after_within}

-- What is read of a text of so many bytes: a value and the place after it, or a refusal with 12 or 13. The number is bounded by tests, so that `refl`
-- proves them of a numeral.
data Placed (size : ℕ) {A : Type 0} : Read A → Type 0 where
  is_read : {a : A} {place : ℕ} → place ≤ size → Placed size (value a place)
  refused_at : {number place : ℕ} → leb 12 number ≡ true → leb number 13 ≡ true → place ≤ size → Placed size (refused number place)

-- ---- what keeps to it

module _ {size : ℕ} {A B : Type 0} where
  then_placed : {m : Read A} {next : A → ℕ → Read B} → Placed size m → ((a : A) (p : ℕ) → p ≤ size → Placed size (next a p)) → Placed size (and_then m next)
  then_placed (is_read h) f = f _ _ h
  then_placed (refused_at l m h) f = refused_at l m h

module _ {size : ℕ} {A : Type 0} where
  item_placed : (a : A) {m : Read (List A)} → Placed size m → Placed size (with_item a m)
  item_placed a (is_read h) = is_read h
  item_placed a (refused_at l m h) = refused_at l m h

  -- a test, each of whose answers keeps to it where it is the answer
  cond_placed : (b : Bool) {x y : Read A} → (b ≡ true → Placed size x) → (b ≡ false → Placed size y) → Placed size (cond b x y)
  cond_placed true p q = p refl
  cond_placed false p q = q refl

-- ---- the parts of a text

module _ (s : List ℕ) where
  some_placed : (test : ℕ → Bool) (place : ℕ) → place ≤ length s → Placed (length s) (one_or_more s test place)
  unfolding one_or_more
  some_placed test place h = cond_placed (stands s test place) (λ e. is_read (after_within s test place h)) (λ e. refused_at refl refl h)

  word_placed : (w : List ℕ) (place : ℕ) → place ≤ length s → Placed (length s) (word s w place)
  unfolding word
  word_placed [] place h = is_read h
  word_placed (b ∷ bs) place h =
      cond_placed (stands s (is b) place) (λ e. word_placed bs (suc place) (omega (arith, stands_within s (is b) place e))) (λ e. refused_at refl refl h)

  line_placed : (place : ℕ) → place ≤ length s → Placed (length s) (line s place)
  unfolding line
  line_placed place h =
      cond_placed (ltb (after s (λ b. not (is_line_end b)) place) (length s))
      (λ e. let k : suc (after s (λ b. not (is_line_end b)) place) ≤ length s = omega (arith, ltb-true _ (length s) e) in is_read k)
      (λ e. refused_at refl refl (after_within s (λ b. not (is_line_end b)) place h))

  comments_placed : (turns place : ℕ) → place ≤ length s → Placed (length s) (comments s turns place)
  unfolding comments
  comments_placed zero place h = refused_at refl refl h
  comments_placed (suc turns) place h =
      cond_placed (stands s (is 0x63) place) (λ e. then_placed (line_placed place h) (λ u p k. comments_placed turns p k)) (λ e. is_read h)

  number_placed : (place : ℕ) → place ≤ length s → Placed (length s) (number s place)
  unfolding number
  number_placed place h =
      cond_placed (stands s (is 0x30) place) (λ e. is_read (omega (arith, stands_within s (is 0x30) place e)))
      (λ e. cond_placed (stands s is_first_digit place) (λ f. is_read (after_within s is_digit place h)) (λ f. refused_at refl refl h))

  up_to_placed : (most refusal at place : ℕ) → leb 12 refusal ≡ true → leb refusal 13 ≡ true → at ≤ length s → place ≤ length s
      → Placed (length s) (number_up_to s most refusal at place)
  unfolding number_up_to
  up_to_placed most refusal at place l m k h =
      then_placed (number_placed place h) (λ n p q. cond_placed (leb n most) (λ e. is_read q) (λ e. refused_at l m k))

  limited_placed : (most place : ℕ) → place ≤ length s → Placed (length s) (limited s most place)
  unfolding limited
  limited_placed most place h = up_to_placed most 13 place place refl refl h h

  signed_placed : (v place : ℕ) → place ≤ length s → Placed (length s) (signed s v place)
  unfolding signed
  signed_placed v place h =
      cond_placed (stands s (is 0x2D) place)
      (λ e.
      let after_minus : suc place ≤ length s = omega (arith, stands_within s (is 0x2D) place e) in
      cond_placed (stands s is_first_digit (suc place))
      (λ f. then_placed (up_to_placed v 12 place (suc place) refl refl h after_minus) (λ n p q. is_read q)) (λ f. refused_at refl refl after_minus))
      (λ e. then_placed (up_to_placed v 12 place place refl refl h h) (λ n p q. is_read q))

  literals_placed : (v turns place : ℕ) → place ≤ length s → Placed (length s) (literals_from s v turns place)
  unfolding literals_from next_signed
  literals_placed v zero place h = refused_at refl refl h
  literals_placed v (suc turns) place h =
      then_placed (then_placed (some_placed is_gap place h) (λ u p k. signed_placed v p k))
      (λ l p k. cond_placed (eqb (variable l) 0) (λ e. is_read k) (λ e. item_placed l (literals_placed v turns p k)))

  clause_placed : (v place : ℕ) → place ≤ length s → Placed (length s) (clause_from s v place)
  unfolding clause_from
  clause_placed v place h =
      then_placed (literals_placed v (suc (length s)) place h)
      (λ c p k. cond_placed (is_dropped c || leb (length (rule_of c)) max_literals) (λ e. is_read k) (λ e. refused_at refl refl (after_within s is_gap place h)))

  clauses_placed : (v left place : ℕ) → place ≤ length s → Placed (length s) (clauses_from s v left place)
  unfolding clauses_from
  clauses_placed v zero place h = is_read h
  clauses_placed v (suc left) place h = then_placed (clause_placed v place h) (λ c p k. item_placed c (clauses_placed v left p k))

  head_placed : Placed (length s) (head_of s)
  unfolding head_of word_and_blanks counts_from count_from
  head_placed =
      then_placed (comments_placed (suc (length s)) 0 (omega arith)) (λ u p h.
      then_placed (then_placed (word_placed P p h) (λ u p h. some_placed is_blank p h)) (λ u p h.
      then_placed (then_placed (word_placed CNF p h) (λ u p h. some_placed is_blank p h)) (λ u p h.
      then_placed (limited_placed max_variables p h) (λ v p h.
      then_placed (some_placed is_blank p h) (λ u p h.
      then_placed (limited_placed max_rules p h) (λ r p h. is_read h))))))

  -- a text is taken, or refused with 12 or 13 at one of its places
  text_placed : Placed (length s) (formula_of s)
  unfolding formula_of body_from text_ends
  text_placed =
      then_placed head_placed (λ h p k.
      then_placed (clauses_placed h.variables h.clauses p k) (λ cs p k.
      cond_placed (ltb (after s is_gap p) (length s)) (λ e. refused_at refl refl (after_within s is_gap p k)) (λ e. is_read (after_within s is_gap p k))))

  -- so every refusal is 12 or 13, at a place of the text or at its length
  pub text_refusals : {number place : ℕ} → formula_of s ≡ refused number place → (12 ≤ number) × (number ≤ 13) × (place ≤ length s)
  text_refusals {number} {place} e = go (rw e at text_placed)
    where
      go : Placed (length s) {A = Formula} (refused number place) → (12 ≤ number) × (number ≤ 13) × (place ≤ length s)
      go (refused_at l m h) = (leb-true 12 number l, leb-true number 13 m, h)
