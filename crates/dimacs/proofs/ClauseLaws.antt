-- The literals of a clause, one after the other, and a clause judged at its closing 0.
-- Assumes nothing.
use mathlib.Core.Path.{◌≡◌, refl, sym, ap, ◌∙◌}
use mathlib.Core.Bool.{Bool, true, false, cond, ◌||◌}
use mathlib.Core.List.{List, []}
use Prim.Native.Nat.{ℕ, zero, suc, ◌+◌, ◌≤◌, ◌<◌}
use native.Mathlib.Omega.{arith}
use borrow.Author.Tests.{ne_eqb}
use lib.Dec.{leb, eqb}
use lib.IntN.{pos, negsuc}
use mir.Syntax.{w8}
use mir.Val.{SFits, to_z, of_z}
use mir.Facts.{to_z-of_z}
use Rattle.std.specs.Prelude.{Ok}
use lib.ListN.{length, take, drop}
use Rattle.literals.specs.Literal.{Literal, variable}
use Rattle.records.specs.Limits.{max_literals}
use Rattle.records.specs.Format.{Read, value, refused, and_then, with_item}
use Rattle.records.specs.Promises.{masks, read_answer}
use Rattle.records.proofs.RowLaws.{then_value}
use Rattle.dimacs.specs.Text.{is, is_gap, is_digit, is_first_digit, run, numeral, opposite, is_dropped, rule_of, stands, after, one_or_more, number}
use Rattle.dimacs.specs.Text.{number_up_to, signed, next_signed, literals_from, clause_from}
use Rattle.dimacs.specs.Promises.{clause_read, clashes, allowed}
use Rattle.dimacs.specs.declared.clauses.Clause.{Clause}
use Rattle.dimacs.proofs.ByteLaws.{stands_within, after_more, after_from, after_within}
use Rattle.dimacs.proofs.ReadLaws.{clause_ok}
use Rattle.dimacs.proofs.SignedLaws.{up_to_most}

-- ---- what is read lies within the text

-- A place further on in the text.
pub record Onward (s : List ℕ) (place next : ℕ) : Type 0 where
  pub onward : place ≤ next
  pub within : next ≤ length s

module _ (s : List ℕ) where
  gap_onward : (test : ℕ → Bool) (place : ℕ) {u : Unit {0}} {next : ℕ} → one_or_more s test place ≡ value u next → Onward s (suc place) next
  unfolding one_or_more
  gap_onward test place {u} {next} e = go (stands s test place) refl e
    where
      go : (b : Bool) → stands s test place ≡ b → cond b (value tt (after s test place)) (refused 12 place) ≡ value u next → Onward s (suc place) next
      go true d f =
          let same : after s test place ≡ next = cc in
          let h = stands_within s test place d in
          rw (← same) (record {
            onward = omega (arith, after_more s test place d, after_from s test (place + 1));
            within = after_within s test place (omega arith);
          })
      go false d f = let z : ◌≡◌ {A = ℕ} 0 1 = cc in absurd (omega arith)

  number_onward : (place : ℕ) {n next : ℕ} → number s place ≡ value n next → Onward s place next
  unfolding number
  number_onward place {n} {next} e = go (stands s (is 0x30) place) (stands s is_first_digit place) refl refl e
    where
      go : (a b : Bool) → stands s (is 0x30) place ≡ a → stands s is_first_digit place ≡ b
          → cond a (value 0 (suc place))
          (cond b (value (numeral 0 (take (run is_digit (drop place s)) (drop place s))) (after s is_digit place)) (refused 12 place)) ≡ value n next
          → Onward s place next
      go true b d f g =
          let same : suc place ≡ next = cc in
          rw (← same) (record { onward = omega arith; within = omega (arith, stands_within s (is 0x30) place d) })
      go false true d f g =
          let same : after s is_digit place ≡ next = cc in
          let h = stands_within s is_first_digit place f in
          rw (← same) (record { onward = after_from s is_digit place; within = after_within s is_digit place (omega arith) })
      go false false d f g = let z : ◌≡◌ {A = ℕ} 0 1 = cc in absurd (omega arith)

  -- what number_up_to gives is a number of the text
  up_to_onward : (most refusal at place : ℕ) {n next : ℕ} → number_up_to s most refusal at place ≡ value n next → Onward s place next
  unfolding number_up_to
  up_to_onward most refusal at place {n} {next} e =
      let m = then_value (number s place) (λ k p. cond (leb k most) (value k p) (refused refusal at)) e in
      go m.0 m.1 (number_onward place m.2) (leb m.0 most) m.3
    where
      go : (k p : ℕ) → Onward s place p → (b : Bool) → cond b (value k p) (refused refusal at) ≡ value n next → Onward s place next
      go k p o true f = let same : p ≡ next = cc in rw same at o
      go k p o false f = let z : ◌≡◌ {A = ℕ} 0 1 = cc in absurd (omega arith)

-- ---- a number of a clause

-- A literal, or the closing 0, over v variables, and the place after it.
pub record Numbered (s : List ℕ) (v place : ℕ) (l : Literal) (next : ℕ) : Type 0 where
  pub over : variable l ≤ v
  pub further : Onward s place next

module _ (s : List ℕ) (v place : ℕ) where
  -- what is made of a number that is read
  made_of : (at from : ℕ) (f : ℕ → Literal) → ((n : ℕ) → variable (f n) ≡ n) → place ≤ from → {l : Literal} {next : ℕ}
      → and_then (number_up_to s v 12 at from) (λ n p. value (f n) p) ≡ value l next → Numbered s v place l next
  made_of at from f same h {l} {next} e =
      let m = then_value (number_up_to s v 12 at from) (λ n p. value (f n) p) e in go m.0 m.1 m.2 m.3
    where
      go : (n p : ℕ) → number_up_to s v 12 at from ≡ value n p → value (f n) p ≡ value l next → Numbered s v place l next
      go n p d g =
          let is_l : f n ≡ l = cc in
          let is_next : p ≡ next = cc in
          let o = up_to_onward s v 12 at from d in
          record {
            over = rw (← is_l, same n) (up_to_most s v 12 at from d);
            further = record { onward = omega (arith, o.onward); within = omega (arith, o.within) };
          }

  plain : (n : ℕ) → variable (pos n) ≡ n
  unfolding variable
  plain n = refl

  minus : (n : ℕ) → variable (opposite n) ≡ n
  unfolding variable
  minus zero = refl
  minus (suc n) = refl

  signed_numbered : {l : Literal} {next : ℕ} → signed s v place ≡ value l next → Numbered s v place l next
  unfolding signed
  signed_numbered {l} {next} e = go (stands s (is 0x2D) place) (stands s is_first_digit (suc place)) e
    where
      go : (a b : Bool)
          → cond a (cond b (and_then (number_up_to s v 12 place (suc place)) (λ n p. value (opposite n) p)) (refused 12 (suc place)))
          (and_then (number_up_to s v 12 place place) (λ n p. value (pos n) p)) ≡ value l next
          → Numbered s v place l next
      go true true f = made_of place (suc place) opposite minus (omega arith) f
      go true false f = let z : ◌≡◌ {A = ℕ} 0 1 = cc in absurd (omega arith)
      go false b f = made_of place place pos plain (omega arith) f

pub next_numbered : (s : List ℕ) (v place : ℕ) {l : Literal} {next : ℕ} → next_signed s v place ≡ value l next → Numbered s v (suc place) l next
unfolding next_signed
next_numbered s v place e =
    let m = then_value (one_or_more s is_gap place) (λ u p. signed s v p) e in
    let o = gap_onward s is_gap place m.2 in
    let w = signed_numbered s v m.1 m.3 in
    record { over = w.over; further = record { onward = omega (arith, o.onward, w.further.onward); within = w.further.within } }

-- ---- the literals of a clause

module _ (s : List ℕ) (v : ℕ) where
  -- what follows a number of a clause
  abbrev follows : ℕ → Literal → ℕ → Read (List Literal)
  follows turns l next = cond (eqb (variable l) 0) (value [] next) (with_item l (literals_from s v turns next))

  after_number : (place turns more : ℕ) → ((p : ℕ) → p ≤ length s → place < p → literals_from s v more p ≡ literals_from s v turns p)
      → and_then (next_signed s v place) (follows more) ≡ and_then (next_signed s v place) (follows turns)
  after_number place turns more k = go (next_signed s v place) refl
    where
      go : (m : Read Literal) → next_signed s v place ≡ m → and_then m (follows more) ≡ and_then m (follows turns)
      go (value l p) d =
          let w = (next_numbered s v place d).further in
          ap (λ r. cond (eqb (variable l) 0) (value [] p) (with_item l r)) (k p w.within (omega (arith, w.onward)))
      go (refused n p) d = refl

  -- more turns than there are bytes change nothing: the meaning does not depend on how many it is given
  pub literals_enough : (turns place : ℕ) → place ≤ length s → length s < turns + place → literals_from s v (suc turns) place ≡ literals_from s v turns place
  unfolding literals_from
  literals_enough zero place h l = absurd (omega arith)
  literals_enough (suc turns) place h l = after_number place turns (suc turns) (λ p within later. literals_enough turns p within (omega arith))

  -- The literals of a clause that are still to be read.
  abbrev pub literals_left : ℕ → Read (List Literal)
  literals_left place = literals_from s v (suc (length s)) place

  module _ (place : ℕ) where
    pub literals_wrong : {n p : ℕ} → next_signed s v place ≡ refused n p → literals_left place ≡ refused n p
    unfolding literals_from
    literals_wrong f = rw f refl

    module _ {l : Literal} {next : ℕ} (f : next_signed s v place ≡ value l next) where
      pub literals_closed : l ≡ pos 0 → literals_left place ≡ value [] next
      unfolding literals_from variable
      literals_closed h = rw (f, h) refl

      pub literals_more : 0 < variable l → literals_left place ≡ with_item l (literals_left next)
      unfolding literals_from
      literals_more h =
          let w = (next_numbered s v place f).further in
          rw (f, ne_eqb (variable l) 0 (λ z. omega arith))
          (ap (with_item l) (sym (literals_enough (length s) next w.within (omega (arith, w.onward)))))

-- a literal is 0, as the code tests it
pub zero_literal : (l : Literal) → SFits w8 l → of_z w8 l ≡ 0 → l ≡ pos 0
zero_literal l fits e = sym (to_z-of_z {w = w8} fits) ∙ ap (λ n. to_z w8 n) e

-- one that is not 0 has a variable
pub above_zero : (l : Literal) → (of_z w8 l ≡ 0 → ⊥) → 0 < variable l
unfolding variable
above_zero (pos zero) h = absurd (h refl)
above_zero (pos (suc n)) h = omega arith
above_zero (negsuc n) h = omega arith

-- ---- a clause as two masks

pub dropped_masks : (c : List Literal) → clashes (masks c) ≡ is_dropped c
unfolding clashes is_dropped
dropped_masks c = refl

allowed_masks : (c : List Literal) → allowed (masks c) ≡ is_dropped c || leb (length (rule_of c)) max_literals
unfolding allowed clashes is_dropped rule_of
allowed_masks c = refl

module _ (s : List ℕ) (v place : ℕ) {read : Clause} (e : Ok read ≡ read_answer clause_read (literals_from s v (suc (length s)) place)) {b : Bool}
    (a : b ≡ allowed read.set) where
  pub judged_large : b ≡ false → clause_from s v place ≡ refused 13 (after s is_gap place)
  unfolding clause_from
  judged_large h =
      let k = clause_ok _ e in
      let fails : is_dropped k.0 || leb (length (rule_of k.0)) max_literals ≡ false = sym (allowed_masks k.0) ∙ ap allowed (sym k.2) ∙ sym a ∙ h in
      rw (k.1, fails) refl

  pub judged_fine : b ≡ true → read_answer clause_read (clause_from s v place) ≡ Ok read
  unfolding clause_from read_answer
  judged_fine h =
      let k = clause_ok _ e in
      let passes : is_dropped k.0 || leb (length (rule_of k.0)) max_literals ≡ true = sym (allowed_masks k.0) ∙ ap allowed (sym k.2) ∙ sym a ∙ h in
      rw (k.1, passes) (ap (λ t. Ok (record { set = t; next = read.next })) (sym k.2))
