-- Numbers of a text: their digits, counted no further than to a number that is too large, and the checks of a number.
-- Assumes nothing.
use mathlib.Core.Path.{◌≡◌, refl, sym, ap, ◌∙◌}
use mathlib.Core.Bool.{true, false}
use mathlib.Core.List.{List, [], ◌∷◌}
use Prim.Native.Nat.{ℕ, suc, ◌+◌, ◌-◌, ◌*◌, ◌≤◌, ◌<◌, min}
use native.Mathlib.Numerals.{add-one}
use native.Mathlib.Omega.{arith}
use borrow.Author.Tests.{le-leb, lt-leb}
use lib.ListN.{length, get_or, take, drop, drop_of_length-le}
use lib.Seq.{drop-cons}
use Rattle.std.specs.Prelude.{Ok}
use Rattle.records.specs.Format.{value, refused}
use Rattle.records.specs.Promises.{read_answer}
use Rattle.dimacs.specs.Text.{is, run, is_digit, is_first_digit, numeral, stands, after, number, number_up_to}
use Rattle.dimacs.specs.Promises.{too_large, capped}
use Rattle.dimacs.specs.declared.numbers.Number.{Number}
use Rattle.dimacs.proofs.ReadLaws.{capped_ok}

-- ---- digits

-- what is over the cap stays over it
numeral_capped : (n : ℕ) (ds : List ℕ) → min (numeral (min n too_large) ds) too_large ≡ min (numeral n ds) too_large
unfolding numeral
numeral_capped n [] = omega arith
numeral_capped n (b ∷ ds) =
    sym (numeral_capped (10 * min n too_large + (b - 0x30)) ds)
    ∙ ap (λ k. min (numeral k ds) too_large) (omega arith)
    ∙ numeral_capped (10 * n + (b - 0x30)) ds

module _ (ds : List ℕ) where
  -- After i digits: the number that they are, capped.
  pub record Summed (n i : ℕ) : Type 0 where
    pub left : min (numeral 0 ds) too_large ≡ min (numeral n (drop i ds)) too_large
    pub small : n ≤ too_large
    pub upto : i ≤ length ds

  pub summed_none : Summed 0 0
  summed_none = record { left = refl; small = omega arith; upto = omega arith }

  module _ {n i : ℕ} (g : Summed n i) where
    pub summed_more : {d m : ℕ} → i < length ds → d ≡ get_or ds i 0 - 0x30 → m ≡ min (10 * n + d) too_large → Summed m (i + 1)
    unfolding numeral
    summed_more {d} {m} h e f = record {
      left = g.left ∙ rw (drop-cons ds i 0 h, add-one i, f, e) (sym (numeral_capped (10 * n + (get_or ds i 0 - 0x30)) (drop (suc i) ds)));
      small = omega arith;
      upto = omega arith;
    }

    pub summed_all : length ds ≤ i → n ≡ min (numeral 0 ds) too_large
    unfolding numeral
    summed_all h = sym (g.left ∙ rw (drop_of_length-le ds h) (omega arith))

-- ---- a number

module _ (s : List ℕ) (place : ℕ) where
  pub number_zero : stands s (is 0x30) place ≡ true → number s place ≡ value 0 (place + 1)
  unfolding number
  number_zero e = rw (e, add-one place) refl

  module _ (e : stands s (is 0x30) place ≡ false) where
    pub number_wrong : stands s is_first_digit place ≡ false → number s place ≡ refused 12 place
    unfolding number
    number_wrong f = rw (e, f) refl

    pub number_digits : stands s is_first_digit place ≡ true
        → number s place ≡ value (numeral 0 (take (after s is_digit place - place) (drop place s))) (after s is_digit place)
    unfolding number after
    number_digits f =
        let size : place + run is_digit (drop place s) - place ≡ run is_digit (drop place s) = omega arith in
        rw (e, f, size) refl

-- ---- a number up to a limit

module _ (s : List ℕ) (most refusal at place : ℕ) (l : most < too_large) {n : Number} (e : Ok n ≡ read_answer capped (number s place)) where
  pub up_to_large : most < n.value → number_up_to s most refusal at place ≡ refused refusal at
  unfolding number_up_to
  up_to_large h =
      let k = capped_ok _ e in
      rw (k.1, lt-leb k.0 most (omega (arith, k.2))) refl

  pub up_to_says : n.value ≤ most → number_up_to s most refusal at place ≡ value n.value n.next
  unfolding number_up_to
  up_to_says h =
      let k = capped_ok _ e in
      let same : k.0 ≡ n.value = omega (arith, k.2) in
      rw (k.1, same, le-leb n.value most h) refl
