-- What stands at a place of a text, and runs of bytes that pass a test.
-- Assumes nothing.
use mathlib.Core.Path.{◌≡◌, refl, sym, ap, ◌∙◌}
use mathlib.Core.Logic.{by_cases}
use mathlib.Core.Bool.{Bool, true, false, cond}
use mathlib.Core.List.{List, [], ◌∷◌}
use Prim.Native.Nat.{ℕ, suc, ◌+◌, ◌-◌, ◌≤◌, ◌<◌}
use native.Mathlib.Decide.{dec_lt}
use native.Mathlib.Numerals.{add-one}
use native.Mathlib.Omega.{arith}
use borrow.Author.Tests.{lt-ltb, ltb-true}
use lib.Dec.{ltb}
use lib.ListN.{length, get_or, take, drop, length-drop, drop_of_length-le}
use lib.Seq.{drop-cons}
use Rattle.std.specs.List.{prefix_len}
use Rattle.std.proofs.Common.{min}
use Rattle.std.proofs.lemmas.List.{drop_min, take_all}
use Rattle.std.proofs.lemmas.List.Sums.{prefix_len-le-length}
use Rattle.literals.specs.Laws.{and_both}
use Rattle.records.specs.Format.{value, refused, byte}
use Rattle.dimacs.specs.Text.{is, run, stands, after, word}

-- a run is as long as the prefix that passes
pub run_prefix : (test : ℕ → Bool) (s : List ℕ) → prefix_len test s ≡ run test s
unfolding run
run_prefix test [] = refl
run_prefix test (b ∷ s) =
    let more : 1 + prefix_len test s ≡ suc (run test s) = omega (arith, run_prefix test s) in
    ap (λ n. cond (test b) n 0) more

-- a run is part of the bytes
run_within : (test : ℕ → Bool) (s : List ℕ) → run test s ≤ length s
run_within test s = rw (← run_prefix test s) (prefix_len-le-length test s)

-- a run ends where a byte does not pass, goes on where one does, and ends with the bytes
module _ (test : ℕ → Bool) (s : List ℕ) (i : ℕ) where
  pub run_stops : i < length s → test (get_or s i 0) ≡ false → run test (drop i s) ≡ 0
  unfolding run
  run_stops h e = rw (drop-cons s i 0 h, e) refl

  pub run_goes : i < length s → test (get_or s i 0) ≡ true → run test (drop i s) ≡ 1 + run test (drop (i + 1) s)
  unfolding run
  run_goes h e = rw (drop-cons s i 0 h, e, add-one i) (omega arith)

  pub run_out : length s ≤ i → run test (drop i s) ≡ 0
  unfolding run
  run_out h = rw (drop_of_length-le s h) refl

-- what is left of a text from a place on, or of nothing where the place is behind it
pub run_left : (test : ℕ → Bool) (s : List ℕ) (from : ℕ) {m : ℕ} → m ≡ min from (length s)
    → run test (take (length s - m) (drop m s)) ≡ run test (drop from s)
run_left test s from {m} e =
    ap (run test) (take_all (length s - m) (drop m s) (omega (arith, length-drop m s)) ∙ ap (λ k. drop k s) e ∙ drop_min from s)

module _ (s : List ℕ) (test : ℕ → Bool) (place : ℕ) where
  -- what stands at a place, stands within the text
  pub stands_within : stands s test place ≡ true → place < length s
  unfolding stands
  stands_within e = ltb-true _ _ (and_both (ltb place (length s)) _ e).0

  pub stands_passes : stands s test place ≡ true → test (byte s place) ≡ true
  unfolding stands
  stands_passes e = (and_both (ltb place (length s)) _ e).1

  pub stands_here : place < length s → stands s test place ≡ test (byte s place)
  unfolding stands
  stands_here h = rw (lt-ltb _ _ h) refl

  -- a run goes on where a byte passes, and ends where none does
  pub after_more : stands s test place ≡ true → after s test place ≡ after s test (place + 1)
  unfolding after run
  after_more e =
      let h = stands_within e in
      rw (drop-cons s place 0 h, stands_passes e, add-one place) (omega arith)

  pub after_stop : stands s test place ≡ false → after s test place ≡ place
  unfolding after run
  after_stop e =
      by_cases (dec_lt place (length s))
      (λ h. let fails : test (byte s place) ≡ false = sym (stands_here h) ∙ e in rw (drop-cons s place 0 h, fails) (omega arith))
      (λ h. let past : length s ≤ place = omega arith in rw (drop_of_length-le s past) (omega arith))

  pub after_from : place ≤ after s test place
  unfolding after
  after_from = omega arith

  pub after_within : place ≤ length s → after s test place ≤ length s
  unfolding after
  after_within h = omega (arith, run_within test (drop place s), length-drop place s)

-- ---- a word, byte by byte

module _ (s w : List ℕ) (from : ℕ) where
  -- After i bytes of the word: what is left of it stands from a place on.
  pub record Spelled (place i : ℕ) : Type 0 where
    pub left : word s w from ≡ word s (drop i w) place
    pub upto : i ≤ length w

  pub spelled_none : Spelled from 0
  spelled_none = record { left = refl; upto = omega arith }

  module _ {place i : ℕ} (g : Spelled place i) where
    pub spelled_wrong : i < length w → stands s (is (get_or w i 0)) place ≡ false → word s w from ≡ refused 12 place
    unfolding word
    spelled_wrong h e = g.left ∙ rw (drop-cons w i 0 h, e) refl

    pub spelled_more : i < length w → stands s (is (get_or w i 0)) place ≡ true → Spelled (place + 1) (i + 1)
    unfolding word
    spelled_more h e = record { left = g.left ∙ rw (add-one i, add-one place, drop-cons w i 0 h, e) refl; upto = omega arith }

    pub spelled_all : length w ≤ i → word s w from ≡ value tt place
    unfolding word
    spelled_all h = g.left ∙ rw (drop_of_length-le w h) refl
