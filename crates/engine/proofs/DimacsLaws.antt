-- What stands in the buffer after a DIMACS CNF text was taken.
-- Assumes nothing.
use mathlib.Core.Path.{◌≡◌, refl, sym, ap, ◌∙◌}
use mathlib.Core.Logic.{⊎_elim, inl, inr}
use mathlib.Core.Bool.{Bool, true, false, cond, and-true}
use mathlib.Core.List.{List}
use Prim.Native.Nat.{ℕ, ◌≤◌}
use native.Mathlib.Omega.{arith}
use lib.Dec.{ltb}
use lib.ListN.{length, take, drop}
use lib.Seq.{take_at}
use Rattle.dates.specs.declared.Moment.{Moment}
use Rattle.literals.specs.Truth.{all_hold}
use Rattle.records.specs.Limits.{max_without_facts}
use Rattle.records.specs.Format.{Read, value, refused}
use Rattle.sat.specs.Meaning.{obeys_rules, is_model}
use Rattle.problem.specs.Problem.{problem_of}
use Rattle.problem.proofs.InForceLaws.{always_in_force}
use Rattle.consequence.specs.Meaning.{models}
use Rattle.dimacs.specs.Text.{Formula, satisfies, formula_of}
use Rattle.dimacs.specs.Import.{rules_of, book_of, imported_bytes, imported, import_answer, buffer_after, ImportedAs}
use Rattle.std.specs.Prelude.{Result, Ok, Err}
use Rattle.records.specs.Refusals.{number_of, kind_of, refusal_of}
use Rattle.records.specs.declared.refusal.Refusal.{Refusal}
use Rattle.records.proofs.RefusalLaws.{number_kept}
use Rattle.dimacs.proofs.Good.{GoodFormula, formula_good}
use Rattle.dimacs.proofs.RoundTrip.{book_read, book_short}
use Rattle.dimacs.proofs.SameModels.{obeys_kept}
use Rattle.dimacs.proofs.PlaceLaws.{text_refusals}
use Rattle.engine.specs.Dimacs.{BookOf, Leaves, RefusalOf, DimacsCall}

-- a filling is a model of the book exactly where it satisfies the formula: there is no fact to make true
same_models : (f : Formula) (moment : Moment) (g : ℕ) → models (problem_of moment (book_of f)) g ≡ satisfies g f
unfolding models problem_of book_of is_model all_hold satisfies
same_models f moment g = and-true _ ∙ ap (obeys_rules g) (always_in_force moment (rules_of f.clauses)) ∙ obeys_kept g f.clauses

-- the book of a good formula
good_book : {f : Formula} → GoodFormula f → BookOf f (imported_bytes f) (length (imported_bytes f))
unfolding book_of
good_book {f} w = record {
  book = book_of f;
  reads = book_read w;
  short = book_short w;
  same_variables = refl;
  lesser = refl;
  every_cost = refl;
  no_facts = refl;
  same_models = λ moment g h. same_models f moment g;
}

-- a text that is taken is read from a buffer that is long enough
taken : (room : ℕ) (s : List ℕ) {f : Formula} {end : ℕ} → imported room s ≡ value f end → formula_of s ≡ value f end
unfolding imported
taken room s {f} {end} e = go (ltb room max_without_facts) e
  where
    go : (b : Bool) → cond b (refused 8 0) (formula_of s) ≡ value f end → formula_of s ≡ value f end
    go true g = let z : ◌≡◌ {A = ℕ} 0 1 = cc in absurd (omega arith)
    go false g = g

-- a refusal is that of a short buffer, or of the text
pub text_refusal : (room : ℕ) (s : List ℕ) {number place : ℕ} → imported room s ≡ refused number place → RefusalOf s number place
unfolding imported
text_refusal room s {number} {place} e = go (ltb room max_without_facts) e
  where
    go : (b : Bool) → cond b (refused 8 0) (formula_of s) ≡ refused number place → RefusalOf s number place
    go true g =
        let eight : 8 ≡ number = cc in
        let first : 0 ≡ place = cc in
        record { numbered = inl (omega arith); placed = omega arith }
    go false g = let w = text_refusals s g in record { numbered = inr (w.0, w.1); placed = w.2 }

-- what was answered with a refusal was refused
answered_refusal : (m : Read Formula) {r : Refusal} → import_answer m ≡ Err r → (number : ℕ) × (place : ℕ) × (m ≡ refused number place) × (r ≡ refusal_of number place)
unfolding import_answer
answered_refusal (value f end) e = let z : ◌≡◌ {A = ℕ} 0 1 = cc in absurd (omega arith)
answered_refusal (refused n p) e = (n, p, refl, cc)

-- the check that it names has the same number
named : {s : List ℕ} {number place : ℕ} → RefusalOf s number place → RefusalOf s (number_of (kind_of number)) place
named {number = number} w =
    let kept : number_of (kind_of number) ≡ number =
    ⊎_elim (λ k. number_kept number (omega (arith, k)) (omega (arith, k)) (λ e. omega (arith, k, e)))
    (λ k. number_kept number (omega (arith, k.0)) (omega (arith, k.1)) (λ e. omega (arith, k.0, e))) w.numbered in
    rw kept w

-- the contract, from what the call answers by equation
pub dimacs_call : (s before : List ℕ) {after : List ℕ} {r : Result ℕ Refusal} → ImportedAs (imported (length before) s) before after r
    → DimacsCall s before after r
unfolding import_answer buffer_after
dimacs_call s before {after} {r} w = record {
  said = w;
  leaves = go (imported (length before) s) refl w;
  refusals = λ refusal e.
      let a = answered_refusal (imported (length before) s) (sym w.answered ∙ e) in
      let t = text_refusal (length before) s a.2 in
      rw a.3 (named t);
}
  where
    go : (m : Read Formula) → imported (length before) s ≡ m → ImportedAs m before after r → Leaves m after r
    go (refused number place) e k = k.answered
    go (value f end) e k =
        let good = good_book (formula_good s (taken (length before) s e)) in
        let front : take (length (imported_bytes f)) after ≡ imported_bytes f =
        ap (take (length (imported_bytes f))) k.buffer ∙ take_at (imported_bytes f) (drop (length (imported_bytes f)) before) _ refl in
        rw k.answered (rw front good)

-- the book that was written is short
pub written_short : {s before after : List ℕ} {r : Result ℕ Refusal} {size : ℕ} → DimacsCall s before after r → r ≡ Ok size → size ≤ max_without_facts
written_short {s} {before} {after} {r} {size} w e = go (imported (length before) s) (rw e at w.leaves)
  where
    go : (m : Read Formula) → Leaves m after (Ok size) → size ≤ max_without_facts
    go (value f end) k = k.short
    go (refused number place) k = let z : ◌≡◌ {A = ℕ} 0 1 = cc in absurd (omega arith)
