-- The problem that the code makes of an accepted book at a moment is the book's: the same theory, the same given facts, the same consequence.
-- Assumes nothing.
use mathlib.Core.Path.{◌≡◌, refl, sym, ap, ap₂, ◌∙◌}
use mathlib.Core.Bool.{true, false, not, not-not}
use mathlib.Core.List.{List}
use Prim.Native.Nat.{ℕ, ◌≤◌}
use native.Mathlib.Omega.{arith}
use Rattle.sets.specs.Sets.{width}
use Rattle.literals.specs.Truth.{yes_mask, no_mask}
use Rattle.dates.specs.Windows.{is_moment}
use Rattle.dates.specs.declared.Moment.{Moment}
use Rattle.std.specs.Prelude.{Ok, Err}
use Rattle.records.specs.Format.{Read, value, refused, OrderBook, read_book}
use Rattle.records.specs.Promises.{read_answer}
use Rattle.records.specs.Refusals.{refusal_of}
use Rattle.records.specs.declared.Book.{Book}
use Rattle.records.specs.declared.refusal.Refusal.{Refusal}
use Rattle.book.specs.Answer.{masked_book, book_answer}
use Rattle.book.proofs.WellFormed.{WellFormed, well_formed}
use Rattle.problem.specs.Problem.{problem_of}
use Rattle.problem.specs.Masked.{masked_from, Searchable}
use Rattle.problem.proofs.BookLaws.{proper_book, yes_kept, no_kept, proper_posed}
use Rattle.problem.specs.declared.MaskedProblem as kept
use Rattle.consequence.specs.Meaning.{has_model, consequence_of, Theory, theory_of, contradicts, yes_forced, no_forced}
use Rattle.consequence.specs.Promises.{mask_theory}
use Rattle.consequence.specs.Laws.Masks.{same_theory}
use Rattle.consequence.specs.Laws.Problems.{has_contradicts, yes_consequence_lem, no_consequence_lem}
use Rattle.engine.specs.Calls.{read_at, posed}
use Rattle.engine.proofs.PosedLaws.{read_at_lem, posed_book, posed_refused, read_possible}
use Rattle.engine.specs.Promises.{theory_in, forced_in, problem_answer, Steppable, Loggable}

module _ {b : OrderBook} (w : WellFormed b) (moment : Moment) where
  pub theory_same : theory_in (masked_from moment (masked_book b)) ≡ theory_of (problem_of moment b)
  unfolding problem_of
  theory_same = ap₂ (λ (y : List ℕ) (n : List ℕ). mask_theory b.header.variables y n (problem_of moment b).choices) (yes_kept w moment) (no_kept w moment)
      ∙ same_theory (problem_of moment b)

  -- what the given facts force is the consequence
  pub forced_same : forced_in (masked_from moment (masked_book b)) ≡ consequence_of (problem_of moment b)
  unfolding problem_of
  forced_same =
      ap (λ (t : Theory). record {
        yes = yes_forced t (yes_mask b.facts) (no_mask b.facts);
        no =
            no_forced t (yes_mask b.facts) (no_mask b.facts);
      }) theory_same
      ∙ sym (ap₂ (λ (y : ℕ) (n : ℕ). record { yes = y; no = n }) (yes_consequence_lem (problem_of moment b) (proper_book w moment).facts_proper)
      (no_consequence_lem (problem_of moment b) (proper_book w moment).facts_proper))

  -- they contradict the rules exactly where the book has no model
  pub contradicts_has : contradicts (theory_in (masked_from moment (masked_book b))) (masked_from moment (masked_book b)).facts.yes
      (masked_from moment (masked_book b)).facts.no
      ≡ not (has_model (problem_of moment b))
  unfolding problem_of
  contradicts_has =
      ap (λ (t : Theory). contradicts t (yes_mask b.facts) (no_mask b.facts)) theory_same
      ∙ sym (not-not _) ∙ ap not (sym (has_contradicts (problem_of moment b) (proper_book w moment).facts_proper))

  -- ---- what the searches ask

  pub searchable : Searchable (masked_from moment (masked_book b))
  unfolding problem_of
  searchable = record {
    choices_below = (proper_book w moment).choices_below;
    posed = rw (yes_kept w moment, no_kept w moment) (proper_posed (proper_book w moment));
  }

  pub steppable : Steppable (masked_from moment (masked_book b))
  unfolding problem_of
  steppable = record { searchable = searchable; few = w.few_variables; rows = (proper_book w moment).few_choices; cheap = (proper_book w moment).cheap }

  pub loggable : Loggable (masked_from moment (masked_book b))
  unfolding problem_of
  loggable = record { steppable = steppable; yes_facts = (proper_book w moment).yes_facts; no_facts = (proper_book w moment).no_facts }

-- ---- the problem that was made, and the book that was read for it

pub record Taken (moment : Moment) (s : List ℕ) (p : kept.MaskedProblem) : Type 0 where
  pub book : OrderBook
  pub end : ℕ
  pub possible : is_moment moment ≡ true
  pub read : read_book s ≡ value book end
  pub well : WellFormed book
  pub same : p ≡ masked_from moment (masked_book book)

pub taken : {moment : Moment} {s : List ℕ} {p : kept.MaskedProblem} → Ok p ≡ problem_answer moment (read_at moment s) → Taken moment s p
unfolding problem_answer read_answer
taken {moment} {s} {p} e = go (read_at moment s) refl e
  where
    go : (m : Read OrderBook) → read_at moment s ≡ m → Ok p ≡ problem_answer moment m → Taken moment s p
    go (refused number place) d f = let z : ◌≡◌ {A = ℕ} 0 1 = cc in absurd (omega arith)
    go (value b end) d f =
        let r = read_at_lem moment s d in
        record { book = b; end = end; possible = r.0; read = r.1; well = well_formed s r.1; same = cc }

module _ {moment : Moment} {s : List ℕ} {p : kept.MaskedProblem} (t : Taken moment s p) where
  pub taken_posed : posed moment s ≡ value (problem_of moment t.book) t.end
  taken_posed = posed_book moment s t.possible t.read

  pub taken_searchable : Searchable p
  taken_searchable = rw t.same (searchable t.well moment)

  pub taken_steppable : Steppable p
  taken_steppable = rw t.same (steppable t.well moment)

  pub taken_loggable : Loggable p
  taken_loggable = rw t.same (loggable t.well moment)

-- ---- where no problem was made, the bytes pose none

pub record NotTaken (moment : Moment) (s : List ℕ) (r : Refusal) : Type 0 where
  pub number : ℕ
  pub place : ℕ
  pub posed : posed moment s ≡ refused number place
  pub same : r ≡ refusal_of number place

pub not_taken : {moment : Moment} {s : List ℕ} {r : Refusal} → Err r ≡ problem_answer moment (read_at moment s) → NotTaken moment s r
unfolding problem_answer read_answer
not_taken {moment} {s} {r} e = go (read_at moment s) refl e
  where
    go : (m : Read OrderBook) → read_at moment s ≡ m → Err r ≡ problem_answer moment m → NotTaken moment s r
    go (refused number place) d f = record { number = number; place = place; posed = posed_refused moment s d; same = cc }
    go (value b end) d f = let z : ◌≡◌ {A = ℕ} 0 1 = cc in absurd (omega arith)

-- ---- the problem is made of the book that was read

module _ (moment : Moment) (s : List ℕ) (possible : is_moment moment ≡ true) where
  pub made_of : {b : Book} → Ok b ≡ book_answer (read_book s) → Ok (masked_from moment b) ≡ problem_answer moment (read_at moment s)
  unfolding book_answer problem_answer read_answer
  made_of {b} e = rw (read_possible moment s possible) (go (read_book s) e)
    where
      go : (m : Read OrderBook) → Ok b ≡ book_answer m → Ok (masked_from moment b) ≡ problem_answer moment m
      go (refused number place) f = let z : ◌≡◌ {A = ℕ} 0 1 = cc in absurd (omega arith)
      go (value c end) f = let same : b ≡ masked_book c = cc in rw same refl

  pub not_made : {r : Refusal} → Err r ≡ book_answer (read_book s) → Err r ≡ problem_answer moment (read_at moment s)
  unfolding book_answer problem_answer read_answer
  not_made {r} e = rw (read_possible moment s possible) (go (read_book s) e)
    where
      go : (m : Read OrderBook) → Err r ≡ book_answer m → Err r ≡ problem_answer moment m
      go (refused number place) f = let same : r ≡ refusal_of number place = cc in rw same refl
      go (value c end) f = let z : ◌≡◌ {A = ℕ} 0 1 = cc in absurd (omega arith)

-- a moment that cannot be is refused before the book is read
pub impossible : (moment : Moment) (s : List ℕ) → is_moment moment ≡ false → Err (refusal_of 14 0) ≡ problem_answer moment (read_at moment s)
unfolding problem_answer read_answer read_at
impossible moment s e = rw e refl

-- the problem can be made of it
pub read_fits : (s : List ℕ) {b : Book} → Ok b ≡ book_answer (read_book s) → (b.variables ≤ width) × (b.choices ≤ width)
unfolding book_answer read_answer
read_fits s {b} e = go (read_book s) refl e
  where
    go : (m : Read OrderBook) → read_book s ≡ m → Ok b ≡ book_answer m → (b.variables ≤ width) × (b.choices ≤ width)
    go (refused number place) d f = let z : ◌≡◌ {A = ℕ} 0 1 = cc in absurd (omega arith)
    go (value c end) d f =
        let w = well_formed s d in
        let same : b ≡ masked_book c = cc in
        rw same (omega (arith, w.few_variables), omega (arith, w.few_choices))
