-- The problem that bytes pose at a moment, taken back to the book: how it is refused, and that it is proper where it is not.
-- Assumes nothing.
use mathlib.Core.Path.{◌≡◌, refl, sym, ◌∙◌}
use mathlib.Core.Logic.{inr}
use mathlib.Core.Bool.{Bool, true, false, cond}
use mathlib.Core.List.{List}
use Prim.Native.Nat.{ℕ, ◌≤◌}
use native.Mathlib.Omega.{arith}
use lib.Count.{ones-ones}
use lib.ListN.{length}
use Rattle.sets.specs.Sets.{count}
use Rattle.dates.specs.Windows.{is_moment}
use Rattle.dates.specs.declared.Moment.{Moment}
use Rattle.records.specs.Format.{Read, value, refused, and_then, OrderBook, read_book}
use Rattle.book.proofs.NumberLaws.{ReaderNumber, reader_numbers}
use Rattle.book.proofs.PlaceLaws.{reader_places}
use Rattle.book.proofs.ValueLaws.{then_value}
use Rattle.book.proofs.WellFormed.{well_formed}
use Rattle.problem.specs.Problem.{Problem, problem_of}
use Rattle.problem.specs.Proper.{ProperProblem}
use Rattle.problem.proofs.BookLaws.{proper_book}
use Rattle.engine.specs.Calls.{read_at, posed}

-- a moment that cannot be is refused whatever the bytes are
pub posed_impossible : (moment : Moment) (s : List ℕ) → is_moment moment ≡ false → posed moment s ≡ refused 14 0
unfolding posed read_at
posed_impossible moment s e = rw e refl

-- a book that was read at a moment
pub read_at_lem : (moment : Moment) (s : List ℕ) {b : OrderBook} {end : ℕ} → read_at moment s ≡ value b end → (is_moment moment ≡ true) × (read_book s ≡ value b end)
unfolding read_at
read_at_lem moment s {b} {end} e = go (is_moment moment) refl e
  where
    go : (h : Bool) → is_moment moment ≡ h → cond h (read_book s) (refused 14 0) ≡ value b end → (is_moment moment ≡ true) × (read_book s ≡ value b end)
    go true d f = (d, f)
    go false d f = let z : ◌≡◌ {A = ℕ} 0 1 = cc in absurd (omega arith)

-- the problem of an accepted book
pub posed_book : (moment : Moment) (s : List ℕ) {b : OrderBook} {end : ℕ} → is_moment moment ≡ true → read_book s ≡ value b end
    → posed moment s ≡ value (problem_of moment b) end
unfolding posed read_at
posed_book moment s e f = rw (e, f) refl

-- a book that is refused
pub posed_refused : (moment : Moment) (s : List ℕ) {number place : ℕ} → read_at moment s ≡ refused number place → posed moment s ≡ refused number place
unfolding posed
posed_refused moment s e = rw e refl

-- a problem is that of a book
pub record PosedBy (moment : Moment) (s : List ℕ) (p : Problem) (end : ℕ) : Type 0 where
  pub book : OrderBook
  pub possible : is_moment moment ≡ true
  pub read : read_book s ≡ value book end
  pub same : problem_of moment book ≡ p

pub posed_by : (moment : Moment) (s : List ℕ) {p : Problem} {end : ℕ} → posed moment s ≡ value p end → PosedBy moment s p end
unfolding posed
posed_by moment s {p} {end} e =
    let f = then_value (read_at moment s) (λ b end. value (problem_of moment b) end) e in
    let after : f.1 ≡ end = cc in
    let r = read_at_lem moment s f.2 in
    record { book = f.0; possible = r.0; read = rw after at r.1; same = cc }

pub posed_proper : (moment : Moment) (s : List ℕ) {p : Problem} {end : ℕ} → posed moment s ≡ value p end → ProperProblem p
posed_proper moment s e = let b = posed_by moment s e in rw b.same at (proper_book (well_formed s b.read) moment)

-- ---- the number and the place of a refusal

module _ (moment : Moment) (s : List ℕ) {number place : ℕ} where
  -- it is the moment's, or the reader's
  refused_by : {P : Type 0} → posed moment s ≡ refused number place → (14 ≡ number → 0 ≡ place → P) → (read_book s ≡ refused number place → P) → P
  unfolding posed read_at
  refused_by {P} e impossible unread = go (is_moment moment) e
    where
      book : (m : Read OrderBook) → read_book s ≡ m → and_then m (λ b end. value (problem_of moment b) end) ≡ refused number place → P
      book (value b end) d f = let z : ◌≡◌ {A = ℕ} 0 1 = cc in absurd (omega arith)
      book (refused n p) d f = let k : n ≡ number = cc in let l : p ≡ place = cc in unread (d ∙ rw (k, l) refl)

      go : (h : Bool) → and_then (cond h (read_book s) (refused 14 0)) (λ b end. value (problem_of moment b) end) ≡ refused number place → P
      go true f = book (read_book s) refl f
      go false f = impossible (cc) (cc)

  pub posed_numbers : posed moment s ≡ refused number place → ReaderNumber number
  posed_numbers e = refused_by e (λ k l. inr (sym k)) (λ f. reader_numbers s f)

  pub posed_places : posed moment s ≡ refused number place → place ≤ length s
  posed_places e = refused_by e (λ k l. omega (arith, l)) (λ f. reader_places s f)

-- ---- the book at a moment that can be

pub read_possible : (moment : Moment) (s : List ℕ) → is_moment moment ≡ true → read_at moment s ≡ read_book s
unfolding read_at
read_possible moment s e = rw e refl

-- the choices of a book's problem are as many as its header says, so that one more than them is U + 1
pub choices_counted : (moment : Moment) (b : OrderBook) → count (problem_of moment b).choices ≡ b.header.choices
unfolding problem_of
choices_counted moment b = ones-ones b.header.choices
