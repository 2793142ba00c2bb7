-- The costs that an accepted book holds are its table. Assumes nothing.
use mathlib.Core.Path.{◌≡◌, refl}
use mathlib.Core.List.{List}
use Prim.Native.Nat.{ℕ}
use native.Mathlib.Omega.{arith}
use Rattle.std.specs.Prelude.{Ok}
use Rattle.records.specs.Format.{Read, value, refused, OrderBook, read_book}
use Rattle.records.specs.Promises.{read_answer}
use Rattle.records.specs.declared.Book.{Book}
use Rattle.book.specs.Answer.{masked_book, book_answer, table_answer}

pub table_of : (s : List ℕ) {b : Book} → Ok b ≡ book_answer (read_book s) → table_answer (λ b. b.costs) (read_book s) ≡ b.costs
unfolding book_answer read_answer table_answer
table_of s {b} e = go (read_book s) e
  where
    go : (m : Read OrderBook) → Ok b ≡ book_answer m → table_answer (λ b. b.costs) m ≡ b.costs
    go (value c end) f = let same : b ≡ masked_book c = cc in rw same refl
    go (refused number place) f = let z : ◌≡◌ {A = ℕ} 0 1 = cc in absurd (omega arith)
