-- `book::read_costs` meets its contract. Assumes nothing.
use Rattle.std.proofs.Common.{refl, sym, ap, ◌∙◌}
use Rattle.book.specs.Answer.{table_answer, table, padded}
use Rattle.book.proofs.PartLaws.{book_says, book_refused}
use Rattle.book.proofs.read_costs.Goals as goal

pub returns-in-Ok : goal.returns-in-Ok
unfolding table_answer
returns-in-Ok c = let b = book_says _ c.in-Ok.ensures in ap (λ k. k.costs) b.keeps ∙ ap (table_answer (λ b. b.costs)) (sym b.said)

pub returns-in-Err : goal.returns-in-Err
unfolding table_answer table padded
returns-in-Err c = let r = book_refused _ c.in-Err.ensures in rw r.2 refl
