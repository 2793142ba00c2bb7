-- `dimacs::import` meets its contract. Assumes nothing.
use Rattle.std.proofs.Common.{arith}
use Rattle.dimacs.proofs.ImportLaws.{import_short, import_refused, import_written, Handed, handed, book_room}
use Rattle.dimacs.proofs.import.Goals as goal

pub returns-then-out-lt-MAX_WITHOUT_FACTS : goal.returns-then-out-lt-MAX_WITHOUT_FACTS
returns-then-out-lt-MAX_WITHOUT_FACTS c = rw c.at.ensures (import_short _ _ (omega (arith, c.if-out-lt-MAX_WITHOUT_FACTS.true)))

pub returns-in_err-formula : goal.returns-in_err-formula
returns-in_err-formula c = import_refused _ _ c.if-out-lt-MAX_WITHOUT_FACTS.false c.in_err-formula.ensures c.from_residual.ensures.1

pub put_book-requires : goal.put_book-requires
put_book-requires c =
    let w : Handed c.args.s.now c.in_ok-formula.formula = handed _ c.in_ok-formula.ensures in
    record {
      variables_le_max_variables = w.few_variables;
      few_rules = c.deref.ensures.1;
      in_bounds = rw c.deref.ensures.0 (book_room _ _ c.if-out-lt-MAX_WITHOUT_FACTS.false w);
    }

pub returns : goal.returns
returns c =
    let w : Handed c.args.s.now c.in_ok-formula.formula = handed _ c.in_ok-formula.ensures in
    import_written _ _ c.if-out-lt-MAX_WITHOUT_FACTS.false w (rw c.deref.ensures.0 at c.put_book.ensures)
