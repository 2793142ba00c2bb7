-- The text that was printed fits the buffer.
use Rattle.std.proofs.Common.{sym, arith, length-take-le}
use Rattle.printing.proofs.PrintLaws.{text_fits}
use Rattle.console.proofs.show.Goals as goal

pub slice_bounds-text-end : goal.slice_bounds-text-end
slice_bounds-text-end c = omega (arith, text_fits c.print.ensures c.in-Some.is c.print.auto.out)

pub slice_bounds-write_all-end : goal.slice_bounds-write_all-end
slice_bounds-write_all-end c =
    sym (length-take-le _ _ (omega (arith, text_fits c.print.ensures c.in-Some.is c.print.auto.out)))
