-- `dimacs::writing::put_book` meets its contract: its four parts are put one after the other. Assumes nothing.
use Rattle.std.proofs.Common.{sym}
use Rattle.log_form.proofs.StoreLaws.{put_append}
use Rattle.dimacs.specs.Promises.{written_bytes}
use Rattle.dimacs.proofs.writing.put_book.Goals as goal

pub returns : goal.returns
unfolding written_bytes
returns c =
    rw (sym c.min-choices.ensures)
    (put_append _ _ c.put_header-headed.ensures (put_append _ _ c.put_costs-costed.ensures (put_append _ _ c.put_rules-ruled.ensures c.put_bytes.ensures)))
