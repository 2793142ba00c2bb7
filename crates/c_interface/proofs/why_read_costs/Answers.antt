-- `c_interface::why_read_costs` meets its contract. Assumes nothing.
use Rattle.std.proofs.Common.{refl, sym, ap, ◌∙◌}
use Rattle.c_interface.specs.Seen.{done}
use Rattle.c_interface.proofs.SeenLaws.{seen_done, seen_refused}
use Rattle.c_interface.proofs.TableLaws.{table_of}
use Rattle.c_interface.proofs.Told.{all_told}
use Rattle.c_interface.proofs.why_read_costs.Goals as goal

pub returns-in-Err : goal.returns-in-Err
returns-in-Err c =
    let m = c.read_book-reading.ensures in
    seen_refused m m (all_told _).costs.as_meant c.in-Err.is refl c.refusal.ensures

pub returns-in-Ok : goal.returns-in-Ok
returns-in-Ok c =
    let m = c.read_book-reading.ensures in
    seen_done m m (all_told _).costs.as_meant c.in-Ok.is (ap done (table_of _ (sym c.in-Ok.is ∙ m)))
