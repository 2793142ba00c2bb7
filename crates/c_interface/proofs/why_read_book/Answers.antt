-- `c_interface::why_read_book` meets its contract. Assumes nothing.
use Rattle.std.proofs.Common.{refl}
use Rattle.c_interface.proofs.SeenLaws.{seen_done, seen_refused}
use Rattle.c_interface.proofs.Told.{all_told}
use Rattle.c_interface.proofs.why_read_book.Goals as goal

pub returns-in-Err : goal.returns-in-Err
returns-in-Err c =
    let m = c.read_book.ensures in
    seen_refused m m (all_told _).book.as_meant c.in-Err.is refl c.refusal.ensures

pub returns-in-Ok : goal.returns-in-Ok
returns-in-Ok c =
    let m = c.read_book.ensures in
    let p = c.pass_rules.ensures in
    rw (p.yes_are, p.no_are, p.windows_are, c.as_slice.ensures.rules, c.len.ensures) (seen_done m m (all_told _).book.as_meant c.in-Ok.is refl)
