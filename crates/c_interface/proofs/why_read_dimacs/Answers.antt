-- `c_interface::why_read_dimacs` meets its contract. Assumes nothing.
use Rattle.std.proofs.Common.{refl}
use Rattle.c_interface.proofs.SeenLaws.{seen_done, seen_refused}
use Rattle.c_interface.proofs.Told.{all_told}
use Rattle.c_interface.proofs.why_read_dimacs.Goals as goal

pub returns-in-Err : goal.returns-in-Err
returns-in-Err c =
    let m = c.read_dimacs.ensures in
    seen_refused m m.said.answered ((all_told _).dimacs _).as_meant c.in-Err.is refl c.refusal.ensures

pub returns-in-Ok : goal.returns-in-Ok
returns-in-Ok c =
    let m = c.read_dimacs.ensures in
    seen_done m m.said.answered ((all_told _).dimacs _).as_meant c.in-Ok.is refl
