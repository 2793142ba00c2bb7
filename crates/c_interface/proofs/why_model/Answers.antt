-- `c_interface::why_model` meets its contract. Assumes nothing.
use Rattle.std.proofs.Common.{refl}
use Rattle.c_interface.proofs.SeenLaws.{seen_done, seen_refused}
use Rattle.c_interface.proofs.Told.{all_told}
use Rattle.c_interface.proofs.why_model.Goals as goal

pub returns-in-Err : goal.returns-in-Err
returns-in-Err c =
    let m = rw c.moment_of-moment.ensures at c.model.ensures in
    seen_refused m m.said ((all_told _).model _).as_meant c.in-Err.is refl c.refusal.ensures

pub returns-in-Ok : goal.returns-in-Ok
returns-in-Ok c = let m = rw c.moment_of-moment.ensures at c.model.ensures in seen_done m m.said ((all_told _).model _).as_meant c.in-Ok.is refl
