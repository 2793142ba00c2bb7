-- `c_interface::why_log` meets its contract. Assumes nothing.
use Rattle.c_interface.proofs.SeenLaws.{seen_passed}
use Rattle.c_interface.proofs.Told.{all_told}
use Rattle.c_interface.proofs.why_log.Goals as goal

pub returns : goal.returns
returns c =
    let m = rw c.moment_of-moment.ensures at c.log.ensures in
    seen_passed m m.said.answered ((all_told _).log _ _).as_meant c.pass_log.ensures
