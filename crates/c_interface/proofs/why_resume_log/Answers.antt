-- `c_interface::why_resume_log` meets its contract. Assumes nothing.
use Rattle.c_interface.proofs.SeenLaws.{seen_passed}
use Rattle.c_interface.proofs.Told.{resume_told}
use Rattle.c_interface.proofs.why_resume_log.Goals as goal

pub returns : goal.returns
returns c =
    let m = rw c.moment_of-moment.ensures at c.resume_log.ensures in
    seen_passed m m.said.answered ((resume_told _).resume _ _ _).as_meant c.pass_log.ensures
