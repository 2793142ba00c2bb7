-- `c_interface::pass_log` meets its contract. Assumes nothing.
use Rattle.std.proofs.Common.{ap}
use Rattle.c_interface.specs.Seen.{seen_log}
use Rattle.c_interface.proofs.SeenLaws.{passed_done, passed_refused}
use Rattle.c_interface.proofs.pass_log.Goals as goal

pub returns-in-Err : goal.returns-in-Err
returns-in-Err c = passed_refused (ap seen_log c.in-Err.is) c.refusal.ensures

pub returns-in-Ok : goal.returns-in-Ok
returns-in-Ok c = passed_done (ap seen_log c.in-Ok.is)
