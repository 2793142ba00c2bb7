-- `engine::write_log` meets its contract. Assumes nothing.
use Rattle.std.proofs.Common.{refl}
use Rattle.std.proofs.lemmas.Result.{err_from_is_err_and}
use Rattle.engine.specs.Calls.{log_answer, buffer_after}
use Rattle.engine.specs.Promises.{log_in}
use Rattle.engine.proofs.StepLaws.{found_nine, found_set}
use Rattle.engine.proofs.LogLaws.{logging_of, logged_written}
use Rattle.engine.proofs.write_log.Goals as goal

pub returns-in_err-consequence : goal.returns-in_err-consequence
unfolding log_in log_answer buffer_after
returns-in_err-consequence c =
    let e = err_from_is_err_and c.from_residual.result c.from_residual.ensures.1 in
    let n = found_nine _ c.in_err-consequence.ensures in
    rw (e.1, e.2, n.0, n.1) (record { answered = refl; buffer = refl })

pub write-requires-clause-log_asked : goal.write-requires-clause-log_asked
write-requires-clause-log_asked c =
    let f = found_set _ c.in_ok-consequence.ensures in
    rw f.1 (logging_of _ c.requires.loggable f.0)

pub returns : goal.returns
unfolding log_in
returns c =
    let found = found_set _ c.in_ok-consequence.ensures in
    rw found.0 (logged_written (rw found.1 at c.write.ensures))
