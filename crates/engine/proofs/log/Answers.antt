-- `engine::log` meets its contract. Assumes nothing.
use Rattle.std.proofs.Common.{refl}
use Rattle.std.proofs.lemmas.Result.{err_from_is_err_and}
use Rattle.engine.proofs.ProblemLaws.{taken, not_taken, taken_loggable}
use Rattle.engine.proofs.LogLaws.{log_short, log_refused, log_taken}
use Rattle.engine.proofs.log.Goals as goal

pub returns-then-buffer-lt-MAX_LOG : goal.returns-then-buffer-lt-MAX_LOG
returns-then-buffer-lt-MAX_LOG c = rw c.at.ensures (log_short (taken c.in_ok-p.ensures) c.if-buffer-lt-MAX_LOG.true refl)

pub write_log-requires : goal.write_log-requires
write_log-requires c = record { loggable = taken_loggable (taken c.in_ok-p.ensures); max_log_in_bounds = c.if-buffer-lt-MAX_LOG.false }

pub returns-in_err-p : goal.returns-in_err-p
returns-in_err-p c =
    let e = err_from_is_err_and c.from_residual.result c.from_residual.ensures.1 in
    rw (e.1, e.2) (log_refused (not_taken c.in_err-p.ensures))

pub returns : goal.returns
returns c = log_taken (taken c.in_ok-p.ensures) c.if-buffer-lt-MAX_LOG.false c.write_log.ensures
