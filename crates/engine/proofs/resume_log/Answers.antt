-- `engine::resume_log` meets its contract. Assumes nothing.
use Rattle.std.proofs.Common.{refl, sym, rules, length-take-le}
use Rattle.std.proofs.lemmas.Result.{err_from_is_err_and}
use Rattle.engine.proofs.ResumeLaws.{resume_short, resume_refused, resume_written, made_within}
use Rattle.engine.proofs.resume_log.Goals as goal

pub returns-then-buffer-lt-MAX_LOG : goal.returns-then-buffer-lt-MAX_LOG
returns-then-buffer-lt-MAX_LOG c = resume_short c.log.ensures c.if-buffer-lt-MAX_LOG.true refl

pub returns-in_err-answer : goal.returns-in_err-answer
returns-in_err-answer c =
    let e = err_from_is_err_and c.from_residual.result c.from_residual.ensures.1 in
    rw (e.1, e.2) (resume_refused c.in_err-answer.ensures (search rules) c.if-buffer-lt-MAX_LOG.false refl)

pub slice_bounds-made-end : goal.slice_bounds-made-end
slice_bounds-made-end c = made_within c.in_ok-answer.ensures refl

pub slice_bounds-put_log-end : goal.slice_bounds-put_log-end
slice_bounds-put_log-end c = sym (length-take-le _ _ (made_within c.in_ok-answer.ensures refl))

pub returns : goal.returns
returns c = resume_written c.in_ok-answer.ensures (search rules) c.if-buffer-lt-MAX_LOG.false refl c.put_log.ensures
