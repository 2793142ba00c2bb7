-- The call that prints. Assumes nothing.
use Rattle.std.proofs.Common.{◌≡◌, sym, ◌∙◌, ℕ, arith, length, length-take-le}
use lib.ListN.{length-replicate}
use Rattle.records.specs.Limits.{max_log}
use Rattle.printing.proofs.PrintLaws.{print_short, print_no_moment, BookCalled, print_refused, log_short, log_printable, print_log}
use Rattle.printing.proofs.WalkLaws.{tail_is}
use Rattle.printing.proofs.print.Goals as goal

pub returns-then-out-lt-MAX_TEXT : goal.returns-then-out-lt-MAX_TEXT
returns-then-out-lt-MAX_TEXT c = print_short c.if-out-lt-MAX_TEXT.true

pub returns-then-input-lt-MOMENT_SIZE : goal.returns-then-input-lt-MOMENT_SIZE
returns-then-input-lt-MOMENT_SIZE c = print_no_moment (omega (arith, c.if-input-lt-MOMENT_SIZE.true)) c.if-out-lt-MAX_TEXT.false
    (rw c.number.ensures at c.put_refusal.ensures)

pub slice_bounds-log-end-in-Ok : goal.slice_bounds-log-end-in-Ok
slice_bounds-log-end-in-Ok c =
    let called : BookCalled c.args.input.now c.log.new.buffer c.log.result = record { whole = omega arith; call = rw (tail_is _ 6, c.moment_at.ensures) at c.log.ensures } in
    let long : length c.log.new.buffer ≡ max_log = c.log.auto.buffer ∙ length-replicate {A = ℕ} max_log 0 in
    omega (arith, log_short called c.in-Ok.is long, long)

pub slice_bounds-put_log-end : goal.slice_bounds-put_log-end
slice_bounds-put_log-end c =
    let called : BookCalled c.args.input.now c.log.new.buffer c.log.result = record { whole = omega arith; call = rw (tail_is _ 6, c.moment_at.ensures) at c.log.ensures } in
    let long : length c.log.new.buffer ≡ max_log = c.log.auto.buffer ∙ length-replicate {A = ℕ} max_log 0 in
    sym (length-take-le _ _ (omega (arith, log_short called c.in-Ok.is long, long)))

pub put_log-requires : goal.put_log-requires
put_log-requires c =
    let called : BookCalled c.args.input.now c.log.new.buffer c.log.result = record { whole = omega arith; call = rw (tail_is _ 6, c.moment_at.ensures) at c.log.ensures } in
    let long : length c.log.new.buffer ≡ max_log = c.log.auto.buffer ∙ length-replicate {A = ℕ} max_log 0 in
    log_printable called c.in-Ok.is long c.if-out-lt-MAX_TEXT.false

pub returns-in-Err : goal.returns-in-Err
returns-in-Err c =
    let called : BookCalled c.args.input.now c.log.new.buffer c.log.result = record { whole = omega arith; call = rw (tail_is _ 6, c.moment_at.ensures) at c.log.ensures } in
    print_refused called c.in-Err.is c.if-out-lt-MAX_TEXT.false
    (rw c.number-in-Err.ensures at c.put_refusal-in-Err.ensures)

pub returns-in-Ok : goal.returns-in-Ok
returns-in-Ok c =
    let called : BookCalled c.args.input.now c.log.new.buffer c.log.result = record { whole = omega arith; call = rw (tail_is _ 6, c.moment_at.ensures) at c.log.ensures } in
    let long : length c.log.new.buffer ≡ max_log = c.log.auto.buffer ∙ length-replicate {A = ℕ} max_log 0 in
    print_log called c.in-Ok.is long c.if-out-lt-MAX_TEXT.false
    c.put_log.ensures
