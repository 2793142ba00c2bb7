-- `log_writer::write` meets its contract. Assumes nothing.
use Rattle.std.proofs.Common.{arith}
use Rattle.log_writer.proofs.RunLaws.{logging_none, logging_room, logging_more, logging_ended, end_room, step_open, goals_fewer, answered_step}
use Rattle.log_writer.proofs.RunLaws.{answered_nothing}
use Rattle.log_writer.proofs.write.Goals as goal

pub loop-step-init : goal.loop-step-init
loop-step-init c = (c.requires.log_asked, logging_none _ c.requires.max_log_in_bounds)

pub next_step-requires : goal.next_step-requires
next_step-requires c = c.loop-step.invariant.1.asked

pub put_step-at-requires : goal.put_step-at-requires
put_step-at-requires c = logging_room _ c.loop-step.invariant.1 (answered_step _ c.next_step.ensures c.in-Some.is)

pub overflow_add-steps : goal.overflow_add-steps
overflow_add-steps c = omega (arith, step_open _ c.loop-step.invariant.1 (answered_step _ c.next_step.ensures c.in-Some.is))

pub overflow_add-total : goal.overflow_add-total
overflow_add-total c =
    omega (arith, c.loop-step.invariant.1.cheap, step_open _ c.loop-step.invariant.1 (answered_step _ c.next_step.ensures c.in-Some.is))

pub loop-step-smaller : goal.loop-step-smaller
loop-step-smaller c =
    rw c.union-known.ensures (goals_fewer c.loop-step.invariant.0 c.loop-step.invariant.1.asked (answered_step _ c.next_step.ensures c.in-Some.is))

pub loop-step-preserved : goal.loop-step-preserved
loop-step-preserved c = (
  c.loop-step.invariant.0,
  rw c.union-known.ensures
      (logging_more _ c.loop-step.invariant.1 (answered_step _ c.next_step.ensures c.in-Some.is) (omega arith) c.put_step-at.ensures),
)

pub put_ok-size-requires : goal.put_ok-size-requires
put_ok-size-requires c = omega (arith, end_room _ c.loop-step.invariant.1)

pub returns-in_default : goal.returns-in_default
returns-in_default c = logging_ended _ c.loop-step.invariant.1 (answered_nothing _ c.next_step.ensures c.in_default.is) c.put_ok-size.ensures
