-- The text of a log, record by record. Assumes nothing.
use Rattle.std.proofs.Common.{◌≡◌, sym, ◌∙◌, Bool}
use Rattle.printing.proofs.WalkLaws.{walking_none, walking_long, step_fits, step_room, step_less, walking_more, end_room}
use Rattle.printing.proofs.WalkLaws.{walking_end}
use Rattle.printing.proofs.lines.put_log.Goals as goal

-- what the test of a step found
tested : {r b d : Bool} → r ≡ d → r ≡ b → d ≡ b
tested e f = sym e ∙ f

pub loop-out-init : goal.loop-out-init
loop-out-init c = walking_none _ _ c.requires (λ i. (c.type_inv.log i).fits)

pub put_step-line-requires : goal.put_step-line-requires
put_step-line-requires c = let b = tested c.at_step.ensures c.loop-out-test.true in
    record { record_in_bounds = step_fits _ _ c.loop-out.invariant b; line_in_bounds = step_room _ _ c.loop-out.invariant b }

pub loop-out-smaller : goal.loop-out-smaller
loop-out-smaller c =
    step_less _ _ c.loop-out.invariant (tested c.at_step.ensures c.loop-out-test.true)
    c.put_step-line.ensures

pub loop-out-preserved : goal.loop-out-preserved
loop-out-preserved c =
    walking_more _ _ c.loop-out.invariant (tested c.at_step.ensures c.loop-out-test.true)
    c.put_step-line.ensures

pub put_done-requires : goal.put_done-requires
put_done-requires c =
    record { record_in_bounds = walking_long _ _ c.loop-out.invariant; line_in_bounds = end_room _ _ c.loop-out.invariant (tested c.at_step.ensures c.loop-out-test.false) }

pub returns : goal.returns
returns c =
    walking_end _ _ c.loop-out.invariant (tested c.at_step.ensures c.loop-out-test.false) c.put_done.ensures
