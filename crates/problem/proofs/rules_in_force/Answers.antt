-- `problem::rules_in_force` meets its contract. Assumes nothing.
use Rattle.std.proofs.Common.{sym, ◌∙◌}
use Rattle.dates.specs.Windows.{is_moment}
use Rattle.literals.specs.Laws.{and_both}
use Rattle.problem.proofs.InForceLaws.{picked_none, picked_more, picked_same}
use Rattle.problem.proofs.rules_in_force.Goals as goal
use Rattle.problem.proofs.rules_in_force.Goals.{then-in_force, else-in_force}

pub weekday-weekday-requires : goal.weekday-weekday-requires
unfolding is_moment
weekday-weekday-requires c = (and_both _ _ c.requires).0

pub loop-rule-init : goal.loop-rule-init
loop-rule-init c = picked_none _ _ c.new-rules.ensures

-- the slice that is gone over is the book's rules
pub loop-rule-preserved : goal.loop-rule-preserved
loop-rule-preserved c =
    let slice = c.as_slice-rule-items.ensures.rules in
    let so_far = rw (← slice) at c.loop-rule.invariant in
    let next = c.loop-rule-test.true in
    elim c.if-in_force.branch [
      | then-in_force w ↦
          rw (← slice) (picked_more _ _ _ so_far next (sym c.in_force.ensures ∙ w.if-in_force.true) (w.rules-is ∙ w.push.ensures))
      | else-in_force w ↦ rw (← slice) (picked_same _ _ _ so_far next (sym c.in_force.ensures ∙ w.if-in_force.false) w.rules-is)
    ]
