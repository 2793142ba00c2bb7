-- The steps of `force` and `try_variable`, by the laws of the search. Assumes nothing.
use Rattle.std.proofs.Common.{arith, ◌*◌, ◌<◌}
use Rattle.sat.specs.Promises.{unset}
use Rattle.sat.specs.Laws.Searches.{force_some, force_lowest, force_following, force_less, branch_model, force_handed, force_resolved, try_unset, try_following, try_less, try_handed, try_forcing}
use Rattle.sat.proofs.+follow_force_try_variable.Goals as goal

pub force-lowest-v-requires : goal.force-lowest-v-requires
force-lowest-v-requires t c = force_some c.requires c.unset_of.ensures

pub force-follow-requires : goal.force-follow-requires
force-follow-requires t c =
    let l = force_lowest c.requires c.unset_of.ensures c.lowest-v.ensures in
    (force_less c.requires l c.assign-q.ensures c.decreases, force_following c.requires l c.assign-q.ensures)

pub force-returns-then-handed_up : goal.force-returns-then-handed_up
force-returns-then-handed_up t c =
    force_handed c.requires (force_lowest c.requires c.unset_of.ensures c.lowest-v.ensures) c.assign-q.ensures c.follow.ensures c.in-Err.is
    c.handed_up.ensures c.if-handed_up.true

pub force-returns-in-Ok : goal.force-returns-in-Ok
force-returns-in-Ok t c = branch_model c.assign-q.ensures c.follow.ensures c.in-Ok.is

pub force-returns-else-handed_up : goal.force-returns-else-handed_up
force-returns-else-handed_up t c =
    force_resolved c.requires (force_lowest c.requires c.unset_of.ensures c.lowest-v.ensures) c.assign-q.ensures c.follow.ensures c.in-Err.is
    c.handed_up.ensures c.has.ensures c.if-handed_up.false c.resolve.ensures

pub try_variable-follow-requires : goal.try_variable-follow-requires
try_variable-follow-requires t c =
    let u = try_unset c.requires c.choose-v.ensures in
    (try_less c.requires u c.assign-q.ensures c.variables-set.ensures c.decreases, try_following c.requires u c.assign-q.ensures c.variables-set.ensures)

pub try_variable-returns-then-handed_up : goal.try_variable-returns-then-handed_up
try_variable-returns-then-handed_up t c =
    try_handed c.requires (try_unset c.requires c.choose-v.ensures) c.assign-q.ensures c.variables-set.ensures c.follow.ensures c.in-Err.is
    c.handed_up.ensures c.if-handed_up.true

pub try_variable-force-requires : goal.try_variable-force-requires
try_variable-force-requires t c =
    let less : 3 * unset c.args.f.variables c.args.p.yes c.args.p.no < t = omega (arith, c.decreases) in (
      less,
      try_forcing c.requires (try_unset c.requires c.choose-v.ensures) c.assign-q.ensures c.variables-set.ensures c.follow.ensures c.in-Err.is
          c.handed_up.ensures c.if-handed_up.false,
    )

pub try_variable-returns-in-Ok : goal.try_variable-returns-in-Ok
try_variable-returns-in-Ok t c = branch_model c.assign-q.ensures c.follow.ensures c.in-Ok.is
