-- `sat::complete` meets its contract. Assumes nothing.
use Rattle.sat.specs.Laws.Searches.{completes}
use Rattle.sat.proofs.complete.Goals as goal

pub returns : goal.returns
returns c = completes c.args.prefer c.requires c.variables.ensures c.complement-free.ensures c.intersection.ensures c.union.ensures
