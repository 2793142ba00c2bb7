-- `sets::lowest` meets its contract: the trailing zeros of a mask that is not 0. Assumes nothing.
use Rattle.sets.specs.Sets.{width}
use Rattle.sets.specs.Laws.Least.{trailing_least, trailing_lt}
use Rattle.sets.proofs.lowest.Goals as goal

pub returns : goal.returns
returns c =
    record {
      within = trailing_lt width c.args.m c.requires c.ranges.m.fits;
      least = trailing_least width c.args.m c.requires c.ranges.m.fits;
    }
