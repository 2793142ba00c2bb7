-- `sets::difference` meets its contract: `a & !b` over the bits of a mask. Assumes nothing.
use Rattle.sets.specs.Sets.{width}
use Rattle.sets.specs.Laws.Code.{and_not}
use Rattle.sets.proofs.difference.Goals as goal

pub returns : goal.returns
returns c = and_not width c.args.a c.args.b c.ranges.a.fits c.ranges.b.fits
