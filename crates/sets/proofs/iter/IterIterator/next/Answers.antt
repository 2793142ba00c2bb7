-- `sets::Iter` gives one element less with each call: the lowest goes. Assumes nothing.
use Rattle.std.proofs.Common.{arith, ap}
use Rattle.std.specs.Int.Count.{ones}
use Rattle.sets.specs.Laws.Count.{ones_remove}
use Rattle.sets.proofs.iter.IterIterator.next.Goals as goal

pub returns-clause-goes : goal.returns-clause-goes
returns-clause-goes c =
    record {
      on = λ f. (tt, f, omega (arith, ones_remove c.args.self.now.left c.lowest-v.result c.lowest-v.ensures.least.member, ap ones c.remove-self.ensures));
      keeps = tt;
      rests = λ f. tt;
    }
