-- Literals, each after one space. Assumes nothing.
use Rattle.printing.proofs.LiteralLaws.{blank_room, literal_room, listing_more, listing_all}
use Rattle.printing.proofs.text.put_literals.Goals as goal

pub bounds-out-next : goal.bounds-out-next
bounds-out-next c = blank_room _ _ _ c.loop-byte.invariant c.loop-byte-test.true c.requires

pub put_literal-next-requires : goal.put_literal-next-requires
put_literal-next-requires c = literal_room _ _ _ c.loop-byte.invariant c.loop-byte-test.true c.requires

pub loop-byte-preserved : goal.loop-byte-preserved
loop-byte-preserved c = listing_more _ _ _ c.loop-byte.invariant c.loop-byte-test.true c.put_literal-next.ensures

pub returns : goal.returns
returns c = listing_all _ _ _ c.loop-byte.invariant c.loop-byte-test.false
