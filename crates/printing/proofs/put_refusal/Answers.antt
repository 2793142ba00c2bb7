-- The line of a refusal, at the front. Assumes nothing.
use Rattle.std.proofs.Common.{◌+◌, ◌≤◌, zero-add, le_trans, arith, length}
use Rattle.printing.specs.Text.{decimal, refusal_text}
use Rattle.printing.proofs.DecimalLaws.{decimal_short}
use Rattle.printing.proofs.FrontLaws.{put_front}
use Rattle.printing.proofs.LineLaws.{refusal_length}
use Rattle.printing.proofs.put_refusal.Goals as goal

pub put_pair-requires : goal.put_pair-requires
unfolding refusal_text
put_pair-requires c =
    let digits : length (decimal c.args.number) + length (decimal c.args.place) ≤ 23 = omega (arith, decimal_short 2 c.args.number (omega (arith, c.ranges.number.fits)), decimal_short 19 c.args.place (omega (arith, c.ranges.place.fits))) in
    rw zero-add (le_trans (refusal_length _ _ (omega (arith, digits))) c.requires)

pub returns : goal.returns
unfolding refusal_text
returns c =
    let digits : length (decimal c.args.number) + length (decimal c.args.place) ≤ 23 = omega (arith, decimal_short 2 c.args.number (omega (arith, c.ranges.number.fits)), decimal_short 19 c.args.place (omega (arith, c.ranges.place.fits))) in
    let short : length (refusal_text c.args.number c.args.place) ≤ length c.args.out.now = le_trans (refusal_length _ _ digits) c.requires in
    put_front c.put_pair.ensures short
