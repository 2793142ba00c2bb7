-- A number in decimal. Where the branch meets, the digits before the last one are put. Assumes nothing.
use Rattle.std.proofs.Common.{arith}
use Rattle.log_form.proofs.StoreLaws.{put_length}
use Rattle.log_form.specs.Promises.{Put}
use Rattle.printing.proofs.DecimalLaws.{leading, put_front_one, put_front_more, put_last, last_room, front_room}
use Rattle.printing.proofs.text.+put_decimal.Goals as goal
use Rattle.printing.proofs.text.+put_decimal.Goals.{then-n-ge10, else-n-ge10}

pub put_decimal-last-requires : goal.put_decimal-last-requires
put_decimal-last-requires t c =
    (omega (arith, c.decreases, c.if-n-ge10.true), front_room _ _ _ c.if-n-ge10.true c.requires)

pub bounds-out-last : goal.bounds-out-last
bounds-out-last t c =
    let before_last : Put c.args.out.now c.args.at (leading c.args.n) c.if-n-ge10.out c.if-n-ge10.last =
    elim c.if-n-ge10.branch [ then-n-ge10 w ↦ put_front_more c.args.n w.if-n-ge10.true w.put_decimal-last.ensures w.out-is w.last-is | else-n-ge10 w ↦ put_front_one c.args.n w.if-n-ge10.false w.out-is w.last-is ] in
    last_room c.args.n c.requires before_last

pub overflow_add-result : goal.overflow_add-result
overflow_add-result t c =
    let before_last : Put c.args.out.now c.args.at (leading c.args.n) c.if-n-ge10.out c.if-n-ge10.last =
    elim c.if-n-ge10.branch [ then-n-ge10 w ↦ put_front_more c.args.n w.if-n-ge10.true w.put_decimal-last.ensures w.out-is w.last-is | else-n-ge10 w ↦ put_front_one c.args.n w.if-n-ge10.false w.out-is w.last-is ] in
    omega (arith, last_room c.args.n c.requires before_last, put_length _ before_last)

pub returns : goal.returns
returns t c =
    let before_last : Put c.args.out.now c.args.at (leading c.args.n) c.if-n-ge10.out c.if-n-ge10.last =
    elim c.if-n-ge10.branch [ then-n-ge10 w ↦ put_front_more c.args.n w.if-n-ge10.true w.put_decimal-last.ensures w.out-is w.last-is | else-n-ge10 w ↦ put_front_one c.args.n w.if-n-ge10.false w.out-is w.last-is ] in
    put_last c.args.n before_last
