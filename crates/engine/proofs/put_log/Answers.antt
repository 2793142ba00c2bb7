-- `engine::put_log` meets its contract. Assumes nothing.
use Rattle.engine.proofs.LogLaws.{put_refused, put_begun, put_done}
use Rattle.engine.proofs.put_log.Goals as goal

pub returns-then-not-is_begun : goal.returns-then-not-is_begun
returns-then-not-is_begun c = rw c.at.ensures (put_refused c.is_begun.ensures c.if-not-is_begun.true)

pub put_rest-requires : goal.put_rest-requires
put_rest-requires c = record { begun = put_begun c.is_begun.ensures c.if-not-is_begun.false; log_in_bounds = c.requires }

pub returns : goal.returns
returns c = put_done c.is_begun.ensures c.if-not-is_begun.false c.put_rest.ensures
