-- `log_form::put_ok` meets its contract. Assumes nothing.
use Rattle.log_form.proofs.RecordLaws.{ok_room, ok_put}
use Rattle.log_form.proofs.put_ok.Goals as goal

pub put_bytes-marked-requires : goal.put_bytes-marked-requires
put_bytes-marked-requires c = ok_room _ _ _ _ c.requires

pub returns : goal.returns
returns c = ok_put _ _ c.put_bytes-marked.ensures c.put_byte-counted.ensures (rw c.to_be_bytes.ensures at c.put_bytes.ensures)
