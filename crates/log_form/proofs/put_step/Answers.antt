-- `log_form::put_step` meets its contract. Assumes nothing.
use Rattle.std.proofs.Common.{rules}
use Rattle.log_form.specs.Promises.{record_of}
use Rattle.log_form.proofs.RecordLaws.{mark_room, goal_room_lem, goal_put, reasons_room, new_room, cost_room_lem, step_put}
use Rattle.log_form.proofs.put_step.Goals as goal

pub put_bytes-marked-requires : goal.put_bytes-marked-requires
put_bytes-marked-requires c = mark_room _ _ (record_of c.args.step) c.requires

pub put_byte-aimed-requires : goal.put_byte-aimed-requires
put_byte-aimed-requires c = goal_room_lem _ _ (record_of c.args.step) c.requires c.put_bytes-marked.ensures

pub put_list-reasoned-requires : goal.put_list-reasoned-requires
put_list-reasoned-requires c =
    reasons_room _ _ (record_of c.args.step) c.requires (goal_put (record_of c.args.step) (search rules) c.to_byte.ensures c.put_bytes-marked.ensures c.put_byte-aimed.ensures)

pub put_list-listed-requires : goal.put_list-listed-requires
put_list-listed-requires c =
    new_room _ _ (record_of c.args.step) c.requires (goal_put (record_of c.args.step) (search rules) c.to_byte.ensures c.put_bytes-marked.ensures c.put_byte-aimed.ensures)
    c.put_list-reasoned.ensures

pub put_bytes-requires : goal.put_bytes-requires
put_bytes-requires c =
    rw c.to_be_bytes.ensures
    (cost_room_lem _ _ (record_of c.args.step) c.requires (goal_put (record_of c.args.step) (search rules) c.to_byte.ensures c.put_bytes-marked.ensures c.put_byte-aimed.ensures)
    c.put_list-reasoned.ensures c.put_list-listed.ensures)

pub returns : goal.returns
returns c =
    step_put (record_of c.args.step) (goal_put (record_of c.args.step) (search rules) c.to_byte.ensures c.put_bytes-marked.ensures c.put_byte-aimed.ensures)
    c.put_list-reasoned.ensures c.put_list-listed.ensures (rw c.to_be_bytes.ensures at c.put_bytes.ensures)
