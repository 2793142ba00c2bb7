-- The line of a step, part by part.
-- Assumes nothing.
use Rattle.log_form.proofs.LeftLaws.{left_part, left_last, part_room}
use Rattle.printing.proofs.LineLaws.{line_left}
use Rattle.printing.proofs.lines.put_line.Goals as goal

pub put_field-numbered-requires : goal.put_field-numbered-requires
put_field-numbered-requires c = part_room (line_left _ _ _ _) c.requires

pub put_bytes-parted-requires : goal.put_bytes-parted-requires
put_bytes-parted-requires c = part_room (left_part (line_left _ _ _ _) c.put_field-numbered.ensures) c.requires

pub put_literal-aimed-requires : goal.put_literal-aimed-requires
put_literal-aimed-requires c = part_room (left_part (left_part (line_left _ _ _ _) c.put_field-numbered.ensures) c.put_bytes-parted.ensures) c.requires

pub put_list-reasoned-requires : goal.put_list-reasoned-requires
put_list-reasoned-requires c = part_room (left_part (left_part (left_part (line_left _ _ _ _) c.put_field-numbered.ensures) c.put_bytes-parted.ensures) c.put_literal-aimed.ensures) c.requires

pub put_list-listed-requires : goal.put_list-listed-requires
put_list-listed-requires c = part_room (left_part (left_part (left_part (left_part (line_left _ _ _ _) c.put_field-numbered.ensures) c.put_bytes-parted.ensures) c.put_literal-aimed.ensures) c.put_list-reasoned.ensures) c.requires

pub put_field-priced-requires : goal.put_field-priced-requires
put_field-priced-requires c = part_room (left_part (left_part (left_part (left_part (left_part (line_left _ _ _ _) c.put_field-numbered.ensures) c.put_bytes-parted.ensures) c.put_literal-aimed.ensures) c.put_list-reasoned.ensures) c.put_list-listed.ensures) c.requires

pub put_bytes-requires : goal.put_bytes-requires
put_bytes-requires c = part_room (left_part (left_part (left_part (left_part (left_part (left_part (line_left _ _ _ _) c.put_field-numbered.ensures) c.put_bytes-parted.ensures) c.put_literal-aimed.ensures) c.put_list-reasoned.ensures) c.put_list-listed.ensures) c.put_field-priced.ensures) c.requires

pub returns : goal.returns
returns c = left_last (left_part (left_part (left_part (left_part (left_part (left_part (line_left _ _ _ _) c.put_field-numbered.ensures) c.put_bytes-parted.ensures) c.put_literal-aimed.ensures) c.put_list-reasoned.ensures) c.put_list-listed.ensures) c.put_field-priced.ensures) c.put_bytes.ensures
