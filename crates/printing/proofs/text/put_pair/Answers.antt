-- A line of two words and two numbers: three parts. Assumes nothing.
use Rattle.log_form.proofs.LeftLaws.{left_part, left_last}
use Rattle.printing.proofs.LineLaws.{pair_left}
use Rattle.printing.proofs.text.put_pair.Goals as goal

pub returns : goal.returns
returns c = left_last (left_part (left_part (pair_left _ _ _ _ _ _) c.put_field-half.ensures) c.put_field-end.ensures) c.put_bytes.ensures
