-- A word and a number: two parts. Assumes nothing.
use Rattle.log_form.proofs.StoreLaws.{put_append}
use Rattle.printing.proofs.text.put_field.Goals as goal

pub returns : goal.returns
returns c = put_append _ _ c.put_bytes-next.ensures c.put_decimal.ensures
