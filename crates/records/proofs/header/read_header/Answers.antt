-- `records::header::read_header` meets its contract where the beginning of the record fails. Assumes nothing.
use mathlib.Core.Path.{refl}
use Rattle.records.specs.Format.{header_at, header_values}
use Rattle.records.specs.Promises.{counts}
use Rattle.records.proofs.CheckLaws.{residual_err, opened_err}
use Rattle.records.proofs.header.read_header.Goals as goal

pub returns-in_err-opened : goal.returns-in_err-opened
unfolding header_at
returns-in_err-opened c = residual_err _ c.from_residual.ensures.1 (opened_err _ _ _ counts (header_values _) c.in_err-opened.ensures refl)
