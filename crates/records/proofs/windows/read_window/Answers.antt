-- `records::windows::read_window` meets its contract where the beginning of the record fails. Assumes nothing.
use mathlib.Core.Path.{refl}
use Rattle.records.specs.Format.{window_at, window_values}
use Rattle.records.specs.Promises.{what}
use Rattle.records.proofs.CheckLaws.{residual_err, opened_err}
use Rattle.records.proofs.windows.read_window.Goals as goal

pub returns-in_err-opened : goal.returns-in_err-opened
unfolding window_at
returns-in_err-opened c = residual_err _ c.from_residual.ensures.1 (opened_err _ _ _ what (window_values _) c.in_err-opened.ensures refl)
