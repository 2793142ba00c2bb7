-- `reasons::look::look_at` meets its contract. Assumes nothing.
use Rattle.std.proofs.Common.{rules}
use Rattle.reasons.specs.Laws.Looks.{look_laws}
use Rattle.reasons.proofs.look.look_at.Goals as goal

pub returns : goal.returns
returns c = search (rules, look_laws)
