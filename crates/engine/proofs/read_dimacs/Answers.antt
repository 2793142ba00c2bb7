-- `engine::read_dimacs` meets its contract. Assumes nothing.
use Rattle.engine.proofs.DimacsLaws.{dimacs_call}
use Rattle.engine.proofs.read_dimacs.Goals as goal

pub returns : goal.returns
returns c = dimacs_call _ _ c.import.ensures
