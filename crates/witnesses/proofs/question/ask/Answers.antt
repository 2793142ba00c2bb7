-- `witnesses::question::ask` meets its contract. Assumes nothing.
use Rattle.witnesses.specs.Laws.Questions.{ask_posed}
use Rattle.witnesses.proofs.question.ask.Goals as goal

pub search-requires : goal.search-requires
search-requires c = ask_posed c.requires c.against-question.ensures
