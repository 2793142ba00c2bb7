-- `book::costs::read_costs_from` meets its contract. Assumes nothing.
use Rattle.std.proofs.Common.{[], ◌∷◌}
use Rattle.records.specs.Limits.{max_choices}
use Rattle.records.specs.Format.{cost_from, many}
use Rattle.records.specs.Promises.{row}
use Rattle.book.proofs.ManyLaws.{Walked, many_left}
use Rattle.book.proofs.PaddedLaws.{Filled}
use Rattle.book.proofs.costs.read_costs_from.Given as goal

abbrev pub invariant-loop-i : goal.invariant-loop-i
invariant-loop-i l =
    Walked l.s (many (cost_from l.s) l.choices 1 l.from) (λ done. Filled (0 ∷ 0 ∷ []) max_choices row l.table l.i done) (many_left (cost_from l.s) l.choices l.i l.place) l.place
