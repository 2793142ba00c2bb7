-- The problem of an accepted book at a possible moment can be searched.
use Rattle.std.proofs.Common.{sym, ◌∙◌}
use Rattle.engine.proofs.ProblemLaws.{made_of, read_fits, taken, taken_searchable}
use Rattle.engine_checks.proofs.models_found.models_found.Goals as goal

pub of_book-requires : goal.of_book-requires
of_book-requires c =
    let f = read_fits _ (sym c.in-Ok.is ∙ c.read.ensures) in
    record { variables_le_width = f.0; choices_le_width = f.1; moment_value = sym c.is_moment.ensures ∙ c.if-not-is_moment.false }

pub of_problem-requires : goal.of_problem-requires
of_problem-requires c =
    let possible = sym c.is_moment.ensures ∙ c.if-not-is_moment.false in
    rw c.of_book.ensures (taken_searchable (taken (made_of _ _ possible (sym c.in-Ok.is ∙ c.read.ensures))))
