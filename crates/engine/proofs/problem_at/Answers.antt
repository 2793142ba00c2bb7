-- `engine::problem_at` meets its contract. Assumes nothing.
use Rattle.std.proofs.Common.{sym, ◌∙◌}
use Rattle.std.proofs.lemmas.Result.{err_from_is_err_and}
use Rattle.engine.proofs.ProblemLaws.{made_of, not_made, impossible, read_fits}
use Rattle.engine.proofs.problem_at.Goals as goal

pub returns-then-not-is_moment : goal.returns-then-not-is_moment
returns-then-not-is_moment c = rw c.at.ensures (impossible _ _ (sym c.is_moment.ensures ∙ c.if-not-is_moment.true))

pub of_book-requires : goal.of_book-requires
of_book-requires c =
    let f = read_fits c.args.s.now c.in_ok-b.ensures in
    record { variables_le_width = f.0; choices_le_width = f.1; moment_value = sym c.is_moment.ensures ∙ c.if-not-is_moment.false }

pub returns-in_err-b : goal.returns-in_err-b
returns-in_err-b c =
    let e = err_from_is_err_and c.from_residual.result c.from_residual.ensures.1 in
    rw (e.1, e.2) (not_made _ _ (sym c.is_moment.ensures ∙ c.if-not-is_moment.false) c.in_err-b.ensures)

pub returns : goal.returns
returns c = rw c.of_book.ensures (made_of _ _ (sym c.is_moment.ensures ∙ c.if-not-is_moment.false) c.in_ok-b.ensures)
