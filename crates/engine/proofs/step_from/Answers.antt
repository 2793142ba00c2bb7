-- `engine::step_from` meets its contract. Assumes nothing.
use Rattle.std.proofs.Common.{Ok, refl, sym, ap, ◌∙◌}
use Rattle.std.proofs.lemmas.Result.{err_from_is_err_and}
use Rattle.engine.specs.Promises.{step_in}
use Rattle.engine.proofs.StepLaws.{found_nine, found_set, stepping, says_next}
use Rattle.engine.proofs.step_from.Goals as goal

pub returns-in_err-forced : goal.returns-in_err-forced
unfolding step_in
returns-in_err-forced c =
    let e = err_from_is_err_and c.from_residual.result c.from_residual.ensures.1 in
    let n = found_nine _ c.in_err-forced.ensures in
    rw (e.1, e.2, n.0, n.1) refl

pub returns-then-not-lies_between : goal.returns-then-not-lies_between
unfolding step_in
returns-then-not-lies_between c =
    let f = found_set _ c.in_ok-forced.ensures in
    rw (c.at.ensures, f.0, (rw f.1 at (sym c.lies_between.ensures ∙ c.if-not-lies_between.true))) refl

pub next_step-requires : goal.next_step-requires
next_step-requires c =
    let f = found_set _ c.in_ok-forced.ensures in
    rw f.1 (stepping _ c.requires f.0 _ (rw f.1 at (sym c.lies_between.ensures ∙ c.if-not-lies_between.false)))

pub returns : goal.returns
unfolding step_in
returns c =
    let f = found_set _ c.in_ok-forced.ensures in
    rw (f.0, (rw f.1 at (sym c.lies_between.ensures ∙ c.if-not-lies_between.false)))
    (ap Ok (rw f.1 at c.next_step.ensures) ∙ says_next _)
