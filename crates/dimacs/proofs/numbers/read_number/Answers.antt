-- `dimacs::numbers::read_number` meets its contract. Assumes nothing.
use Rattle.std.proofs.Common.{refl, sym, ◌∙◌}
use Rattle.records.specs.Promises.{read_answer}
use Rattle.dimacs.proofs.NumberLaws.{number_wrong, number_digits}
use Rattle.dimacs.proofs.numbers.read_number.Goals as goal

pub returns-then-not-stands : goal.returns-then-not-stands
unfolding read_answer
returns-then-not-stands c =
    rw (number_wrong _ _ (sym c.stands.ensures ∙ c.if-stands.false) (sym c.stands-2.ensures ∙ c.if-not-stands.true), c.at.ensures) refl

pub returns : goal.returns
unfolding read_answer
returns c =
    let m = number_digits _ _ (sym c.stands.ensures ∙ c.if-stands.false) (sym c.stands-2.ensures ∙ c.if-not-stands.false) in
    rw (m, ← c.run_end-next.ensures, c.capped_value.ensures) refl
