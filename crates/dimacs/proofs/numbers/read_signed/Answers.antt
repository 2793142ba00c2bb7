-- `dimacs::numbers::read_signed` meets its contract. Assumes nothing.
use Rattle.std.proofs.Common.{refl, sym, ap, ◌∙◌, ◌≤◌, arith, Ok}
use Rattle.records.specs.Limits.{max_variables}
use Rattle.records.specs.Promises.{read_answer}
use Rattle.records.proofs.RowLaws.{stopped_whole}
use Rattle.dimacs.specs.Promises.{literal_read}
use Rattle.dimacs.proofs.ReadLaws.{number_ok}
use Rattle.dimacs.proofs.SignedLaws.{plain_byte, minus_fits, minus_byte, up_to_most, signed_plain, plain_stopped, signed_wrong, signed_minus, minus_stopped}
use Rattle.dimacs.proofs.numbers.read_signed.Goals as goal

pub returns-in_err-n : goal.returns-in_err-n
returns-in_err-n c = stopped_whole _ _ literal_read c.in_err-n.ensures c.from_residual.ensures.1 _
    (λ n p e. plain_stopped _ _ _ (sym c.stands.ensures ∙ c.if-not-stands.true) e)

pub overflow_cast-result : goal.overflow_cast-result
overflow_cast-result c = omega (arith, up_to_most _ _ _ _ _ (number_ok _ c.in_ok-n.ensures), c.requires)

pub returns-then-not-stands : goal.returns-then-not-stands
unfolding read_answer
returns-then-not-stands c =
    let small : c.in_ok-n.n.value ≤ max_variables = omega (arith, up_to_most _ _ _ _ _ (number_ok _ c.in_ok-n.ensures), c.requires) in
    rw (signed_plain _ _ _ (sym c.stands.ensures ∙ c.if-not-stands.true) (number_ok _ c.in_ok-n.ensures))
    (ap (λ l. Ok (literal_read l c.in_ok-n.n.next)) (plain_byte _ small))

pub returns-then-not-stands-2 : goal.returns-then-not-stands-2
unfolding read_answer
returns-then-not-stands-2 c =
    rw (signed_wrong _ _ _ (sym c.stands.ensures ∙ c.if-not-stands.false) (sym c.stands-2.ensures ∙ c.if-not-stands-2.true), c.at.ensures) refl

pub returns-in_err-n-2 : goal.returns-in_err-n-2
returns-in_err-n-2 c = stopped_whole _ _ literal_read c.in_err-n-2.ensures c.from_residual-in_err-n-2.ensures.1 _
    (λ n p e. minus_stopped _ _ _ (sym c.stands.ensures ∙ c.if-not-stands.false) (sym c.stands-2.ensures ∙ c.if-not-stands-2.false) e)

pub overflow_cast-result-2 : goal.overflow_cast-result-2
overflow_cast-result-2 c = omega (arith, up_to_most _ _ _ _ _ (number_ok _ c.in_ok-n-2.ensures), c.requires)

pub overflow_sub-result : goal.overflow_sub-result
overflow_sub-result c = minus_fits c.in_ok-n-2.n.value (omega (arith, up_to_most _ _ _ _ _ (number_ok _ c.in_ok-n-2.ensures), c.requires))

pub returns : goal.returns
unfolding read_answer
returns c =
    let small : c.in_ok-n-2.n.value ≤ max_variables = omega (arith, up_to_most _ _ _ _ _ (number_ok _ c.in_ok-n-2.ensures), c.requires) in
    rw (signed_minus _ _ _ (sym c.stands.ensures ∙ c.if-not-stands.false) (sym c.stands-2.ensures ∙ c.if-not-stands-2.false) (number_ok _ c.in_ok-n-2.ensures))
    (ap (λ l. Ok (literal_read l c.in_ok-n-2.n.next)) (minus_byte _ small))
