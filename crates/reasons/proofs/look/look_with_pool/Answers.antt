-- `reasons::look::look_with_pool` meets its contract. Assumes nothing.
use Rattle.reasons.specs.Laws.Splits.{look_told}
use Rattle.reasons.proofs.look.look_with_pool.Goals as goal

pub returns-then-not-question_due : goal.returns-then-not-question_due
returns-then-not-question_due c =
    look_told c.requires.exploring c.requires.pooled (rw c.in_ok-open.was at c.look_at.ensures) (cc) (cc)
