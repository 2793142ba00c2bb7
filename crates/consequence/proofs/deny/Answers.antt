-- `consequence::deny` meets its contract: the search is handed the rules with one more, which asks that a kept literal be denied. Assumes nothing.
use Rattle.std.proofs.Common.{◌∙◌}
use Rattle.consequence.specs.Laws.Common.{denies_obeys, obeys_denies}
use Rattle.consequence.proofs.DenyLaws.{denial}
use Rattle.consequence.proofs.deny.Goals as goal

-- Whatever rule the code put last: what it must say is asked here.
pub returns : goal.returns
returns c =
    denial c.args.f.rules.now c.requires.posed _ _ (c.as_slice.ensures.value ∙ c.with_one_more-rules.ensures) c.search.ensures _
    (λ f. obeys_denies _ f) (λ f. denies_obeys _ f)
