-- `log_form::put_list` meets its contract. Assumes nothing.
use Rattle.std.proofs.Common.{◌≡◌, ap, ◌∙◌}
use Rattle.sets.specs.Sets.{count, union}
use Rattle.log_form.proofs.ListLaws.{listing_room, listing_all, listed, number_room, members_room}
use Rattle.log_form.proofs.put_list.Goals as goal

pub put_byte-i-requires : goal.put_byte-i-requires
put_byte-i-requires c = number_room c.args.out.now _ _ _ c.requires

pub put_byte-i-requires-in-loop-v : goal.put_byte-i-requires-in-loop-v
put_byte-i-requires-in-loop-v c = listing_room _ _ _ _ c.loop-v.invariant c.in-Some.ensures.steps.0 (members_room _ _ _ _ c.requires c.put_byte-i.ensures)

pub returns : goal.returns
returns c =
    let number : c.count.result ≡ count (union c.args.set.yes c.args.set.no) = c.count.ensures.counts ∙ ap count c.variables-all.ensures in
    listed _ _ (rw number at c.put_byte-i.ensures) (listing_all _ _ _ _ c.loop-v.invariant c.in-None.ensures.steps.0)
