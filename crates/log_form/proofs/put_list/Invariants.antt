-- `log_form::put_list` meets its contract. The invariant: the bytes of the members taken are stored. Assumes nothing.
use Rattle.sets.specs.Sets.{union}
use Rattle.log_form.specs.Promises.{member_byte}
use Rattle.log_form.proofs.ListLaws.{Listing}
use Rattle.log_form.proofs.put_list.Given as goal

abbrev pub invariant-loop-v : goal.invariant-loop-v
invariant-loop-v l = Listing l.initial.out l.initial.i (member_byte l.set.yes) (union l.set.yes l.set.no) l.out l.v-iterator.left l.i
