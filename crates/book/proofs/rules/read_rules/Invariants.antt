-- `book::rules::read_rules` meets its contract. Assumes nothing.
use Rattle.std.proofs.Common.{◌≡◌, length}
use Rattle.records.specs.Format.{rule_from, many}
use Rattle.book.specs.Answer.{kept_rules}
use Rattle.book.proofs.ManyLaws.{Walked, many_left}
use Rattle.book.proofs.rules.read_rules.Given as goal

abbrev pub invariant-loop : goal.invariant-loop
invariant-loop l =
    Walked l.s (many (λ k. rule_from l.s l.n) l.count 1 l.from)
    (λ done. (length done ≡ l.counter) × (l.rules ≡ kept_rules done))
    (many_left (λ k. rule_from l.s l.n) l.count l.counter l.place) l.place
