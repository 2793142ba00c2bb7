-- What adding a literal does to a set of literals.
use Rattle.std.specs.Prelude.{◌≡◌}
use Rattle.sets.specs.Sets.{union}
use Rattle.literals.specs.Literal.{Literal}
use Rattle.literals.specs.Truth.{yes_bit, no_bit}
use Rattle.literals.specs.declared.LiteralSet.{LiteralSet}

-- The set r is the set s with the literal l.
pub record WithLiteral (s : LiteralSet) (l : Literal) (r : LiteralSet) : Type 0 where
  pub yes_with : r.yes ≡ union s.yes (yes_bit l)
  pub no_with : r.no ≡ union s.no (no_bit l)
