-- The limits of a problem, from those of a book.
use Rattle.std.specs.Prelude.{ℕ, ◌+◌}
use Rattle.literals.specs.declared.LiteralSet.{LiteralSet}
use Rattle.records.specs.Limits.{max_rules, max_choices}

-- The rules of a problem, at most: those of the book, and one more for each choice, which a fact over it may become (document 02, E12).
abbrev pub most_rules : ℕ
most_rules = max_rules + max_choices

-- The masks of no literals, which stand in the rows after the last rule.
abbrev pub no_literals : LiteralSet
no_literals = record { yes = 0; no = 0 }
