-- The operations on sets of literals: those on sets of variables, on the variables said yes of and on those said no of.
use Rattle.std.specs.Prelude.{Bool, ◌&&◌, ℕ}
use Rattle.sets.specs.Sets as set
use Rattle.literals.specs.declared.LiteralSet.{LiteralSet}

-- The variables that the set speaks of.
abbrev pub variables : LiteralSet → ℕ
variables s = set.union s.yes s.no

-- The literals of s or of t.
abbrev pub union : LiteralSet → LiteralSet → LiteralSet
union s t = record { yes = set.union s.yes t.yes; no = set.union s.no t.no }

-- The literals of both s and t.
abbrev pub inter : LiteralSet → LiteralSet → LiteralSet
inter s t = record { yes = set.inter s.yes t.yes; no = set.inter s.no t.no }

-- The literals of s that are not in t.
abbrev pub diff : LiteralSet → LiteralSet → LiteralSet
diff s t = record { yes = set.diff s.yes t.yes; no = set.diff s.no t.no }

-- Whether each literal of s is in t.
abbrev pub subset : LiteralSet → LiteralSet → Bool
subset s t = set.subset s.yes t.yes && set.subset s.no t.no
