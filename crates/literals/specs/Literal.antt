use Rattle.std.specs.Prelude.{Bool, true, false, cond, List, map, ℕ, suc, ◌-◌, ltb, ℤ, pos, negsuc}
use Rattle.sets.specs.Sets.{has, union, members}

-- A literal is a signed number: v says "variable v is yes", -v says "variable v is no".
abbrev pub Literal : Type 0
Literal = ℤ

-- The variable that a literal speaks of.
unfoldable pub variable : Literal → ℕ
variable (pos v) = v
variable (negsuc n) = suc n

-- The literal that a byte is, in two's complement.
unfoldable pub of_byte : ℕ → Literal
of_byte b = cond (ltb b 128) (pos b) (negsuc (255 - b))

-- The byte that a literal is, in two's complement.
unfoldable pub byte_of : Literal → ℕ
byte_of (pos v) = v
byte_of (negsuc v) = 255 - v

-- The literal over variable v + 1 that says yes or no.
abbrev pub literal_of : ℕ → Bool → Literal
literal_of v true = pos (suc v)
literal_of v false = negsuc v

-- The literals of a set, rising by variable.
unfoldable pub literals_of : ℕ → ℕ → List Literal
literals_of on off = map (λ v. literal_of v (has on v)) (members (union on off))
