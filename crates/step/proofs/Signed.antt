-- Literals as signed bytes: reading the cost of one, making one, and handing one on. Assumes nothing.
use mathlib.Core.Path.{◌≡◌, refl, sym, ap, ◌∙◌}
use mathlib.Core.Bool.{Bool, true, false}
use mathlib.Core.List.{List, []}
use Prim.Native.Nat.{ℕ, zero, suc, ◌+◌, ◌-◌, ◌≤◌, ◌<◌}
use native.Mathlib.Omega.{arith}
use lib.IntN.{ℤ, pos, negsuc, ◌-ℤ◌}
use lib.ListN.{get_or}
use lib.Signed.{lt_z}
use borrow.Author.Tests.{lt-ltb}
use mir.Syntax.{w8}
use mir.Val.{SFits, to_z, of_z}
use mir.Facts.{to_z_pos, to_z-of_z}
use Rattle.sets.specs.Sets.{width}
use Rattle.literals.specs.Literal.{variable, literal_of}
use Rattle.records.specs.Limits.{max_choices}
use Rattle.propagation.specs.Promises.{digit}
use Rattle.problem.specs.Problem.{cost_of, literal_cost}

-- the column of a sign
abbrev pub column : Bool → ℕ
column says = 1 - digit says

-- the cost as it is read: row by variable, column by sign
pub read_cost : (b : Bool) (table : List (List ℕ)) (l : ℤ) (r : ℕ) → r ≡ variable l → 0 < variable l → lt_z (pos 0) l ≡ b
    → get_or (get_or table (r - 1) []) (column b) 0 ≡ literal_cost table l
unfolding variable literal_cost cost_of
read_cost b table l r e h t = ap (λ (s : Bool). get_or (get_or table (r - 1) []) (column s) 0) (sym t) ∙ go l e h
  where
    go : (l : ℤ) → r ≡ variable l → 0 < variable l → get_or (get_or table (r - 1) []) (column (lt_z (pos 0) l)) 0 ≡ literal_cost table l
    go (pos zero) e h = absurd (omega arith)
    go (pos (suc v)) e h =
        let i : r - 1 ≡ v = omega arith in
        rw (lt-ltb 0 (suc v) (omega arith)) (ap (λ (x : ℕ). get_or (get_or table x []) 0 0) i)
    go (negsuc v) e h = let i : r - 1 ≡ v = omega arith in ap (λ (x : ℕ). get_or (get_or table x []) 1 0) i

-- ---- `literal`

-- v + 1 as a signed byte, and its opposite
plain : (v : ℕ) → v < width → to_z w8 (v + 1) ≡ pos (suc v)
plain v h = let small : v + 1 < 128 = omega arith in to_z_pos w8 small ∙ ap pos (omega arith)

minus : (v : ℕ) → v < width → pos 0 -ℤ to_z w8 (v + 1) ≡ negsuc v
minus v h = rw (plain v h) (rw (lt-ltb 0 (suc v) (omega arith)) (ap negsuc (omega arith)))

pub opposite_fits : (v : ℕ) → v < width → SFits w8 (pos 0 -ℤ to_z w8 (v + 1))
opposite_fits v h = rw (minus v h) (record { sfits = omega arith })

pub yes_literal : (v : ℕ) (says : Bool) → v < width → says ≡ true → to_z w8 (v + 1) ≡ literal_of v says
yes_literal v says h e = rw (e, plain v h) refl

pub no_literal : (v : ℕ) (says : Bool) → v < width → says ≡ false → to_z w8 (of_z w8 (pos 0 -ℤ to_z w8 (v + 1))) ≡ literal_of v says
no_literal v says h e = rw (to_z-of_z (opposite_fits v h)) (rw e (minus v h))

-- ---- a literal that is handed on

pub same_literal : (v : ℕ) (says : Bool) (l : ℤ) → l ≡ literal_of v says → v < width → to_z w8 (of_z w8 l) ≡ literal_of v says
same_literal v says l e h = rw e (go says)
  where
    go : (b : Bool) → to_z w8 (of_z w8 (literal_of v b)) ≡ literal_of v b
    go true = to_z-of_z {w = w8} {z = pos (suc v)} (record { sfits = omega arith })
    go false = to_z-of_z {w = w8} {z = negsuc v} (record { sfits = omega arith })

pub literal_row : (v : ℕ) (says : Bool) → v < max_choices → (0 < variable (literal_of v says)) × (variable (literal_of v says) ≤ max_choices)
unfolding variable
literal_row v true h = (omega arith, omega arith)
literal_row v false h = (omega arith, omega arith)
