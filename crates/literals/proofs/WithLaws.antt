-- A set of literals grows by one literal, whose sign says in which mask.
-- Assumes nothing.
use mathlib.Core.Path.{◌≡◌, sym}
use mathlib.Core.Bool.{Bool, true, false, false≢true}
use Prim.Native.Nat.{ℕ, zero, suc, ◌-◌, ◌<◌}
use native.Mathlib.Omega.{arith}
use borrow.Author.Tests.{ltb-false}
use lib.Bits.{or_zero_r}
use lib.IntN.{ℤ, pos, negsuc}
use lib.Signed.{lt_z}
use mir.Syntax.{w8}
use mir.Val.{SFits, to_z, of_z}
use mir.Facts.{to_z-of_z}
use Rattle.sets.specs.Sets.{insert}
use Rattle.literals.specs.Literal.{variable}
use Rattle.literals.specs.Truth.{yes_bit, no_bit}
use Rattle.literals.specs.WithLiteral.{WithLiteral}
use Rattle.literals.specs.declared.LiteralSet.{LiteralSet}

-- one of the two masks, and the set with that mask changed
abbrev mask : LiteralSet → Bool → ℕ
mask s true = s.yes
mask s false = s.no

abbrev changed : LiteralSet → Bool → ℕ → LiteralSet
changed s true r = record { yes = r; no = s.no }
changed s false r = record { yes = s.yes; no = r }

module _ (s : LiteralSet) (w r : ℕ) where
  with_sign : (positive : Bool) (l : ℤ) → 0 < variable l → lt_z (pos 0) l ≡ positive → w ≡ variable l → r ≡ insert (mask s positive) (w - 1)
      → WithLiteral s l (changed s positive r)
  unfolding variable yes_bit no_bit insert
  with_sign positive (pos zero) n t e g = absurd (omega arith)
  with_sign true (pos (suc v)) n t e g = let p : w - 1 ≡ v = omega arith in record { yes_with = rw p at g; no_with = sym (or_zero_r s.no) }
  with_sign true (negsuc v) n t e g = absurd (false≢true t)
  with_sign false (pos (suc v)) n t e g = absurd (omega (arith, ltb-false 0 (suc v) t))
  with_sign false (negsuc v) n t e g = let p : w - 1 ≡ v = omega arith in record { yes_with = sym (or_zero_r s.yes); no_with = rw p at g }

  -- the literal as the code has it, by its bits
  pub with_literal : (positive : Bool) (l : ℤ) → SFits w8 l → 0 < variable l → lt_z (pos 0) (to_z w8 (of_z w8 l)) ≡ positive → w ≡ variable l
      → r ≡ insert (mask s positive) (w - 1) → WithLiteral s l (changed s positive r)
  with_literal positive l f n t e g = with_sign positive l n (rw (to_z-of_z f) at t) e g
