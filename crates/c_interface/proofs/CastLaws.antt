-- A signed number of a narrower type, cast to `i64`: it fits, and stays as it is. Assumes nothing.
use mathlib.Core.Path.{◌≡◌}
use lib.IntN.{ℤ}
use lib.Dec.{T, leb}
use mir.Syntax.{Width, w64}
use mir.Val.{hbits, SFits, to_z, of_z}
use mir.Facts.{sfits_widen, to_z-of_z}

module _ {w : Width} {z : ℤ} (narrow : T (leb (hbits w) (hbits w64))) (fits : SFits w z) where
  pub cast_fits : SFits w64 (to_z w (of_z w z))
  cast_fits = rw (to_z-of_z fits) (sfits_widen narrow fits)

  pub cast_same : to_z w64 (of_z w64 (to_z w (of_z w z))) ≡ z
  cast_same = rw (to_z-of_z fits) (to_z-of_z (sfits_widen {w' = w64} narrow fits))
