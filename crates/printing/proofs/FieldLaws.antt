-- The fields of a record, as the code reads them.
-- Assumes nothing.
use mathlib.Core.Path.{◌≡◌, refl}
use mathlib.Core.List.{List}
use Prim.Native.Nat.{ℕ, ◌+◌, ◌-◌, ◌*◌}
use native.Mathlib.Omega.{arith}
use lib.ListN.{get_or, take, drop}
use Rattle.printing.specs.Fields.{facts_end, new_end, of_fields, record_in}

-- an ST record
pub fields_are : (s : List ℕ) {cost : ℕ} → cost ≡ get_or s (new_end s) 0 * 256 + get_or s (new_end s + 1) 0
    → of_fields (get_or s 2 0) (take (facts_end s - 4) (drop 4 s)) (take (new_end s - (facts_end s + 1)) (drop (facts_end s + 1) s)) cost ≡ record_in s
unfolding record_in
fields_are s {cost} e =
    let priced : cost ≡ 256 * get_or s (new_end s) 0 + get_or s (new_end s + 1) 0 = omega (arith, e) in
    let facts : facts_end s - 4 ≡ get_or s 3 0 = omega arith in
    let new : new_end s - (facts_end s + 1) ≡ get_or s (facts_end s) 0 = omega arith in
    rw (priced, facts, new) refl
