-- Reading the window that may follow a rule: what holds of one WN record that is whole, and where one stands.
-- Assumes nothing.
use mathlib.Core.Path.{◌≡◌, refl, sym, ◌∙◌}
use mathlib.Core.Bool.{Bool, true, false, cond}
use mathlib.Core.List.{List}
use Prim.Native.Nat.{ℕ, ◌+◌, ◌≤◌}
use native.Mathlib.Omega.{arith}
use lib.ListN.{length, drop, length-drop}
use Rattle.dates.specs.Windows.{is_window}
use Rattle.dates.specs.declared.Window.{Window}
use Rattle.dates.specs.declared.Applies.{Applies}
use Rattle.records.specs.Limits.{window_size}
use Rattle.records.specs.Format.{says, value, begin, opened, begins, WN, window_fields, window_values, window_at, window_from}
use Rattle.records.proofs.CheckLaws.{says_same, checked_first_says, check_says, opened_says}
use Rattle.records.proofs.ReadLaws.{part_from, part_from_lem}
use Rattle.book.proofs.ValueLaws.{begin_value}

-- a WN record that is whole has 15 bytes
pub window_whole : (t : List ℕ) {w : Window} {len : ℕ} → window_at t ≡ says w len → (len ≡ window_size) × (len ≤ length t)
unfolding window_at window_values
window_whole t {w} {len} e =
    let o = checked_first_says (opened WN window_size t) (window_values t) e in
    let same = says_same (check_says (is_window (window_fields t)) 14 _ o.2).1 in
    (same.1, rw same.1 (opened_says WN window_size t o.1).0)

-- ---- WN where one stands, from a place on

module _ (s : List ℕ) (place : ℕ) {test : Bool} (t : test ≡ begins WN (part_from s place)) where
  pub window_absent : test ≡ false → window_from s place ≡ value Applies.Always place
  unfolding window_from
  window_absent a = rw (rw part_from_lem at (sym t ∙ a)) refl

  pub window_due : test ≡ true → window_from s place ≡ begin place (window_at (drop place s)) (λ w next. value (Applies.During w) next)
  unfolding window_from
  window_due a = rw (rw part_from_lem at (sym t ∙ a)) refl

  pub window_said : {w : Window} {len : ℕ} → test ≡ true → window_at (drop place s) ≡ says w len
      → window_from s place ≡ value (Applies.During w) (place + window_size)
  window_said a e = window_due a ∙ rw (e, (window_whole (drop place s) e).0) refl

-- one that was read has at most 15 bytes
pub window_read : (s : List ℕ) (place : ℕ) {a : Applies} {next : ℕ} → place ≤ length s → window_from s place ≡ value a next
    → (next ≤ place + window_size) × (next ≤ length s)
unfolding window_from
window_read s place {a} {next} h e = go (begins WN (drop place s)) e
  where
    go : (b : Bool) → cond b (begin place (window_at (drop place s)) (λ w p. value (Applies.During w) p)) (value Applies.Always place) ≡ value a next
        → (next ≤ place + window_size) × (next ≤ length s)
    go false g = let same : place ≡ next = cc in (omega (arith, same), omega (arith, same))
    go true g =
        let f = begin_value place (window_at (drop place s)) (λ w p. value (Applies.During w) p) g in
        let w = window_whole (drop place s) f.2 in
        let after : place + f.1 ≡ next = cc in
        (omega (arith, w.0, after), omega (arith, w.0, w.1, after, length-drop place s))
