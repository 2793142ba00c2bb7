-- Reading the costs: what holds of one CS record that is whole.
-- Assumes nothing.
use mathlib.Core.Path.{◌≡◌, refl, ◌∙◌}
use mathlib.Core.Bool.{Bool, true, false, ◌&&◌, false≢true}
use mathlib.Core.List.{List}
use Prim.Native.Nat.{ℕ, ◌+◌, ◌≤◌}
use native.Mathlib.Omega.{arith}
use borrow.Author.Tests.{leb-true}
use lib.Dec.{leb, eqb}
use lib.ListN.{length, drop, length-drop}
use Rattle.records.specs.Limits.{max_cost}
use Rattle.records.specs.Format.{says, fails, value, refused, opened, byte, pair, is_cost, Cost, CS, cost_at, cost_values, cost_from}
use Rattle.records.specs.Promises.{row}
use Rattle.records.proofs.CheckLaws.{Good, says_same, checked_first_says, check_says, opened_says}
use Rattle.book.proofs.ManyLaws.{WholeFrom}
use Rattle.book.proofs.ValueLaws.{GoodItem, begin_value}

-- The costs of a choice are from 1 to `max_cost`.
pub record GoodCost (c : Cost) : Type 0 where
  pub yes_least : 1 ≤ c.of_yes
  pub yes_most : c.of_yes ≤ max_cost
  pub no_least : 1 ≤ c.of_no
  pub no_most : c.of_no ≤ max_cost

is_cost_lem : (n : ℕ) → is_cost n ≡ true → (1 ≤ n) × (n ≤ max_cost)
unfolding is_cost
is_cost_lem n e = go (leb 1 n) (leb n max_cost) refl refl e
  where
    go : (a b : Bool) → leb 1 n ≡ a → leb n max_cost ≡ b → a && b ≡ true → (1 ≤ n) × (n ≤ max_cost)
    go true b p q r = (leb-true _ _ p, leb-true _ _ (q ∙ r))
    go false b p q r = absurd (false≢true r)

-- a CS record that is whole has 7 bytes
pub cost_whole : (due : ℕ) (t : List ℕ) {c : Cost} {len : ℕ} → cost_at due t ≡ says c len → (len ≡ 7) × Good GoodCost t c len
unfolding cost_at cost_values
cost_whole due t {c} {len} e =
    let o = checked_first_says (opened CS 7 t) (cost_values due t) e in
    let y = check_says (is_cost (pair t 3)) 4 _ (check_says (eqb (byte t 2) due) 4 _ o.2).1 in
    let n = check_says (is_cost (pair t 5)) 4 _ y.1 in
    let same = says_same n.1 in
    let p = is_cost_lem _ y.0 in
    let q = is_cost_lem _ n.0 in (
      same.1,
      record {
        within = rw same.1 (opened_says CS 7 t o.1).0;
        good = rw (← same.0) (record { yes_least = p.0; yes_most = p.1; no_least = q.0; no_most = q.1 });
      },
    )

-- ---- one CS, from a place on

module _ (s : List ℕ) (due place : ℕ) where
  pub cost_said : {c : Cost} {len : ℕ} {x : List ℕ} → place ≤ length s → cost_at due (drop place s) ≡ says c len → x ≡ row c
      → WholeFrom (λ k. x ≡ row k) s (place + 7) (cost_from s due place)
  unfolding cost_from
  cost_said {c} h e f =
      let w = cost_whole due (drop place s) e in
      record { item = c; said = rw (e, w.0) refl; within = omega (arith, h, w.0, w.1.within, length-drop place s); holds = f }

  pub cost_refused : {number : ℕ} → cost_at due (drop place s) ≡ fails number → cost_from s due place ≡ refused number place
  unfolding cost_from
  cost_refused f = rw f refl

  -- one that was read has 7 bytes
  pub cost_read : {c : Cost} {next : ℕ} → place ≤ length s → cost_from s due place ≡ value c next → (next ≡ place + 7) × GoodItem GoodCost s c next
  unfolding cost_from
  cost_read {c} {next} h e =
      let f = begin_value place (cost_at due (drop place s)) value e in
      let w = cost_whole due (drop place s) f.2 in
      let same : f.0 ≡ c = cc in
      let after : place + f.1 ≡ next = cc in
      (omega (arith, w.0, after), record { within = omega (arith, h, w.0, after, w.1.within, length-drop place s); good = rw same at w.1.good })
