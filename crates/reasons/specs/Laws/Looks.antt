-- A look at a part: a law for each step of `look_at` and `refill`. Assumes nothing.
use Rattle.std.specs.Prelude.{◌≡◌, List, ℕ, ◌-◌, ◌≤◌, ◌<◌, Some, None, Option}
use Rattle.std.proofs.Common.{ap, arith}
use Rattle.std.proofs.Math.Logic.{by_cases}
use Rattle.std.proofs.Math.Decide.{ℕ_discrete}
use Rattle.sets.specs.Sets.{bit, union, diff, Within}
use Rattle.sets.specs.Laws.Bits.{bit_le, diff_lt}
use Rattle.items.specs.Cheapest.{hit_narrow}
use Rattle.items.specs.Witnesses.{Kept, pool_kept}
use Rattle.items.specs.Bounds.{dead, fixing}
use Rattle.items.specs.Promises.{Rows, Lighter}
use Rattle.sat.specs.Promises.{Searched}
use Rattle.records.specs.Limits.{max_choices}
use Rattle.witnesses.specs.Promises.{Pooled, Meeting, Parted, Bounded}
use Rattle.witnesses.specs.Laws.Questions.{found_obeys}
use Rattle.witnesses.specs.declared.Aim.{Aim}
use Rattle.witnesses.specs.declared.Part.{Part}
use Rattle.witnesses.specs.declared.bound.Bounds.{Bounds}
use Rattle.reasons.specs.Promises.{Seen}
use Rattle.reasons.specs.declared.look.OpenPart.{OpenPart}

-- ---- `look_at`

module _ {ws : List ℕ} {aim : Aim} {part : Part} {ms : List ℕ} {left : List ℕ} {b : Bounds}
    (x : Bounded ws aim part ms left b) where
  pub look_dead : {best : ℕ} → best ≤ b.bound → Seen (Meeting aim ms) ws aim part best None
  look_dead h = record { said = dead x.lower h }

  module _ (p : Parted ws aim part) where
    pub look_rows : {rest : ℕ} → rest ≡ diff part.limit part.chosen → Rows left rest
    look_rows e = record { rows = rw (x.rows, e) (diff_lt max_choices part.limit part.chosen p.small) }

    pub look_open : {best rest kept : ℕ} {o : OpenPart} → b.bound < best → rest ≡ diff part.limit part.chosen
        → Lighter left rest (best - b.bound) kept → o.limit ≡ union part.chosen kept → o.witness ≡ b.witness
        → Seen (Meeting aim ms) ws aim part best (Some o)
    look_open {best} {rest} {kept} h e l d w =
        let n = fixing x.lower kept p.small p.nested h inside (λ v i k. l.all_lighter v (rw e i) k) in
        record { said = rw (d, w) (n, record { hits = λ v y. hit_narrow (x.witnessed.hits v y) n.smaller }, omega (arith, x.from_key)) }
      where
        inside : Within kept (diff part.limit part.chosen)
        inside = record { keeps = at }
          where
            at : (v : ℕ) → bit kept v ≤ bit (diff part.limit part.chosen) v
            at v =
                by_cases (ℕ_discrete (bit kept v) 1) (λ i. omega (arith, ap (λ (m : ℕ). bit m v) e, (l.of_set v i).0))
                (λ i. omega (arith, bit_le kept v))

pub ruleset look_laws = (look_dead, look_rows, look_open)

-- ---- `refill`

pub refill_stored : {n : ℕ} {ys ns ms us : List ℕ} {on off f : ℕ} {a : Option ℕ} → Kept ms f us → Pooled n ys ns ms
    → Searched n ys ns on off a → a ≡ Some f → Pooled n ys ns us
refill_stored k p s e = pool_kept p (found_obeys s e) k
