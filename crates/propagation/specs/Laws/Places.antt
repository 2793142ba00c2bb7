-- Where a rule stands under a partial filling, over any number of variables and any rules, those with a variable in both masks and the empty rule
-- included: as the rule of a failed branch with a variable unset again, handed up or not, and which of its variables are not set. Assumes nothing.
use Rattle.std.specs.Prelude.{◌≡◌, ℕ, ◌+◌, ◌<◌, ◌≤◌, Bool, true, false, ◌≢◌}
use Rattle.std.proofs.Common.{sym, ap, ◌∙◌, inl, inr, true≢false, arith}
use Rattle.std.proofs.Math.Logic.{by_cases}
use Rattle.std.proofs.Math.Decide.{ℕ_discrete}
use Rattle.sets.specs.Sets.{bit, union, diff, remove, subset, Within, Lowest}
use Rattle.sets.specs.Laws.Bits.{bit_le, bit_none, bit_union, bit_diff, bit_remove_same, bit_remove_other, pos_of_member}
use Rattle.sets.specs.Laws.Subset.{subset_within, diff_within, within_subset}
use Rattle.propagation.specs.Promises.{Assigned, Conflicts, Forces, ForcesOne, Stands, Placed, Acts, Acting, Hands, HandedUp}
use Rattle.propagation.specs.Laws.Assigns.{assigned_other, assigned_same}

-- ---- a failed branch, with the variable unset again

-- what stands in one of two masks
in_either : (y m u : ℕ) → bit y u + bit m u ≡ 1 → bit (union y m) u ≡ 1
in_either y m u e = omega (arith, bit_union y m u, bit_le y u, bit_le m u)

-- one mask of a rule, which was false under d where only v was set beyond off: what does not stand at v is false under off
module _ (y d off v : ℕ) (same : (u : ℕ) → u ≢ v → bit d u ≡ bit off u) where
  stays_false : bit y v ≡ 0 → (u : ℕ) → bit y u ≤ bit d u → bit y u ≤ bit off u
  stays_false e u h = by_cases (ℕ_discrete u v) (λ q. rw q (omega arith)) (λ q. omega (arith, same u q))

  -- and so is a resolvent's mask
  pub resolved_false : (a : ℕ) → Within y d → ((u : ℕ) → u ≢ v → bit a u ≤ bit off u) → Within (remove (union y a) v) off
  resolved_false a w f =
      record {
        keeps = λ u.
            by_cases (ℕ_discrete u v) (λ q. rw q (omega (arith, bit_remove_same (union y a) v)))
            (λ q. omega (arith, bit_remove_other (union y a) v u q, bit_union y a u, w.keeps u, same u q, f u q));
      }

-- what was set at the last try does not hold a variable that is not set
pub base_clear : (base on off v : ℕ) → bit on v ≡ 0 → bit off v ≡ 0 → Within base (union on off) → bit base v ≡ 0
base_clear base on off v x z w = omega (arith, w.keeps v, bit_union on off v)

-- the rule of a failed branch, where v, set last, is unset again: it is a conflict that does not name v, or forces v, or forces what it forced
module _ (base y m on off v c d : ℕ) {value : Bool} (x : bit on v ≡ 0) (z : bit off v ≡ 0) (s : Assigned on off v value c d) (k : bit base v ≡ 0) where
  same_on : (u : ℕ) → u ≢ v → bit c u ≡ bit on u
  same_on u n = (assigned_other s u n).0

  same_off : (u : ℕ) → u ≢ v → bit d u ≡ bit off u
  same_off u n = (assigned_other s u n).1

  -- a conflict that does not name v, and one that does
  conflict_stays : Conflicts y m c d → bit (union y m) v ≡ 0 → Conflicts y m on off
  conflict_stays t e =
      record {
        yes_false = record { keeps = λ u. stays_false y d off v same_off (omega (arith, bit_union y m v)) u (t.yes_false.keeps u) };
        no_false = record { keeps = λ u. stays_false m c on v same_on (omega (arith, bit_union y m v)) u (t.no_false.keeps u) };
      }

  conflict_forces : Conflicts y m c d → bit (union y m) v ≢ 0 → Forces y m on off v
  conflict_forces t e =
      record {
        not_on = x;
        not_off = z;
        one_sign = omega (arith, bit_union y m v, t.yes_false.keeps v, t.no_false.keeps v, (assigned_same s x z).1);
        yes_false = λ u q. omega (arith, t.yes_false.keeps u, same_off u q);
        no_false = λ u q. omega (arith, t.no_false.keeps u, same_on u q);
      }

  -- a rule within base but for u: v is not in it
  module _ (u : ℕ) (t : Forces y m c d u) (w : Within (remove (union y m) u) base) where
    not_last : v ≢ u
    not_last e = omega (arith, (assigned_same s x z).1, rw (sym e) at t.not_on, rw (sym e) at t.not_off)

    absent : bit (union y m) v ≡ 0
    absent = omega (arith, bit_remove_other (union y m) u v not_last, w.keeps v)

    pub forces_stays : Forces y m on off u
    forces_stays =
        record {
          not_on = sym (assigned_other s u (λ e. not_last (sym e))).0 ∙ t.not_on;
          not_off = sym (assigned_other s u (λ e. not_last (sym e))).1 ∙ t.not_off;
          one_sign = t.one_sign;
          yes_false = λ a q. stays_false y d off v same_off (omega (arith, absent, bit_union y m v)) a (t.yes_false a q);
          no_false = λ a q. stays_false m c on v same_on (omega (arith, absent, bit_union y m v)) a (t.no_false a q);
        }

  back : Stands base y m c d → Acts y m on off
  back (inl t) =
      by_cases (ℕ_discrete (bit (union y m) v) 0) (λ e. inl (conflict_stays t e)) (λ e. inr (record { forced = v; forces = conflict_forces t e }))
  back (inr t) = inr (record { forced = t.0; forces = forces_stays t.0 t.1 t.2 })

pub failed_acts : {base y m on off v c d : ℕ} {value : Bool} → bit on v ≡ 0 → bit off v ≡ 0 → Assigned on off v value c d → Within base (union on off)
    → Placed base y m c d → Acting y m on off
failed_acts {base} {y} {m} {on} {off} {v} {c} {d} x z s w p = record { acts = back base y m on off v c d x z s (base_clear base on off v x z w) p.place }

-- ---- `handed_up`

-- the variables of a rule that are not set: none of a conflict, and the forced one
module _ (y m on off : ℕ) where
  conflict_left : Conflicts y m on off → diff (union y m) (union on off) ≡ 0
  conflict_left t =
      diff_within (union y m) (union on off)
      (record { keeps = λ u. omega (arith, bit_union y m u, bit_union on off u, t.yes_false.keeps u, t.no_false.keeps u) })

  forced_left : (v : ℕ) → Forces y m on off v → bit (diff (union y m) (union on off)) v ≡ 1
  forced_left v t =
      omega (arith, bit_diff (union y m) (union on off) v, in_either y m v t.one_sign, bit_union on off v, t.not_on, t.not_off)

  others_set : (v : ℕ) → Forces y m on off v → (u : ℕ) → u ≢ v → bit (union y m) u ≤ bit (union on off) u
  others_set v t u i = omega (arith, bit_union y m u, bit_union on off u, t.yes_false u i, t.no_false u i)

  left_forced : (v u : ℕ) → Forces y m on off v → bit (diff (union y m) (union on off)) u ≡ 1 → u ≡ v
  left_forced v u t e =
      by_cases (ℕ_discrete u v) (λ i. i)
      (λ i. absurd (omega (arith, bit_diff (union y m) (union on off) u, others_set v t u i)))

  others_in : (base v : ℕ) → Forces y m on off v → Within (diff (union y m) (diff (union y m) (union on off))) base → Within (remove (union y m) v) base
  others_in base v t w =
      record {
        keeps = λ u.
            by_cases (ℕ_discrete u v) (λ i. rw i (omega (arith, bit_remove_same (union y m) v)))
            (λ i.
            omega (
              arith,
              bit_remove_other (union y m) v u i,
              others_set v t u i,
              bit_diff (union y m) (diff (union y m) (union on off)) u,
              bit_diff (union y m) (union on off) u,
              w.keeps u,
            ));
      }

  in_others : (base v : ℕ) → Forces y m on off v → Within (remove (union y m) v) base → Within (diff (union y m) (diff (union y m) (union on off))) base
  in_others base v t w =
      record {
        keeps = λ u.
            by_cases (ℕ_discrete u v)
            (λ i. rw i (omega (arith, bit_diff (union y m) (diff (union y m) (union on off)) v, forced_left v t, bit_le (union y m) v)))
            (λ i. omega (arith, bit_diff (union y m) (diff (union y m) (union on off)) u, bit_remove_other (union y m) v u i, w.keeps u));
      }

module _ {base y m on off l : ℕ} (d : l ≡ diff (union y m) (union on off)) where
  -- nothing is left to force
  pub handed_conflict : l ≡ 0 → HandedUp base y m on off true
  handed_conflict z = record { said = λ t. record { place = go t.acts } }
    where
      go : Acts y m on off → Stands base y m on off
      go (inl t) = inl t
      go (inr t) = absurd (omega (arith, forced_left y m on off t.forced t.forces, bit_none _ t.forced (sym d ∙ z)))

  -- the others are in base, or not
  pub handed_above : {r : Bool} {w i : ℕ} → l ≢ 0 → w ≡ union y m → i ≡ diff w l → r ≡ subset i base → HandedUp base y m on off r
  handed_above {r} {w} {i} n p e f = record { said = λ t. go r t.acts f }
    where
      not_above : Stands base y m on off → false ≢ subset i base
      not_above (inl k) f = n (d ∙ conflict_left y m on off k)
      not_above (inr k) f = true≢false (sym (within_subset i base (rw (e, p, d) (in_others y m on off base k.0 k.1 k.2))) ∙ sym f)

      go : (r : Bool) → Acts y m on off → r ≡ subset i base → Hands base y m on off r
      go true (inl t) f = record { place = inl t }
      go true (inr t) f =
          record { place = inr (t.forced, t.forces, others_in y m on off base t.forced t.forces (rw (e, p, d) at (subset_within i base (sym f)))) }
      go false (inl t) f = absurd (n (d ∙ conflict_left y m on off t))
      go false (inr t) f = (t, λ k. not_above k.place f)

pub ruleset hand_laws = (handed_conflict, handed_above)

-- ---- the variables of a rule that are not set

-- a rule in its place is a conflict or forces a variable
pub placed_acts : {base y m on off : ℕ} → Placed base y m on off → Acting y m on off
placed_acts {base} {y} {m} {on} {off} p = record { acts = go p.place }
  where
    go : Stands base y m on off → Acts y m on off
    go (inl t) = inl t
    go (inr t) = inr (record { forced = t.0; forces = t.1 })

-- the variable that a rule forces is the one of it that is not set
module _ {y m on off l : ℕ} (d : l ≡ diff (union y m) (union on off)) where
  pub left_some : ForcesOne y m on off → 0 < l
  left_some t = pos_of_member l t.forced (rw d (forced_left y m on off t.forced t.forces))

  pub lowest_forced : {v : ℕ} → ForcesOne y m on off → Lowest l v → Forces y m on off v
  lowest_forced {v} t o =
      rw (left_forced y m on off t.forced v t.forces (ap (λ (x : ℕ). bit x v) (sym d) ∙ o.least.member)) t.forces

  pub none_left : Acting y m on off → l ≡ 0 → Conflicts y m on off
  none_left a z = go a.acts
    where
      go : Acts y m on off → Conflicts y m on off
      go (inl t) = t
      go (inr t) = absurd (omega (arith, left_some t))

  pub some_left : Acting y m on off → l ≢ 0 → ForcesOne y m on off
  some_left a n = go a.acts
    where
      go : Acts y m on off → ForcesOne y m on off
      go (inl t) = absurd (n (d ∙ conflict_left y m on off t))
      go (inr t) = t
