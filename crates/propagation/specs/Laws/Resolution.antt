-- Resolution, over any number of variables and any rules, those with a variable in both masks and the empty rule included: what obeys two rules
-- obeys their resolvent. Assumes nothing.
use Rattle.std.specs.Prelude.{◌≡◌, ℕ, ◌≤◌, Bool, true, ◌≢◌, ◌⊎◌}
use Rattle.std.proofs.Common.{sym, ap, ◌∙◌, inl, inr, arith}
use Rattle.std.proofs.Math.Logic.{by_cases}
use Rattle.std.proofs.Math.Decide.{ℕ_discrete}
use Rattle.sets.specs.Sets.{bit, has, union, remove, Within}
use Rattle.sets.specs.Laws.Bits.{bit_le, bit_remove_other}
use Rattle.sets.specs.Laws.Subset.{in_union, in_union_right}
use Rattle.literals.specs.Truth.{obeys_masks}
use Rattle.literals.specs.Laws.{obeys_yes, obeys_no, obeys_some}
use Rattle.propagation.specs.Promises.{Assigned, Conflicts, Forces, Stands, Placed, Resolvent}
use Rattle.propagation.specs.Laws.Assigns.{digit_has, assigned_other, assigned_same}
use Rattle.propagation.specs.Laws.Places.{resolved_false, base_clear, forces_stays}

-- ---- the resolvent of two rules

-- a literal of the rule (y, m) at variable u is true in f
abbrev pub TrueAt : ℕ → ℕ → ℕ → ℕ → Type 0
TrueAt f y m u = ((bit y u ≡ 1) × (bit f u ≡ 1)) ⊎ ((bit m u ≡ 1) × (bit f u ≡ 0))

-- a rule obeyed by another literal than one of v keeps being obeyed without v, and with more literals
kept : (f y m c d v u : ℕ) → u ≢ v → bit y u ≤ bit c u → bit m u ≤ bit d u → TrueAt f y m u → obeys_masks f (remove c v) (remove d v) ≡ true
kept f y m c d v u n p q (inl t) = obeys_yes f _ _ u (omega (arith, t.0, bit_remove_other c v u n, bit_le c u)) t.1
kept f y m c d v u n p q (inr t) = obeys_no f _ _ u (omega (arith, t.0, bit_remove_other d v u n, bit_le d u)) t.1

-- and so one of which no literal of v is true
without : (f y m c d v : ℕ) → Within y c → Within m d → (TrueAt f y m v → ⊥) → obeys_masks f y m ≡ true → obeys_masks f (remove c v) (remove d v) ≡ true
without f y m c d v p q n e =
    let (u, t) = obeys_some f y m e in kept f y m c d v u (λ s. n (rw (sym s) t.truly)) (p.keeps u) (q.keeps u) t.truly

-- resolution: where v stands in (y, m) at most as a no and in (a, b) at most as a yes, what obeys both obeys all their literals but those of v
module _ (f y m a b c d v : ℕ) (yc : Within y c) (ac : Within a c) (md : Within m d) (bd : Within b d) where
  pub resolvent : bit y v ≡ 0 → bit b v ≡ 0 → obeys_masks f y m ≡ true → obeys_masks f a b ≡ true → obeys_masks f (remove c v) (remove d v) ≡ true
  resolvent k l p q =
      by_cases (ℕ_discrete (bit f v) 1) (λ e. without f y m c d v yc md (not_first e) p) (λ e. without f a b c d v ac bd (not_second e) q)
    where
      not_first : bit f v ≡ 1 → TrueAt f y m v → ⊥
      not_first e (inl t) = omega (arith, t.0)
      not_first e (inr t) = omega (arith, t.1)

      not_second : bit f v ≢ 1 → TrueAt f a b v → ⊥
      not_second e (inl t) = e t.1
      not_second e (inr t) = omega (arith, t.0)

pub resolvent_said : {v y m a b c d i j : ℕ} → i ≡ union y a → c ≡ remove i v → j ≡ union m b → d ≡ remove j v → Resolvent v y m a b c d
resolvent_said {v} h p k q = record { yes_said = p ∙ ap (λ (x : ℕ). remove x v) h; no_said = q ∙ ap (λ (x : ℕ). remove x v) k }

-- the rule (a, b) forces v, and with v set to what it asks for the branch failed with the rule (y, m), which is not handed up
module _ (base y m a b on off v c d : ℕ) {value : Bool} (t : Forces a b on off v) (s : Assigned on off v value c d) (e : value ≡ has a v)
    (w : Within base (union on off)) (p : Placed base y m c d) (n : Placed base y m on off → ⊥) where
  clear : bit base v ≡ 0
  clear = base_clear base on off v t.not_on t.not_off w

  -- the value that was set is the one that (a, b) asks for
  set_yes : bit c v ≡ bit a v
  set_yes = (assigned_same s t.not_on t.not_off).0 ∙ digit_has a v value e

  set_no : bit d v ≡ bit b v
  set_no = omega (arith, set_yes, (assigned_same s t.not_on t.not_off).1, t.one_sign)

  -- (y, m) is a conflict with v set
  conflict_there : Conflicts y m c d
  conflict_there = go p.place
    where
      go : Stands base y m c d → Conflicts y m c d
      go (inl q) = q
      go (inr q) =
          absurd (n (record { place = inr (q.0, forces_stays base y m on off v c d t.not_on t.not_off s clear q.0 q.1 q.2, q.2) }))

  -- it says of v the opposite of what (a, b) says
  opposite_yes : bit y v ≤ bit b v
  opposite_yes = omega (arith, conflict_there.yes_false.keeps v, set_no)

  opposite_no : bit m v ≤ bit a v
  opposite_no = omega (arith, conflict_there.no_false.keeps v, set_yes)

  -- what obeys the two obeys their resolvent
  pub resolved_obeyed : (f : ℕ) → obeys_masks f y m ≡ true → obeys_masks f a b ≡ true → obeys_masks f (remove (union y a) v) (remove (union m b) v) ≡ true
  resolved_obeyed f h k =
      by_cases (ℕ_discrete (bit a v) 1)
      (λ q.
      resolvent f y m a b (union y a) (union m b) v (in_union y a) (in_union_right y a) (in_union m b) (in_union_right m b)
      (omega (arith, opposite_yes, t.one_sign)) (omega (arith, t.one_sign)) h k)
      (λ q.
      resolvent f a b y m (union y a) (union m b) v (in_union_right y a) (in_union y a) (in_union_right m b) (in_union m b)
      (omega (arith, t.one_sign)) (omega (arith, opposite_no, t.one_sign)) k h)

  -- and it is a conflict with v unset
  pub resolved_conflicts : Conflicts (remove (union y a) v) (remove (union m b) v) on off
  resolved_conflicts =
      record {
        yes_false = resolved_false y d off v (λ u i. (assigned_other s u i).1) a conflict_there.yes_false t.yes_false;
        no_false = resolved_false m c on v (λ u i. (assigned_other s u i).0) b conflict_there.no_false t.no_false;
      }
