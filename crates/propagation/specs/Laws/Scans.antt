-- The steps of a pass over the rules: a law for each. Assumes nothing.
use Rattle.std.specs.Prelude.{◌≡◌, ℕ, ◌+◌, ◌<◌, ◌≤◌, ◌≢◌, List, length, get_or}
use Rattle.std.proofs.Common.{sym, subst, arith, pow_pos}
use Rattle.std.proofs.lemmas.List.{get_or-map}
use Rattle.std.proofs.Math.ListN.{length-map}
use Rattle.std.proofs.Math.Logic.{by_cases}
use Rattle.std.proofs.Math.Decide.{ℕ_discrete, dec_lt}
use Rattle.sets.specs.Sets.{union, Lowest}
use Rattle.sets.specs.Laws.Bits.{bit_le, bit_zero, bit_union, union_lt}
use Rattle.sets.specs.Laws.Subset.{within_refl, within_le, union_none}
use Rattle.propagation.specs.Promises.{yes_masks, no_masks, LeftOpen, Looked, RuleAt, Open, ToTry, Chosen, Gives, Passed, PassedRange, PassedAll, LeftBetween, LeftByAll}
use Rattle.literals.specs.declared.LiteralSet.{LiteralSet}
use Rattle.propagation.specs.declared.pass.Look.{Look}
use Rattle.propagation.specs.declared.pass.Pass.{Pass}

-- rule j of the rules, by its masks
pub rule_there : (rs : List LiteralSet) (j : ℕ) (d : LiteralSet) → j < length rs
    → RuleAt (yes_masks rs) (no_masks rs) j (get_or rs j d).yes (get_or rs j d).no
rule_there rs j d h =
    record {
      yes_place = simp length-map h;
      no_place = simp length-map h;
      yes_there = sym (get_or-map (λ (r : LiteralSet). r.yes) rs j d 0 h);
      no_there = sym (get_or-map (λ (r : LiteralSet). r.no) rs j d 0 h);
    }

-- nothing is open
open_none : (ys ns : List ℕ) (on off : ℕ) → Open ys ns on off 0
open_none ys ns on off =
    record {
      below = λ n p q. omega (arith, pow_pos n);
      not_set = record { avoids = λ v. omega (arith, bit_zero v, bit_le (union on off) v) };
    }

-- ---- `scan_range`

-- before the first rule
pub range_start : {i : ℕ} {ys ns : List ℕ} {on off z : ℕ} → LeftBetween i i ys ns on off z z
range_start {i} {ys} {ns} {on} {off} {z} =
    record {
      open_more = λ o. o;
      more = within_refl z;
      none_met = λ e. record { each_met = λ k h l. absurd (omega arith) };
    }

-- what rule j leaves open, of n variables
pub left_below : {ys ns : List ℕ} {on off j y m l : ℕ} → RuleAt ys ns j y m → LeftOpen y m on off l → Open ys ns on off l
left_below {ys} {ns} {on} {off} {j} {y} {m} {l} a t =
    record {
      below = λ n f g.
          omega (
            arith,
            within_le l (union y m) t.within,
            union_lt n y m (rw a.yes_there (f.below j a.yes_place)) (rw a.no_there (g.below j a.no_place)),
          );
      not_set = t.not_set;
    }

module _ {ys ns : List ℕ} {on off j y m : ℕ} {r : Look} where
  -- a rule that is no conflict and forces nothing
  pub range_quiet : {i z x l w : ℕ} → LeftBetween i j ys ns on off z x → RuleAt ys ns j y m → Looked y m on off r → r ≡ Look.Quiet l → w ≡ union x l
      → LeftBetween i (j + 1) ys ns on off z w
  range_quiet {i} {z} {x} {l} {w} b a s e q =
      rw q (record {
        open_more = λ o.
            let c = b.open_more o in
            let d = left_below a t in
            record {
              below = λ n f g. union_lt n x l (c.below n f g) (d.below n f g);
              not_set = record { avoids = λ v. omega (arith, bit_union x l v, c.not_set.avoids v, d.not_set.avoids v) };
            };
        more = record { keeps = λ v. omega (arith, b.more.keeps v, bit_union x l v) };
        none_met = λ d.
            record {
              each_met = λ k f g.
                  by_cases (ℕ_discrete k j) (λ s. rw (s, sym a.yes_there, sym a.no_there) (t.none_met (union_none x l d).1))
                  (λ s. (b.none_met (union_none x l d).0).each_met k f (omega arith));
            };
      })
    where
      t : LeftOpen y m on off l
      t = (subst (Looked y m on off) e s).said

  -- variables to try
  pub shorter : {l : ℕ} → RuleAt ys ns j y m → Looked y m on off r → r ≡ Look.Quiet l → l ≢ 0 → ToTry ys ns on off l
  shorter {l} a s e z = record { opened = left_below a (subst (Looked y m on off) e s).said; some = omega arith }

-- a rule that is a conflict, or forces a variable
module _ {Left : ℕ → Type 0} {ys ns : List ℕ} {on off j : ℕ} {rule : LiteralSet} {r : Look} where
  pub range_conflict : RuleAt ys ns j rule.yes rule.no → Looked rule.yes rule.no on off r → r ≡ Look.Conflict
      → Passed Left ys ns on off (Pass.Conflict rule)
  range_conflict a s e = record { said = (record { place = j; rule = a }, (subst (Looked rule.yes rule.no on off) e s).said) }

  pub range_unit : {next : ℕ} → RuleAt ys ns j rule.yes rule.no → Looked rule.yes rule.no on off r → r ≡ Look.Unit
      → Passed Left ys ns on off (Pass.Unit rule next)
  range_unit a s e = record { said = (record { place = j; rule = a }, (subst (Looked rule.yes rule.no on off) e s).said) }

-- after the last rule
pub range_done : {i j k : ℕ} {ys ns : List ℕ} {on off z x : ℕ} → k ≤ j → LeftBetween i j ys ns on off z x
    → PassedRange i k ys ns on off z (Pass.Quiet x)
range_done h b =
    record {
      said = record {
        open_more = b.open_more;
        more = b.more;
        none_met = λ e. record { each_met = λ l f g. (b.none_met e).each_met l f (omega arith) };
      };
    }

-- ---- `scan`

module _ {Left : ℕ → Type 0} {ys ns : List ℕ} {on off : ℕ} {r : Pass} where
  -- a conflict, or a rule that forces a variable
  pub scan_conflict : {rule : LiteralSet} → Passed Left ys ns on off r → r ≡ Pass.Conflict rule → PassedAll ys ns on off (Pass.Conflict rule)
  scan_conflict p e = record { said = (subst (Passed Left ys ns on off) e p).said }

  pub scan_unit : {rule : LiteralSet} {next : ℕ} → Passed Left ys ns on off r → r ≡ Pass.Unit rule next → PassedAll ys ns on off (Pass.Unit rule next)
  scan_unit p e = record { said = (subst (Passed Left ys ns on off) e p).said }

-- neither: the rules before the place
pub scan_rest : {k x : ℕ} {ys ns : List ℕ} {on off : ℕ} {q r : Pass} → PassedRange k (length ys) ys ns on off 0 q → q ≡ Pass.Quiet x
    → PassedRange 0 k ys ns on off x r → PassedAll ys ns on off r
scan_rest {k} {x} {ys} {ns} {on} {off} {q} {r} p e s = record { said = go r s.said }
  where
    first : LeftBetween k (length ys) ys ns on off 0 x
    first = (subst (PassedRange k (length ys) ys ns on off 0) e p).said

    go : (r : Pass) → Gives (LeftBetween 0 k ys ns on off x) ys ns on off r → Gives (LeftByAll ys ns on off) ys ns on off r
    go (Pass.Conflict rule) g = g
    go (Pass.Unit rule next) g = g
    go (Pass.Quiet w) g =
        record {
          opened = g.open_more (first.open_more (open_none ys ns on off));
          none_met = λ z.
              let f : x ≡ 0 = omega (arith, within_le x w g.more) in
              record {
                each_met = λ l a b.
                    by_cases (dec_lt l k) (λ c. (g.none_met z).each_met l a c) (λ c. (first.none_met f).each_met l (omega arith) b);
              };
        }

-- the same, of the masks of a list of rules
pub scan_rules : (rs : List LiteralSet) {k x on off : ℕ} {q r : Pass} → PassedRange k (length rs) (yes_masks rs) (no_masks rs) on off 0 q
    → q ≡ Pass.Quiet x → PassedRange 0 k (yes_masks rs) (no_masks rs) on off x r → PassedAll (yes_masks rs) (no_masks rs) on off r
scan_rules rs {k} {x} {on} {off} {q} {r} p e s =
    let h : length rs ≡ length (yes_masks rs) = simp length-map in
    scan_rest (subst (λ (j : ℕ). PassedRange k j (yes_masks rs) (no_masks rs) on off 0 q) h p) e s

-- ---- `choose`

pub chosen : {ys ns : List ℕ} {on off x v : ℕ} → ToTry ys ns on off x → Lowest x v → Chosen ys ns on off v
chosen {ys} {ns} {on} {off} {x} {v} t l = record { small = l.within; among = x; opened = t.opened; member = l.least.member }

pub ruleset range_laws = (rule_there, range_start, range_quiet, range_conflict, range_unit, range_done)

pub ruleset short_laws = (rule_there, shorter)

pub ruleset scan_laws = (scan_conflict, scan_unit, scan_rules)
