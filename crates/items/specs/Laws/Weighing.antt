-- The functions over weights: each goes over the items of a set, the lowest first. A law for each step. Assumes nothing.
use Rattle.std.specs.Prelude.{◌≡◌, refl, List, ℕ, ◌+◌, ◌-◌, ◌*◌, ◌≤◌, ◌<◌, length, set}
use Rattle.std.proofs.Common.{sym, ap, ◌∙◌, arith, length-set, get_or-set_same, get_or-set_other}
use Rattle.std.proofs.Math.Logic.{by_cases}
use Rattle.std.proofs.Math.Decide.{ℕ_discrete}
use Rattle.sets.specs.Sets.{bit, remove, Within, Lowest}
use Rattle.sets.specs.Laws.Bits.{bit_le, bit_none, bit_remove_same, bit_remove_other, member_lt}
use Rattle.sets.specs.Laws.Subset.{within_refl, within_trans}
use Rattle.items.specs.Promises.{weight_in, Rows, AtMostEach, Enough, TakenOff, Lighter, Item, CheapestItem}
use Rattle.items.specs.Cheapest.{remove_within, remove_less}

-- ---- going over a set

-- The items of rest are still to come.
pub record Going (s rest : ℕ) : Type 0 where
  pub within : Within rest s

pub going_start : (s : ℕ) → Going s s
going_start s = record { within = within_refl s }

going_more : {s rest r : ℕ} (v : ℕ) → Going s rest → r ≡ remove rest v → Going s r
going_more {s} {rest} v g e = rw e (record { within = within_trans (remove rest v) rest s (remove_within rest v) g.within })

pub going_less : {rest v r : ℕ} → Lowest rest v → r ≡ remove rest v → r < rest
going_less {rest} {v} l e = omega (arith, e, remove_less rest v l.least.member)

module _ {s rest v : ℕ} (g : Going s rest) (l : Lowest rest v) where
  going_member : bit s v ≡ 1
  going_member = omega (arith, l.least.member, g.within.keeps v, bit_le s v)

  pub going_row : {ws : List ℕ} → Rows ws s → v < length ws
  going_row {ws} r = member_lt (length ws) s v going_member r.rows

-- ---- `cheapest_item`

-- An item is in hand, and none gone over weighs less.
pub record ItemGone (ws : List ℕ) (s rest v : ℕ) : Type 0 where
  pub going : Going s rest
  pub item : Item s v
  pub each : (u : ℕ) → bit s u ≡ 1 → bit rest u ≡ 0 → weight_in ws v ≤ weight_in ws u

module _ {ws : List ℕ} {s : ℕ} where
  pub item_start : {v : ℕ} → Lowest s v → ItemGone ws s s v
  item_start l =
      record {
        going = going_start s;
        item = record { small = l.within; member = l.least.member };
        each = λ u e d. absurd (omega arith);
      }

  module _ {rest i : ℕ} (g : ItemGone ws s rest i) where
    pub item_row : Rows ws s → i < length ws
    item_row r = member_lt (length ws) s i g.item.member r.rows

    -- one item more: the lighter of the two is in hand
    module _ {v : ℕ} (l : Lowest rest v) where
      item_more : {j x : ℕ} → Item s j → weight_in ws j ≤ weight_in ws i → weight_in ws j ≤ weight_in ws v → x ≡ remove rest v → ItemGone ws s x j
      item_more {j} m h k e = rw e (record { going = going_more v g.going refl; item = m; each = at_all })
        where
          at_all : (u : ℕ) → bit s u ≡ 1 → bit (remove rest v) u ≡ 0 → weight_in ws j ≤ weight_in ws u
          at_all u i d =
              by_cases (ℕ_discrete u v) (λ p. rw p k)
              (λ p. omega (arith, g.each u i (sym (bit_remove_other rest v u p) ∙ d)))

      pub item_kept : {j x : ℕ} → weight_in ws i ≤ weight_in ws v → j ≡ i → x ≡ remove rest v → ItemGone ws s x j
      item_kept h d e = rw d (item_more g.item (omega arith) h e)

      pub item_other : {j x : ℕ} → weight_in ws v ≤ weight_in ws i → j ≡ v → x ≡ remove rest v → ItemGone ws s x j
      item_other h d e =
          rw d (item_more (record { small = l.within; member = going_member g.going l }) h (omega arith) e)

    pub item_all : rest ≡ 0 → CheapestItem ws s i
    item_all e = record { item = g.item; at_most = record { each = λ u i. g.each u i (bit_none rest u e) } }

-- ---- `least_weight`

module _ {ws : List ℕ} {s : ℕ} where
  pub least_none : {r : ℕ} → s ≡ 0 → AtMostEach ws s r
  least_none e = record { each = λ u i. absurd (omega (arith, i, bit_none s u e)) }

  module _ {v : ℕ} (c : CheapestItem ws s v) where
    pub least_row : Rows ws s → v < length ws
    least_row r = member_lt (length ws) s v c.item.member r.rows

    pub least_item : AtMostEach ws s (weight_in ws v)
    least_item = c.at_most

-- ---- `take_off`

-- The amount is taken off the items gone over.
pub record TakenOffGone (ws : List ℕ) (s amount : ℕ) (us : List ℕ) (rest : ℕ) : Type 0 where
  pub going : Going s rest
  pub rows : length us ≡ length ws
  pub each : (v : ℕ) → weight_in us v + (bit s v - bit rest v) * amount ≡ weight_in ws v

module _ {ws : List ℕ} {s amount : ℕ} where
  pub take_start : TakenOffGone ws s amount ws s
  take_start =
      record { going = going_start s; rows = refl; each = λ v. omega (arith, ap (λ (d : ℕ). d * amount) (none (bit s v))) }
    where
      none : (d : ℕ) → d - d ≡ 0
      none d = omega arith

  module _ {us : List ℕ} {rest v : ℕ} (g : TakenOffGone ws s amount us rest) (l : Lowest rest v) where
    -- its weight is still whole
    whole : weight_in us v ≡ weight_in ws v
    whole =
        let none : bit s v - bit rest v ≡ 0 = omega (arith, l.least.member, bit_le s v) in
        omega (arith, g.each v, ap (λ (d : ℕ). d * amount) none)

    pub take_enough : Enough ws s amount → amount ≤ weight_in us v
    take_enough e = omega (arith, whole, e.at_most.each v (going_member g.going l))

    pub take_row : Enough ws s amount → v < length us
    take_row e = omega (arith, going_row g.going l e.listed, g.rows)

    pub take_more : {less x : ℕ} → Enough ws s amount → less ≡ weight_in us v - amount → x ≡ remove rest v → TakenOffGone ws s amount (set us v less) x
    take_more {less} e d q = rw q (record { going = going_more v g.going refl; rows = length-set us v less ∙ g.rows; each = at_all })
      where
        at_all : (u : ℕ) → weight_in (set us v less) u + (bit s u - bit (remove rest v) u) * amount ≡ weight_in ws u
        at_all u =
            by_cases (ℕ_discrete u v)
            (λ p.
            rw p
            (let one : bit s v - bit (remove rest v) v ≡ 1 = omega (arith, bit_remove_same rest v, going_member g.going l) in
            omega (
              arith,
              get_or-set_same us v less 0 (take_row e),
              whole,
              take_enough e,
              ap (λ (x : ℕ). x * amount) one,
            )))
            (λ p.
            omega (
              arith,
              get_or-set_other us v u less 0 p,
              g.each u,
              ap (λ (x : ℕ). (bit s u - x) * amount) (bit_remove_other rest v u p),
            ))

  pub take_all : {us : List ℕ} {rest : ℕ} → TakenOffGone ws s amount us rest → rest ≡ 0 → TakenOff ws s amount us
  take_all {us} {rest} g e = record { rows = g.rows; each = λ v. omega (arith, g.each v, ap (λ (d : ℕ). d * amount) (all v)) }
    where
      all : (v : ℕ) → bit s v - bit rest v ≡ bit s v
      all v = omega (arith, bit_none rest v e)

-- ---- `lighter`

-- Of the items gone over, those that weigh less than the number are kept; the others are kept too.
pub record LighterGone (ws : List ℕ) (s than rest r : ℕ) : Type 0 where
  pub going : Going s rest
  pub of_set : Within r s
  pub light : (v : ℕ) → bit r v ≡ 1 → bit rest v ≡ 0 → weight_in ws v < than
  pub all_lighter : (v : ℕ) → bit s v ≡ 1 → weight_in ws v < than → bit r v ≡ 1

module _ {ws : List ℕ} {s than : ℕ} where
  pub lighter_start : LighterGone ws s than s s
  lighter_start = record { going = going_start s; of_set = within_refl s; light = λ v e d. absurd (omega arith); all_lighter = λ v e h. e }

  module _ {rest r : ℕ} (g : LighterGone ws s than rest r) where
    pub lighter_off : {v k x : ℕ} → Lowest rest v → than ≤ weight_in ws v → k ≡ remove r v → x ≡ remove rest v → LighterGone ws s than x k
    lighter_off {v} l h e q =
        rw (e, q)
        (record {
          going = going_more v g.going refl;
          of_set = within_trans (remove r v) r s (remove_within r v) g.of_set;
          light = light;
          all_lighter = kept;
        })
      where
        light : (u : ℕ) → bit (remove r v) u ≡ 1 → bit (remove rest v) u ≡ 0 → weight_in ws u < than
        light u i d =
            by_cases (ℕ_discrete u v) (λ p. absurd (omega (arith, bit_remove_same r v, ap (bit (remove r v)) p)))
            (λ p. g.light u (sym (bit_remove_other r v u p) ∙ i) (sym (bit_remove_other rest v u p) ∙ d))

        kept : (u : ℕ) → bit s u ≡ 1 → weight_in ws u < than → bit (remove r v) u ≡ 1
        kept u i k =
            by_cases (ℕ_discrete u v) (λ p. absurd (omega (arith, ap (weight_in ws) p)))
            (λ p. bit_remove_other r v u p ∙ g.all_lighter u i k)

    pub lighter_on : {v k x : ℕ} → Lowest rest v → weight_in ws v < than → k ≡ r → x ≡ remove rest v → LighterGone ws s than x k
    lighter_on {v} l h e q = rw (e, q) (record { going = going_more v g.going refl; of_set = g.of_set; light = light; all_lighter = g.all_lighter })
      where
        light : (u : ℕ) → bit r u ≡ 1 → bit (remove rest v) u ≡ 0 → weight_in ws u < than
        light u i d =
            by_cases (ℕ_discrete u v) (λ p. rw p h)
            (λ p. g.light u i (sym (bit_remove_other rest v u p) ∙ d))

    pub lighter_all : rest ≡ 0 → Lighter ws s than r
    lighter_all e =
        record {
          of_set = λ u i. (omega (arith, i, g.of_set.keeps u, bit_le s u), g.light u i (bit_none rest u e));
          all_lighter = g.all_lighter;
        }

pub ruleset least_laws = (least_none, least_row, least_item)

pub ruleset take_laws = (take_start, take_enough, take_row)

pub ruleset lighter_laws = (going_row, lighter_start, lighter_all)

pub ruleset item_laws = (going_row, item_row, item_start, item_all)
