-- The search of a part: a law for each step of `explore`, from those of crate `items`. Assumes nothing.
use Rattle.std.specs.Prelude.{◌≡◌, refl, List, ℕ, ◌-◌, ◌<◌, Some, None}
use Rattle.std.proofs.Common.{arith}
use Rattle.sets.specs.Sets.{union, insert, remove, Within}
use Rattle.sets.specs.Laws.Bits.{member_lt}
use Rattle.sets.specs.Laws.Subset.{within_trans, within_le, within_insert}
use Rattle.items.specs.Cheapest.{Least, InInterval, branch_on}
use Rattle.items.specs.Cheapest.{within_remove, remove_within, insert_more, remove_less}
use Rattle.items.specs.Bounds.{narrowed}
use Rattle.items.specs.Promises.{weight_in}
use Rattle.items.specs.Laws.Sums.{total_le, total_insert}
use Rattle.records.specs.Limits.{max_choices}
use Rattle.witnesses.specs.Promises.{Refutes, key_at, Pooled}
use Rattle.witnesses.specs.declared.Aim.{Aim}
use Rattle.witnesses.specs.declared.Part.{Part}
use Rattle.reasons.specs.Promises.{Exploring, Explored, SplitsOn, CutUp, ItemFits, with_item, Remaining}
use Rattle.reasons.specs.Laws.Splits.{limit_small}
use Rattle.reasons.specs.declared.split.Cut.{Cut}

-- ---- `explore`

module _ {n : ℕ} {ys ns ws : List ℕ} {aim : Aim} {part : Part} where
  pub remaining_start : {best : ℕ} {ms : List ℕ} → Exploring n ys ns ws aim part → Pooled n ys ns ms
      → Remaining n ys ns ws aim part best ms part best
  remaining_start x p = record { exploring = x; same_chosen = refl; smaller = omega arith; pooled = p; finish = λ r l. l }

  module _ {best least : ℕ} {ms : List ℕ} {rest : Part} (m : Remaining n ys ns ws aim part best ms rest least) {us : List ℕ} {now : ℕ} where
    pub remaining_done : CutUp n ys ns ws aim rest least us now None → Explored n ys ns ws aim part best us now
    remaining_done s = record { cheapest = m.finish now s.said.cheapest; pooled = s.said.pooled }

    module _ {c : Cut} (s : CutUp n ys ns ws aim rest least us now (Some c)) where
      on : SplitsOn n ys ns ws aim rest least us c.limit c.item
      on = s.said.0

      row : c.item < max_choices
      row = member_lt max_choices c.limit c.item on.limited (omega (arith, within_le c.limit rest.limit on.narrow.smaller, limit_small m.exploring))

      more : Within (insert rest.chosen c.item) c.limit
      more = within_insert rest.chosen c.item c.limit on.narrow.nested on.limited

      known : Within c.limit (union aim.known.yes aim.known.no)
      known = within_trans c.limit rest.limit (union aim.known.yes aim.known.no) on.narrow.smaller m.exploring.known

      pub split_pooled : Pooled n ys ns us
      split_pooled = on.pooled

      -- the key has room
      pub split_fits : ItemFits ws rest c.item
      split_fits =
          record {
            row = row;
            fits = omega (
              arith,
              m.exploring.keyed,
              total_insert (weight_in ws) max_choices rest.chosen c.item row on.unused,
              total_le (weight_in ws) max_choices (insert rest.chosen c.item) (union aim.known.yes aim.known.no)
                  (within_trans (insert rest.chosen c.item) c.limit (union aim.known.yes aim.known.no) more known),
              m.exploring.sought.cheap,
            );
          }

      -- the sets with the item
      pub split_with : {with : Part} → with ≡ with_item ws rest c.limit c.item → Exploring n ys ns ws aim with
      split_with q =
          rw q
          (record {
            sought = m.exploring.sought;
            nested = more;
            known = known;
            keyed = omega (arith, m.exploring.keyed, total_insert (weight_in ws) max_choices rest.chosen c.item row on.unused);
          })

      pub split_with_less : {with : Part} {t : ℕ} → with ≡ with_item ws rest c.limit c.item → part.limit - part.chosen ≡ t → with.limit - with.chosen < t
      split_with_less q z =
          rw q
          (omega (
            arith,
            m.same_chosen,
            m.smaller,
            within_le c.limit rest.limit on.narrow.smaller,
            within_le _ _ more,
            insert_more rest.chosen c.item on.unused,
          ))

      -- the sets without it are left
      pub split_without : {with : Part} {found : ℕ} {vs : List ℕ} {k : ℕ} → with ≡ with_item ws rest c.limit c.item
          → Explored n ys ns ws aim with now vs found → k ≡ remove c.limit c.item
          → Remaining n ys ns ws aim part best vs (record { chosen = rest.chosen; limit = k; key = rest.key }) found
      split_without {with} {found} {vs} q x z =
          rw z
          (record {
            exploring = record {
              sought = m.exploring.sought;
              nested = within_remove rest.chosen c.limit c.item on.narrow.nested on.unused;
              known = within_trans (remove c.limit c.item) c.limit (union aim.known.yes aim.known.no) (remove_within c.limit c.item) known;
              keyed = m.exploring.keyed;
            };
            same_chosen = m.same_chosen;
            smaller = omega (
              arith,
              m.smaller,
              within_le c.limit rest.limit on.narrow.smaller,
              within_le (remove c.limit c.item) c.limit (remove_within c.limit c.item),
            );
            pooled = x.pooled;
            finish = λ r y. m.finish r (narrowed on.narrow (branch_on c.item on.narrow.nested on.unused on.limited inside y));
          })
        where
          inside : Least (InInterval (Refutes n ys ns aim) (insert rest.chosen c.item) c.limit) (key_at ws aim) least found
          inside = rw (q, s.said.1) at x.cheapest

      pub split_less : {k : ℕ} → k ≡ remove c.limit c.item → k < rest.limit
      split_less z = omega (arith, z, remove_less c.limit c.item on.limited, within_le c.limit rest.limit on.narrow.smaller)
