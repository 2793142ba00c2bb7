-- A look at a part with the pool, and where the part is split: a law for each step, from those of crate `items`. Assumes nothing.
use Rattle.std.specs.Prelude.{◌≡◌, refl, List, ℕ, ◌^◌, ◌<◌, Some, None, Option}
use Rattle.std.proofs.Common.{sym, ◌∙◌, arith}
use Rattle.std.proofs.lemmas.Nat.{and_le_r}
use Rattle.sets.specs.Sets.{union, inter, Within}
use Rattle.sets.specs.Laws.Bits.{bit_le, bit_inter}
use Rattle.sets.specs.Laws.Subset.{within_trans, within_le}
use Rattle.items.specs.Cheapest.{Hit, hit, no_member, hit_stronger}
use Rattle.items.specs.Cheapest.{Monotone}
use Rattle.items.specs.Witnesses.{Kept, pool_kept}
use Rattle.items.specs.Bounds.{narrowed, dead_stronger, narrowed_stronger}
use Rattle.items.specs.Promises.{weight_in, Rows, CheapestItem}
use Rattle.items.specs.Laws.Sums.{total_le}
use Rattle.sat.specs.Promises.{Searched}
use Rattle.sat.specs.Laws.Searches.{searched_model, searched_none}
use Rattle.records.specs.Limits.{max_choices}
use Rattle.witnesses.specs.Promises.{aim_on, aim_off, denied_by, Refutes, key_at, Aimed, Pooled, Meeting, Parted}
use Rattle.witnesses.specs.Laws.Questions.{found_obeys, model_hit, meets_pool}
use Rattle.witnesses.specs.declared.Aim.{Aim}
use Rattle.witnesses.specs.declared.Part.{Part}
use Rattle.reasons.specs.Promises.{Seen, Exploring, LookedAt, CutAt, CutUp}
use Rattle.reasons.specs.declared.look.OpenPart.{OpenPart}
use Rattle.reasons.specs.declared.split.Cut.{Cut}

-- ---- keys

key_rises : (ws : List ℕ) (aim : Aim) → Monotone (key_at ws aim)
key_rises ws aim = record { rises = λ s t w. omega (arith, total_le (weight_in ws) max_choices s t w) }

module _ {n : ℕ} {ys ns ws : List ℕ} {aim : Aim} {part : Part} (x : Exploring n ys ns ws aim part) where
  pub limit_small : part.limit < 2 ^ max_choices
  limit_small = omega (arith, within_le part.limit (union aim.known.yes aim.known.no) x.known, x.sought.weighed)

  pub explore_aimed : Aimed n ys ns aim
  explore_aimed = x.sought.aimed

  pub explore_parted : Parted ws aim part
  explore_parted =
      record {
        rows = x.sought.rows;
        goal_row = x.sought.aimed.goal_row;
        small = limit_small;
        nested = x.nested;
        keyed = x.keyed;
        cheap = omega (arith, total_le (weight_in ws) max_choices part.limit (union aim.known.yes aim.known.no) x.known, x.sought.cheap);
      }

  -- ---- `look_with_pool`

  -- what the pool tells of a part holds of its candidates
  module _ {ms : List ℕ} (p : Pooled n ys ns ms) where
    implied : (t : ℕ) → Within t part.limit → Refutes n ys ns aim t → Meeting aim ms t
    implied t w = meets_pool aim p t (within_trans t part.limit (union aim.known.yes aim.known.no) w x.known)

    rules_see : {best : ℕ} (r : Option OpenPart) → Seen (Meeting aim ms) ws aim part best r → Seen (Refutes n ys ns aim) ws aim part best r
    rules_see None s = record { said = dead_stronger implied s.said }
    rules_see (Some o) s =
        record {
          said = (
            narrowed_stronger implied s.said.0,
            record { hits = λ w e. hit_stronger (λ t i. implied t (within_trans t o.limit part.limit i s.said.0.smaller)) (s.said.1.hits w e) },
            s.said.2,
          );
        }

    pub look_told : {best : ℕ} {vs us : List ℕ} {r : Option OpenPart} → Seen (Meeting aim vs) ws aim part best r → vs ≡ us → us ≡ ms
        → LookedAt n ys ns ws aim part best us r
    look_told {r = r} s e q = let t = rw (e, q) at s in rw q (record { seen = rules_see r t; pooled = p })

pub ruleset looking_laws = (explore_aimed, explore_parted, look_told)

-- ---- `cut_at`

module _ {limit w left : ℕ} (e : left ≡ inter w limit) where
  pub cut_none : left ≡ 0 → CutAt limit w None
  cut_none z = record { said = sym e ∙ z }

  pub cut_item : {ws : List ℕ} {item : ℕ} → CheapestItem ws left item → CutAt limit w (Some (record { limit = limit; item = item }))
  cut_item c = record { said = (refl, rw e at c.item) }

pub cut_rows : {ws : List ℕ} {limit left : ℕ} (w : ℕ) → Rows ws limit → left ≡ inter w limit → Rows ws left
cut_rows {limit = limit} w r e = record { rows = rw e (omega (arith, and_le_r w limit, r.rows)) }

pub ruleset cut_at_laws = (cut_none, cut_item, cut_rows)

-- ---- `next_cut`

module _ {n : ℕ} {ys ns ws : List ℕ} {aim : Aim} {part : Part} {best : ℕ} {ms : List ℕ} where
  pub cut_dead : LookedAt n ys ns ws aim part best ms None → CutUp n ys ns ws aim part best ms best None
  cut_dead l = record { said = record { cheapest = l.seen.said; pooled = l.pooled } }

  module _ {o : OpenPart} (l : LookedAt n ys ns ws aim part best ms (Some o)) (x : Exploring n ys ns ws aim part) where
    pub cut_limit : Rows ws o.limit
    cut_limit =
        record { rows = rw x.sought.rows (omega (arith, within_le o.limit part.limit l.seen.said.0.smaller, limit_small x)) }

    -- by a witness: no candidate, or an item
    cuts : {us : List ℕ} {w : ℕ} (r : Option Cut) → Pooled n ys ns us → Hit (Refutes n ys ns aim) part.chosen o.limit w → CutAt o.limit w r
        → CutUp n ys ns ws aim part best us best r
    cuts {us} {w} None p h s = record { said = record { cheapest = narrowed l.seen.said.0 (no_member h s.said); pooled = p } }
    cuts {us} {w} (Some c) p h s =
        record {
          said = rw s.said.0 (
            record {
              pooled = p;
              narrow = l.seen.said.0;
              small = s.said.1.small;
              limited = omega (arith, s.said.1.member, bit_inter w o.limit c.item, bit_le w c.item, bit_le o.limit c.item);
              unused = omega (
                arith,
                s.said.1.member,
                bit_inter w o.limit c.item,
                bit_le w c.item,
                bit_le o.limit c.item,
                h.apart.avoids c.item,
              );
            },
            refl,
          );
        }

    pub cut_open : {w : ℕ} {r : Option Cut} → o.witness ≡ Some w → CutAt o.limit w r → CutUp n ys ns ws aim part best ms best r
    cut_open {w} {r} e s = cuts r l.pooled (l.seen.said.1.hits w e) s

    -- `chosen` is a candidate
    pub cut_found : {a : Option ℕ} → Searched n ys ns (aim_on aim part.chosen) (aim_off aim part.chosen) a → a ≡ None
        → CutUp n ys ns ws aim part best ms part.key None
    cut_found a z =
        record {
          said = record {
            cheapest = rw x.keyed (hit (key_rises ws aim) x.nested (searched_none a z) (omega (arith, l.seen.said.2, x.keyed)));
            pooled = l.pooled;
          };
        }

    -- the model is one more for the pool, and what it makes false a witness
    pub cut_model : {us : List ℕ} {f w : ℕ} {a : Option ℕ} {r : Option Cut}
        → Searched n ys ns (aim_on aim part.chosen) (aim_off aim part.chosen) a → a ≡ Some f → Kept ms f us
        → w ≡ denied_by aim.known.yes aim.known.no f → CutAt o.limit w r → CutUp n ys ns ws aim part best us best r
    cut_model {f = f} {r = r} a m t q s =
        cuts r (pool_kept l.pooled (found_obeys a m) t) (rw q (model_hit n ys ns aim part.chosen o.limit f in_known (searched_model a m))) s
      where
        in_known : Within o.limit (union aim.known.yes aim.known.no)
        in_known = within_trans o.limit part.limit (union aim.known.yes aim.known.no) l.seen.said.0.smaller x.known

pub ruleset split_laws = (explore_aimed, cut_dead, cut_limit, cut_open, cut_found, cut_model)
