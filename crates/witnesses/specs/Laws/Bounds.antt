-- The bound of a part, from the pool alone: a law for each step of its functions. They are those of `Witnesses` and `Bounds` of crate `items`, for the
-- known literals with one goal. Assumes nothing.
use Rattle.std.specs.Prelude.{◌≡◌, refl, ◌⊎◌, Bool, true, false, not, cond, List, ℕ, ◌+◌, ◌*◌, ◌^◌, ◌≤◌, ◌<◌, length, get_or, Some, None, Option}
use Rattle.std.proofs.Common.{sym, ap, subst, ◌∙◌, inl, inr, arith}
use Rattle.std.proofs.lemmas.Bool.{not-false}
use Rattle.sets.specs.Sets.{width, bit, has, inter, diff, Within}
use Rattle.sets.specs.Laws.Bits.{bit_le, bit_zero, bit_inter, bit_diff, member_lt}
use Rattle.sets.specs.Laws.Subset.{within_le, has_true, has_false}
use Rattle.sets.specs.Laws.Least.{some_member}
use Rattle.items.specs.Cheapest.{Hit, hit_within}
use Rattle.items.specs.Bounds.{bounding_start, bounding_charge, no_set}
use Rattle.items.specs.Promises.{weight_in, Rows, TakenOff}
use Rattle.items.specs.Laws.Sums.{total_member}
use Rattle.propagation.specs.Promises.{digit}
use Rattle.records.specs.Limits.{max_choices}
use Rattle.witnesses.specs.Promises.{denied_by, makes_true, Denies, Meeting, Opens, Shown, Noted, Roomy, Charged, Parted, Charging, Bounded}
use Rattle.witnesses.specs.declared.Aim.{Aim}
use Rattle.witnesses.specs.declared.Part.{Part}
use Rattle.witnesses.specs.declared.bound.Bounds.{Bounds}

-- ---- `makes_true` and `open_witness`

pub true_yes : (aim : Aim) (f : ℕ) {h : Bool} → h ≡ has f aim.goal → aim.says ≡ true → h ≡ makes_true aim f
true_yes aim f e s = rw s e

pub true_no : (aim : Aim) (f : ℕ) {h : Bool} → h ≡ has f aim.goal → aim.says ≡ false → not h ≡ makes_true aim f
true_no aim f e s = rw s (ap not e)

false_denies : (aim : Aim) (f : ℕ) → makes_true aim f ≡ false → Denies aim f
false_denies aim f = go aim.says (has f aim.goal) refl
  where
    go : (s h : Bool) → has f aim.goal ≡ h → cond s h (not h) ≡ false → bit f aim.goal ≡ digit (not s)
    go true h e t = has_false f aim.goal (e ∙ t)
    go false h e t = has_true f aim.goal (e ∙ not-false h t)

pub shown_open : {aim : Aim} {part : Part} {f d x o : ℕ} {t : Bool} → t ≡ makes_true aim f → t ≡ false → d ≡ denied_by aim.known.yes aim.known.no f
    → x ≡ inter d part.chosen → x ≡ 0 → o ≡ inter d part.limit → Shown aim part f (Some o)
shown_open {aim} {part} {f} {d} {x} e z p q n r =
    record {
      opens = λ u y. record {
        denies = false_denies aim f (sym e ∙ z);
        apart = record { avoids = avoids };
        is = same_some (sym y) ∙ r ∙ ap (λ (m : ℕ). inter m part.limit) p;
      };
    }
  where
    same_some : {a c : ℕ} → Some a ≡ Some c → a ≡ c
    same_some e = cc

    avoids : (v : ℕ) → bit part.chosen v + bit (denied_by aim.known.yes aim.known.no f) v ≤ 1
    avoids v =
        omega (
          arith,
          ap (λ (m : ℕ). bit m v) p,
          ap (λ (m : ℕ). bit m v) (sym q ∙ n),
          bit_inter d part.chosen v,
          bit_zero v,
          bit_le part.chosen v,
          bit_le d v,
        )

pub shown_none : {aim : Aim} {part : Part} {f : ℕ} → Shown aim part f None
shown_none = record { opens = λ o e. absurd (cc) }

pub shown_opens : {aim : Aim} {part : Part} {f o : ℕ} {r : Option ℕ} → Shown aim part f r → r ≡ Some o → Opens aim part f o
shown_opens {o = o} s e = s.opens o e

pub ruleset shown_laws = (shown_open, shown_none)

-- ---- `noted` and `charge`

module _ {b : Bounds} {o : ℕ} where
  pub noted_old : Noted b o b
  noted_old = record { same_bound = refl; one_of = inr refl }

  pub noted_new : {r : Bounds} → r.bound ≡ b.bound → r.witness ≡ Some o → Noted b o r
  noted_new e w = record { same_bound = e; one_of = inl w }

  pub charge_none : {left : List ℕ} → Charged left b o left b
  charge_none =
      record {
        amount = 0;
        taken = record { rows = refl; each = λ v. omega (arith, none (bit o v)) };
        more = omega arith;
        same_witness = refl;
      }
    where
      none : (d : ℕ) → d * 0 ≡ 0
      none d = omega arith

  pub charge_rows : {left : List ℕ} → Roomy left b o → Rows left o
  charge_rows r = r.listed

  -- what is taken off is at most each weight
  pub charge_fits : {left less : List ℕ} {amount : ℕ} → Roomy left b o → TakenOff left o amount less → b.bound + amount < 2 ^ width
  charge_fits {left} {less} {amount} r t = r.room amount (record { each = λ v i. omega (arith, t.each v, ap (λ (d : ℕ). d * amount) i) })

  pub charge_some : {left less : List ℕ} {amount : ℕ} {r : Bounds} → TakenOff left o amount less → r.bound ≡ b.bound + amount
      → r.witness ≡ b.witness → Charged left b o less r
  charge_some {amount = amount} t e w = record { amount = amount; taken = t; more = e; same_witness = w }

pub ruleset noted_laws = (noted_old, noted_new)

pub ruleset charge_laws = (charge_none, charge_rows, charge_fits, charge_some)

-- ---- `bound_part`

-- what a filling of the pool shows is met by every set that meets the pool
open_hit : {aim : Aim} {part : Part} {ms : List ℕ} {i o : ℕ} → i < length ms → Opens aim part (get_or ms i 0) o
    → Hit (Meeting aim ms) part.chosen part.limit o
open_hit {aim} {part} {ms} {i} h x =
    subst (λ (m : ℕ). Hit (Meeting aim ms) part.chosen part.limit m) (sym x.is)
    (hit_within (record { apart = x.apart; meets = λ t p. p.holds.meets i h x.denies }))

open_within : {aim : Aim} {part : Part} {f o : ℕ} → Opens aim part f o → Within o part.limit
open_within {aim} {part} {f} x =
    record { keeps = λ v. omega (arith, ap (λ (m : ℕ). bit m v) x.is, bit_inter (denied_by aim.known.yes aim.known.no f) part.limit v) }

module _ {ws : List ℕ} {aim : Aim} {part : Part} {ms : List ℕ} where
  pub charging_start : {b : Bounds} → Parted ws aim part → b.bound ≡ part.key → b.witness ≡ None → Charging ws aim part ms ws b
  charging_start {b} p e z =
      record {
        rows = p.rows;
        from_key = omega arith;
        bounding = rw (e, p.keyed) (bounding_start aim.key (weight_in ws) max_choices part.chosen part.limit p.nested);
        witnessed = record { hits = λ w e. absurd (cc) };
      }

  module _ {left : List ℕ} {b : Bounds} (x : Charging ws aim part ms left b) where
    pub charging_done : Bounded ws aim part ms left b
    charging_done = record { rows = x.rows; from_key = x.from_key; lower = x.bounding.lower; witnessed = x.witnessed }

    module _ {i o : ℕ} (h : i < length ms) (s : Opens aim part (get_or ms i 0) o) where
      shown : Hit (Meeting aim ms) part.chosen part.limit o
      shown = open_hit h s

      -- no item of the witness is within the limit: there is no candidate
      pub charging_none : {r : Bounds} → o ≡ 0 → b.bound ≤ r.bound → r.witness ≡ b.witness → Bounded ws aim part ms left r
      charging_none {r} z l e =
          record {
            rows = x.rows;
            from_key = omega (arith, x.from_key);
            lower = no_set (λ t p. none t (shown.meets t p));
            witnessed = rw e x.witnessed;
          }
        where
          none : (t : ℕ) → (v : ℕ) × (bit o v ≡ 1) × (bit t v ≡ 1) → ⊥
          none t w = omega (arith, w.1, ap (λ (m : ℕ). bit m w.0) z, bit_zero w.0)

      module _ (ne : o ≡ 0 → ⊥) where
        item : (v : ℕ) × (bit o v ≡ 1)
        item = some_member o (omega arith)

        in_limit : bit part.limit item.0 ≡ 1
        in_limit = omega (arith, item.1, (open_within s).keeps item.0, bit_le part.limit item.0)

        outside : bit (diff part.limit part.chosen) item.0 ≡ 1
        outside =
            omega (arith, bit_diff part.limit part.chosen item.0, in_limit, item.1, shown.apart.avoids item.0)

        -- there is room for what it gives
        pub charging_room : {c : Bounds} → Parted ws aim part → Noted b o c → Roomy left c o
        charging_room p d =
            record {
              listed = record { rows = rw x.rows (omega (arith, within_le o part.limit (open_within s), p.small)) };
              room = λ a m.
                  omega (
                    arith,
                    m.each item.0 item.1,
                    total_member (weight_in left) max_choices (diff part.limit part.chosen) item.0
                        (member_lt max_choices part.limit item.0 in_limit p.small) outside,
                    x.bounding.fits,
                    p.cheap,
                    d.same_bound,
                  );
            }

        -- one witness more
        pub charging_more : {c : Bounds} {less : List ℕ} {r : Bounds} → Parted ws aim part → Noted b o c → Charged left c o less r
            → Charging ws aim part ms less r
        charging_more {c} {less} {r} p d g =
            record {
              rows = g.taken.rows ∙ x.rows;
              from_key = omega (arith, x.from_key, d.same_bound, g.more);
              bounding = rw (g.more, d.same_bound)
                  (bounding_charge max_choices part.chosen part.limit (weight_in left) (weight_in less) o g.amount p.small
                  shown.apart g.taken.each x.bounding shown.meets (item.0, item.1, in_limit));
              witnessed = record { hits = either d.one_of };
            }
          where
            either : (c.witness ≡ Some o) ⊎ (c.witness ≡ b.witness) → (w : ℕ) → r.witness ≡ Some w → Hit (Meeting aim ms) part.chosen part.limit w
            either (inl e) w y =
                let q : o ≡ w = cc (g.same_witness, e, y) in
                subst (λ (m : ℕ). Hit (Meeting aim ms) part.chosen part.limit m) q shown
            either (inr e) w y = x.witnessed.hits w (cc (g.same_witness, e, y))

pub ruleset charging_laws = (shown_opens, charging_start, charging_done, charging_none, charging_room, charging_more)
