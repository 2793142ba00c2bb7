-- The rounds of Algorithm 2, a law for each: the first model, one model more, and the end. Assumes nothing.
use mathlib.Core.Path.{◌≡◌, refl, sym, ap, subst, ◌∙◌}
use mathlib.Core.List.{List, [], ◌∷◌}
use Rattle.std.specs.Prelude.{Option, Some, None}
use Prim.Native.Nat.{ℕ, ◌+◌, ◌^◌, ◌≤◌, ◌<◌}
use native.Mathlib.Omega.{arith}
use lib.Count.{ones-le}
use Rattle.literals.specs.declared.LiteralSet.{LiteralSet}
use Rattle.sat.specs.Promises.{Searched}
use Rattle.sat.specs.Laws.Searches.{searched_model, searched_none}
use Rattle.consequence.specs.Meaning.{ModelOf}
use Rattle.consequence.specs.Algorithm2.{common_yes, common_no, over_choices, in_both, size, Denies, FoundInTurn, Narrowing, Narrowed}
use Rattle.consequence.specs.Promises.{mask_theory, Denied, Concluded}
use Rattle.consequence.specs.Laws.Common.{common_one, common_more, kept_common, takes_one_out}
use Rattle.consequence.specs.Laws.Algorithm2.{found_bounded, one_more_found, narrowed_forced}
use Rattle.consequence.specs.Laws.Forcing.{collect_lt, none_contradicts, model_contradicts}
use Rattle.consequence.specs.Laws.Masks.{to_theory, of_theory, none_to_theory}

-- So many models of the rules and the set were found, and these literals are kept.
abbrev pub Round : ℕ → List ℕ → List ℕ → ℕ → ℕ → ℕ → ℕ → LiteralSet → Type 0
Round n ys ns ch on off number kept = Narrowing n ch (ModelOf (mask_theory n ys ns ch) on off) number kept

-- the kept literals are over n variables, and the models are few
module _ {n ch number : ℕ} {model : ℕ → Type 0} {kept : LiteralSet} (w : Narrowing n ch model number kept) where
  pub yes_below : kept.yes < 2 ^ n
  unfolding common_yes
  yes_below = rw w.common (collect_lt _ _)

  pub no_below : kept.no < 2 ^ n
  unfolding common_no
  no_below = rw w.common (collect_lt _ _)

  pub number_most : ch < 2 ^ n → number ≤ n + 1
  number_most below = omega (arith, w.at_most, ones-le n ch below)

-- no model at all
pub round_none : {n : ℕ} {ys ns : List ℕ} {ch on off : ℕ} {r : Option ℕ} → Searched n ys ns on off r → r ≡ None → Concluded n ys ns ch on off None
round_none s e = record { said = none_contradicts _ _ _ (none_to_theory _ (searched_none s e)) }

module _ {n : ℕ} {ys ns : List ℕ} {ch on off : ℕ} (below : ch < 2 ^ n) where
  -- the first model
  pub round_first : {r : Option ℕ} {m : ℕ} {kept : LiteralSet} → Searched n ys ns on off r → r ≡ Some m → kept ≡ over_choices ch m
      → Round n ys ns ch on off 1 kept
  round_first {m = m} s f e = record {
    found = m ∷ [];
    in_turn = record { is_model = to_theory ch (searched_model s f); common = kept_common n ch below (m ∷ []) };
    counted = refl;
    at_most = omega arith;
    common = e ∙ common_one n ch below m;
  }

  module _ {number : ℕ} {kept : LiteralSet} {r : Option ℕ} (w : Round n ys ns ch on off number kept) (d : Denied n ys ns on off kept r) where
    -- no model is left that denies a kept literal
    pub round_last : {o : Option ℕ} {m : ℕ} → Searched n ys ns on off o → o ≡ Some m → r ≡ None
        → Concluded n ys ns ch on off (Some (record { kept = kept; models = number }))
    round_last s g e =
        let left = (subst (Denied n ys ns on off kept) e d).said in
        let end : Narrowed n ch (ModelOf (mask_theory n ys ns ch) on off) number kept =
        record { narrowing = w; none_left = λ f m x. left f (of_theory ch m) x } in
        let forced = narrowed_forced (mask_theory n ys ns ch) on off end in
        record {
          said = (
            model_contradicts _ _ _ _ (to_theory ch (searched_model s g)),
            record { yes_forced = forced.0; no_forced = forced.1; narrowed = end },
          );
        }

    -- one model more
    module _ {m : ℕ} {said more : LiteralSet} (e : r ≡ Some m) (s : said ≡ over_choices ch m) (b : more ≡ in_both kept said) where
      denies : Denies kept m
      denies = (subst (Denied n ys ns on off kept) e d).said.1

      is_more : more ≡ in_both kept (over_choices ch m)
      is_more = b ∙ ap (in_both kept) s

      pub round_less : size more < size kept
      round_less = rw is_more (takes_one_out ch kept m denies)

      in_turn : FoundInTurn n ch (ModelOf (mask_theory n ys ns ch) on off) (m ∷ w.found)
      in_turn =
          one_more_found n ch _ below w.found m w.in_turn (to_theory ch (subst (Denied n ys ns on off kept) e d).said.0)
          (subst (λ (k : LiteralSet). Denies k m) (w.common ∙ sym (kept_common n ch below w.found)) denies)

      pub round_next : Round n ys ns ch on off (number + 1) more
      round_next = record {
        found = m ∷ w.found;
        in_turn = in_turn;
        counted = omega (arith, w.counted);
        at_most = omega (arith, w.counted, found_bounded n ch _ (m ∷ w.found) in_turn);
        common = is_more ∙ ap (λ (k : LiteralSet). in_both k (over_choices ch m)) w.common ∙ common_more n ch below m w.found;
      }

pub ruleset round_laws = (yes_below, no_below, round_none, round_first, round_last, round_less, round_next)
