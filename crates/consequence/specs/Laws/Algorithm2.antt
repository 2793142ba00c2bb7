-- Algorithm 2, all its rounds: that at most one more model than there are choices is found, that what is kept at the end is what is forced, and the same of the
-- models of a problem. Assumes nothing.
use Rattle.std.specs.Prelude.{◌≡◌, ◌≢◌, Bool, ◌&&◌, ℕ, suc, ◌+◌, ◌^◌, ◌≤◌, ◌<◌, length}
use Rattle.std.proofs.Math.Path.{refl, ap}
use Rattle.std.proofs.Common.{sym, ◌∙◌, arith}
use Rattle.std.proofs.Math.Logic.{by_cases}
use Rattle.std.proofs.Math.Bool.{true, false, not}
use mathlib.Core.List.{List, [], ◌∷◌}
use Rattle.std.proofs.Math.Decide.{ℕ_discrete}
use Rattle.std.proofs.lemmas.Nat.{and_comm}
use Rattle.std.proofs.Math.IntN.{pos, negsuc}
use Rattle.sets.specs.Sets.{bit, has, count}
use Rattle.sets.specs.Laws.Bits.{bit_le}
use Rattle.sets.specs.Laws.Count.{ones_diff_inter}
use Rattle.sets.specs.Laws.Subset.{has_true, one_has, zero_has}
use Rattle.literals.specs.Literal.{Literal}
use Rattle.literals.specs.Truth.{holds}
use Rattle.literals.specs.Laws.{Proper, and_both}
use Rattle.literals.specs.declared.LiteralSet.{LiteralSet}
use Rattle.propagation.specs.Promises.{digit}
use Rattle.problem.specs.Problem.{Problem, given}
use Rattle.consequence.specs.Meaning.{collect, Theory, theory_of, yes_forced, no_forced, ModelOf}
use Rattle.consequence.specs.Algorithm2.{in_every, common_yes, common_no, kept_after, size, Denies, FoundInTurn, Narrowed, ModelFilling}
use Rattle.consequence.specs.Laws.Forcing.{collect_lt, collect_in, collect_true, Exactly, exactly_unique, yes_exactly, no_exactly}
use Rattle.consequence.specs.Laws.Problems.{model_filling, filling_model}
use Rattle.consequence.specs.Laws.Common.{kept_common, takes_one_out}

-- ---- the models found

module _ (n choices : ℕ) (model : ℕ → Type 0) where
  -- each model after the first takes a literal out, and the first leaves as many as there are choices
  pub found_bounded : (found : List ℕ) → FoundInTurn n choices model found → length found + size (kept_after choices found) ≤ count choices + 1
  unfolding kept_after
  found_bounded [] t = absurd t
  found_bounded (m ∷ []) t = omega (arith, ones_diff_inter choices m, ap count (and_comm m choices))
  found_bounded (m ∷ (k ∷ before)) t = omega (arith, t.0.takes_out, found_bounded (k ∷ before) t.1)

  -- each of them is a model
  pub found_models : (l : Literal) → ((f : ℕ) → model f → holds f l ≡ true) → (found : List ℕ) → FoundInTurn n choices model found
      → in_every found l ≡ true
  unfolding in_every
  found_models l h [] t = absurd t
  found_models l h (m ∷ []) t = rw (h m t.is_model) refl
  found_models l h (m ∷ (k ∷ before)) t = rw (h m t.0.is_model) (found_models l h (k ∷ before) t.1)

  -- one model more, which denies a literal kept so far
  pub one_more_found : choices < 2 ^ n → (found : List ℕ) (m : ℕ) → FoundInTurn n choices model found → model m → Denies (kept_after choices found) m
      → FoundInTurn n choices model (m ∷ found)
  unfolding kept_after
  one_more_found below [] m t x d = absurd t
  one_more_found below (k ∷ before) m t x d = (
    record {
      is_model = x;
      denies = d;
      common = kept_common n choices below (m ∷ (k ∷ before));
      takes_out = takes_one_out choices (kept_after choices (k ∷ before)) m d;
    },
    t,
  )

  -- other fillings that count as models, where they are the same ones
  pub found_as : (other : ℕ → Type 0) → ((f : ℕ) → model f → other f) → (found : List ℕ) → FoundInTurn n choices model found
      → FoundInTurn n choices other found
  found_as other to [] t = t
  found_as other to (m ∷ []) t = record { is_model = to m t.is_model; common = t.common }
  found_as other to (m ∷ (k ∷ before)) t = (
    record {
      is_model = to m t.0.is_model;
      denies = t.0.denies;
      common = t.0.common;
      takes_out = t.0.takes_out;
    },
    found_as other to (k ∷ before) t.1,
  )

  pub narrowed_as : (other : ℕ → Type 0) → ((f : ℕ) → model f → other f) → ((f : ℕ) → other f → model f) → {number : ℕ} {answer : LiteralSet}
      → Narrowed n choices model number answer → Narrowed n choices other number answer
  narrowed_as other to back w = record {
    narrowing = record {
      found = w.narrowing.found;
      in_turn = found_as other to w.narrowing.found w.narrowing.in_turn;
      counted = w.narrowing.counted;
      at_most = w.narrowing.at_most;
      common = w.narrowing.common;
    };
    none_left = λ f x d. w.none_left f (back f x) d;
  }

-- ---- what is kept at the end is what is forced

module _ (t : Theory) (on off : ℕ) {number : ℕ} {answer : LiteralSet} (w : Narrowed t.variables t.choices (ModelOf t on off) number answer) where
  -- the literals of either sign, in the answer and as literals
  abbrev side : Bool → ℕ
  side true = answer.yes
  side false = answer.no

  abbrev literal : Bool → ℕ → Literal
  literal true v = pos (suc v)
  literal false v = negsuc v

  abbrev in_all : Bool → ℕ → Bool
  in_all value v = has t.choices v && in_every w.narrowing.found (literal value v)

  side_common : (value : Bool) → side value ≡ collect t.variables (in_all value)
  unfolding common_yes common_no
  side_common true = ap (λ (s : LiteralSet). s.yes) w.narrowing.common
  side_common false = ap (λ (s : LiteralSet). s.no) w.narrowing.common

  literal_holds : (value : Bool) (f v : ℕ) → bit f v ≡ digit value → holds f (literal value v) ≡ true
  unfolding holds
  literal_holds true f v e = one_has f v e
  literal_holds false f v e = ap not (zero_has f v e)

  -- a filling that does not give a literal of the answer its value denies it
  denies_it : (value : Bool) (v f : ℕ) → bit (side value) v ≡ 1 → bit f v ≢ digit value → Denies answer f
  unfolding holds
  denies_it true v f b q = record { literal = pos (suc v); in_set = b; denied = zero_has f v (omega (arith, bit_le f v)) }
  denies_it false v f b q = record { literal = negsuc v; in_set = b; denied = ap not (one_has f v (omega (arith, bit_le f v))) }

  each : (value : Bool) (v : ℕ) → bit (side value) v ≡ 1 → (f : ℕ) → ModelOf t on off f → bit f v ≡ digit value
  each value v b f m = by_cases (ℕ_discrete (bit f v) (digit value)) (λ q. q) (λ q. absurd (w.none_left f m (denies_it value v f b q)))

  chosen : (value : Bool) (v : ℕ) → bit (side value) v ≡ 1 → bit t.choices v ≡ 1
  chosen value v b =
      let i = collect_true t.variables (in_all value) v (sym (ap (λ (x : ℕ). bit x v) (side_common value)) ∙ b) in
      has_true t.choices v (and_both _ _ i.1).0

  exact : (value : Bool) → Exactly t on off (digit value) (side value)
  exact value =
      record {
        below = rw (side_common value) (collect_lt t.variables (in_all value));
        sound = λ v b. (chosen value v b, λ f m. each value v b f m);
        complete = λ v h o a.
            ap (λ (x : ℕ). bit x v) (side_common value)
            ∙ collect_in t.variables (in_all value) v h
            (rw (
              one_has t.choices v o,
              found_models t.variables t.choices (ModelOf t on off) (literal value v) (λ f m. literal_holds value f v (a f m))
                  w.narrowing.found w.narrowing.in_turn,
            ) refl);
      }

  pub narrowed_forced : (answer.yes ≡ yes_forced t on off) × (answer.no ≡ no_forced t on off)
  narrowed_forced = (
    exactly_unique t on off 1 _ _ (exact true) (yes_exactly t on off),
    exactly_unique t on off 0 _ _ (exact false) (no_exactly t on off),
  )

-- ---- of a problem

-- the models of the rules and the given facts are the problem's
pub narrowed_problem : (p : Problem) → Proper p.facts → {number : ℕ} {answer : LiteralSet}
    → Narrowed p.variables p.choices (ModelOf (theory_of p) (given p).yes (given p).no) number answer
    → Narrowed p.variables p.choices (ModelFilling p) number answer
narrowed_problem p proper w = narrowed_as p.variables p.choices _ (ModelFilling p) (model_filling p proper) (filling_model p proper) w
