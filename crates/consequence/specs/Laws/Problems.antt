-- A problem's models and consequence: by its facts as a list and as a set, computed and for every filling. Assumes nothing.
use Rattle.std.specs.Prelude.{◌≡◌, Bool, true, false, ◌&&◌, ◌||◌, ℕ, zero, suc, ◌^◌, ◌<◌}
use Rattle.std.proofs.Common.{sym, ap₂, ◌∙◌}
use Rattle.std.proofs.Math.Path.{ap}
use Rattle.std.proofs.Math.Bool.{not, true≢false}
use Rattle.std.proofs.Math.IntN.{pos, negsuc}
use Rattle.sets.specs.Sets.{bit, has}
use Rattle.sets.specs.Laws.Bits.{member_lt}
use Rattle.sets.specs.Laws.Subset.{has_true, one_has}
use Rattle.literals.specs.Literal.{Literal}
use Rattle.literals.specs.Truth.{holds}
use Rattle.literals.specs.Laws.{Proper, masks_hold, and_both}
use Rattle.sat.specs.Meaning.{every_filling, some_filling, obeys_rules, is_model}
use Rattle.sat.specs.Laws.Fillings.{every_all, all_every, some_witness, some_none}
use Rattle.problem.specs.Problem.{Problem, given}
use Rattle.consequence.specs.Meaning.{models, has_model, follows, collect, yes_consequence, no_consequence, consequence_of}
use Rattle.consequence.specs.Meaning.{theory_of, obeying, contradicts, forces_yes, forces_no, yes_forced, no_forced, ModelOf}
use Rattle.consequence.specs.Demand2.{FilledIn, OverChoice, Always, Demand2, NoFilling}
use Rattle.consequence.specs.Algorithm2.{ModelFilling}
use Rattle.consequence.specs.Laws.Forcing.{implied, implies, collect_in, collect_true, obeying_model, model_obeying}

-- ---- the given facts as a set

module _ (p : Problem) (proper : Proper p.facts) where
  -- a model makes the set of the given facts true
  pub models_obeying : (f : ℕ) → models p f ≡ obeying (theory_of p) (given p).yes (given p).no f
  unfolding models is_model obeying theory_of
  models_obeying f = ap (λ (x : Bool). obeys_rules f p.rules && x) (sym (masks_hold f p.facts proper))

  -- there is a model where the given facts do not contradict the rules
  pub has_contradicts : has_model p ≡ not (contradicts (theory_of p) (given p).yes (given p).no)
  unfolding has_model some_filling contradicts theory_of
  has_contradicts = λ i. not (every_filling p.variables (λ f. not (models_obeying f i)))

  -- the consequence is what the given facts force: the tests of the literals of a model and of a model of the set are the same
  same_test : (t : ℕ → ℕ → Bool)
      → collect p.variables (λ v. has p.choices v && every_filling p.variables (λ f. not (models p f) || t f v))
      ≡ collect p.variables
      (λ v. has p.choices v && every_filling p.variables (λ f. not (obeying (theory_of p) (given p).yes (given p).no f) || t f v))
  same_test t = λ i. collect p.variables (λ v. has p.choices v && every_filling p.variables (λ f. not (models_obeying f i) || t f v))

  pub yes_consequence_lem : yes_consequence p ≡ yes_forced (theory_of p) (given p).yes (given p).no
  unfolding yes_consequence follows holds yes_forced forces_yes theory_of
  yes_consequence_lem = same_test (λ f v. has f v)

  pub no_consequence_lem : no_consequence p ≡ no_forced (theory_of p) (given p).yes (given p).no
  unfolding no_consequence follows holds no_forced forces_no theory_of
  no_consequence_lem = same_test (λ f v. not (has f v))

  -- a model of the set is a model, and the other way round
  pub model_filling : (f : ℕ) → ModelOf (theory_of p) (given p).yes (given p).no f → ModelFilling p f
  unfolding theory_of
  model_filling f m = record { below = m.below; is_model = models_obeying f ∙ model_obeying (theory_of p) _ _ f m }

  pub filling_model : (f : ℕ) → ModelFilling p f → ModelOf (theory_of p) (given p).yes (given p).no f
  unfolding theory_of
  filling_model f m = obeying_model (theory_of p) (given p).yes (given p).no f m.below (sym (models_obeying f) ∙ m.is_model)

-- ---- for every filling

module _ (p : Problem) where
  follows_is : (l : Literal) → follows p l ≡ true → Always p l
  unfolding follows
  follows_is l e = record { always = λ f h m. implied _ _ (every_all _ _ e f h) m }

  is_follows : (l : Literal) → Always p l → follows p l ≡ true
  unfolding follows
  is_follows l a = all_every _ _ (λ f h. implies _ _ (λ m. a.always f h m))

  -- 9's condition: the problem has no model exactly where no filling is one
  pub no_filling : has_model p ≡ false → NoFilling p
  unfolding has_model
  no_filling e = record { none = λ f h m. true≢false (sym m ∙ some_none _ _ e f h) }

  pub some_filling_lem : has_model p ≡ true → NoFilling p → ⊥
  unfolding has_model
  some_filling_lem e n = let w = some_witness _ _ e in n.none w.0 w.1 w.2

  -- the literals over choices that follow, of either sign
  module _ (literal : ℕ → Literal) where
    abbrev following : ℕ
    following = collect p.variables (λ v. has p.choices v && follows p (literal v))

    follows_sound : (v : ℕ) → bit following v ≡ 1 → (bit p.choices v ≡ 1) × Always p (literal v)
    follows_sound v i =
        let t = and_both _ _ (collect_true p.variables (λ u. has p.choices u && follows p (literal u)) v i).1 in
        (has_true p.choices v t.0, follows_is _ t.1)

    follows_complete : p.choices < 2 ^ p.variables → (v : ℕ) → bit p.choices v ≡ 1 → Always p (literal v) → bit following v ≡ 1
    follows_complete below v c a =
        collect_in p.variables _ v (member_lt p.variables p.choices v c below)
        (ap₂ (λ (x : Bool) (y : Bool). x && y) (one_has p.choices v c) (is_follows (literal v) a))

  -- demand 2 of the consequence
  pub consequence_demand : p.choices < 2 ^ p.variables → Demand2 p (consequence_of p)
  unfolding yes_consequence no_consequence
  consequence_demand below = record { follows_always = sound; all_filled_in = complete }
    where
      sound : (l : Literal) → FilledIn (consequence_of p) l → OverChoice p l × Always p l
      sound (pos zero) i = absurd i
      sound (pos (suc v)) i = follows_sound (λ u. pos (suc u)) v i
      sound (negsuc v) i = follows_sound negsuc v i

      complete : (l : Literal) → OverChoice p l → Always p l → FilledIn (consequence_of p) l
      complete (pos zero) o a = absurd o
      complete (pos (suc v)) o a = follows_complete (λ u. pos (suc u)) below v o a
      complete (negsuc v) o a = follows_complete negsuc below v o a
