-- What a set of literals over the choices contradicts and forces over the choices depends only on the fillings of the choices that some filling obeying the
-- rules extends. For any number of variables. Assumes nothing.
use Rattle.std.specs.Prelude.{◌≡◌, refl, Bool, true, false, not, ◌&&◌, List, ℕ, ◌<◌, min}
use Rattle.std.proofs.Common.{sym, ap, ap₂, ◌∙◌, arith, eqb-true, eq-eqb}
use Rattle.sets.specs.Sets.{bit, inter, Within}
use Rattle.sets.specs.Laws.Bits.{bit_le, bit_inter, member_lt}
use Rattle.sets.specs.Laws.Subset.{within_le, within_by}
use Rattle.literals.specs.Laws.{and_both}
use Rattle.literals.specs.Literal.{Literal}
use Rattle.literals.specs.Truth.{yes_mask, no_mask}
use Rattle.literals.specs.declared.LiteralSet.{LiteralSet}
use Rattle.propagation.specs.Promises.{digit}
use Rattle.sat.specs.Laws.Fillings.{every_all, all_every, some_witness, witness_some}
use Rattle.problem.specs.Problem.{Problem, given}
use Rattle.problem.specs.Proper.{ProperProblem}
use Rattle.consequence.specs.Meaning.{Theory, theory_of, contradicts, yes_forced, no_forced, ModelOf, NoModelOf, has_model, consequence_of}
use Rattle.consequence.specs.SameFillings.{Restriction, SameFillings, fillings_within, fillings_agree, SameChoices, SameForcing, SameOverChoices}
use Rattle.consequence.specs.Laws.Forcing.{implied, implies, contradicts_none, none_contradicts, Exactly, exactly_unique, yes_exactly, no_exactly}
use Rattle.consequence.specs.Laws.Problems.{has_contradicts, yes_consequence_lem, no_consequence_lem}

pub choices_back : {t u : Theory} → SameChoices t u → SameChoices u t
choices_back s =
    record {
      choices_same = sym s.choices_same;
      fillings_same = record { there = s.fillings_same.back; back = s.fillings_same.there };
      below = s.other_below;
      other_below = s.below;
    }

-- a choice of the one is a choice of the other
pub choice_there : {t u : Theory} → SameChoices t u → (v : ℕ) → bit t.choices v ≡ 1 → bit u.choices v ≡ 1
choice_there s v e = sym (ap (λ (n : ℕ). bit n v) s.choices_same) ∙ e

-- ---- a model that agrees on the choices

-- A model of a set with the rules of u that agrees with f on the choices.
pub record AgreeingModel (u : Theory) (on off f : ℕ) : Type 0 where
  pub filling : ℕ
  pub model : ModelOf u on off filling
  pub alike : (v : ℕ) → min (bit filling v) (bit u.choices v) ≡ min (bit f v) (bit u.choices v)

module _ {t u : Theory} (s : SameChoices t u) {on off : ℕ} (x : Within on t.choices) (y : Within off t.choices) where
  -- every model of a set over the choices with the rules of t has one
  pub agreeing_model : (f : ℕ) → ModelOf t on off f → AgreeingModel u on off f
  agreeing_model f m =
      record {
        filling = r.filling;
        model = record {
          below = r.below;
          keeps = record { keeps = λ v. omega (arith, alike v, same v, x.keeps v, m.keeps.keeps v) };
          avoids = record { avoids = λ v. omega (arith, alike v, same v, y.keeps v, m.avoids.avoids v, bit_le r.filling v) };
          obeyed = r.obeyed;
        };
        alike = alike;
      }
    where
      r : Restriction u (inter f t.choices)
      r = s.fillings_same.there (inter f t.choices) (record { filling = f; below = m.below; obeyed = m.obeyed; restricted = refl })

      same : (v : ℕ) → bit t.choices v ≡ bit u.choices v
      same v = ap (λ (n : ℕ). bit n v) s.choices_same

      alike : (v : ℕ) → min (bit r.filling v) (bit u.choices v) ≡ min (bit f v) (bit u.choices v)
      alike v =
          sym (bit_inter r.filling u.choices v) ∙ ap (λ (k : ℕ). bit k v) r.restricted ∙ bit_inter f t.choices v ∙ ap (min (bit f v)) (same v)

  none_there : NoModelOf u on off → NoModelOf t on off
  none_there n = record { none = λ f m. let b = agreeing_model f m in n.none b.filling b.model }

  digit_there : (v d : ℕ) → bit u.choices v ≡ 1 → ((g : ℕ) → ModelOf u on off g → bit g v ≡ d) → (f : ℕ) → ModelOf t on off f → bit f v ≡ d
  digit_there v d e h f m = let b = agreeing_model f m in omega (arith, b.alike v, h b.filling b.model, e, bit_le f v, bit_le b.filling v)

-- ---- the law

-- two tests that pass together
pub same_truth : (a b : Bool) → (a ≡ true → b ≡ true) → (b ≡ true → a ≡ true) → a ≡ b
same_truth true b there back = sym (there refl)
same_truth false true there back = back refl
same_truth false false there back = refl

module _ {t u : Theory} (s : SameChoices t u) {on off : ℕ} (x : Within on t.choices) (y : Within off t.choices) where
  back : SameChoices u t
  back = choices_back s

  on_other : Within on u.choices
  on_other = rw s.choices_same at x

  off_other : Within off u.choices
  off_other = rw s.choices_same at y

  -- what the set forces over the choices with the one it forces with the other
  forces_same : (d m : ℕ) → Exactly t on off d m → Exactly u on off d m
  forces_same d m k =
      record {
        below = omega (arith, s.other_below, s.choices_same, within_le m t.choices (within_by _ _ (λ v e. (k.sound v e).0)));
        sound = λ v e.
            let w = k.sound v e in
            (choice_there s v w.0, digit_there back on_other off_other v d w.0 w.1);
        complete = λ v h e a.
            let o = choice_there back v e in
            k.complete v (member_lt _ t.choices v o s.below) o (digit_there s x y v d e a);
      }

  pub same_forcing : SameForcing t u on off
  same_forcing =
      record {
        same_contradicts = same_truth _ _ (λ e. none_contradicts u on off (none_there back on_other off_other (contradicts_none t on off e)))
            (λ e. none_contradicts t on off (none_there s x y (contradicts_none u on off e)));
        same_yes = exactly_unique u on off 1 _ _ (forces_same 1 _ (yes_exactly t on off)) (yes_exactly u on off);
        same_no = exactly_unique u on off 0 _ _ (forces_same 0 _ (no_exactly t on off)) (no_exactly u on off);
      }

-- ---- the same for every filling

module _ {t u : Theory} {on off : ℕ} (k : SameForcing t u on off) where
  pub forcing_back : SameForcing u t on off
  forcing_back = record { same_contradicts = sym k.same_contradicts; same_yes = sym k.same_yes; same_no = sym k.same_no }

  pub same_none : NoModelOf t on off → NoModelOf u on off
  same_none n = contradicts_none u on off (sym k.same_contradicts ∙ none_contradicts t on off n)

  -- a choice that has a digit in every model with the one has it in every model with the other
  pub same_digit : (v : ℕ) (value : Bool) → v < t.variables → bit t.choices v ≡ 1 → ((f : ℕ) → ModelOf t on off f → bit f v ≡ digit value) → (f : ℕ)
      → ModelOf u on off f → bit f v ≡ digit value
  same_digit v true h e a = ((yes_exactly u on off).sound v (sym (ap (λ (n : ℕ). bit n v) k.same_yes) ∙ (yes_exactly t on off).complete v h e a)).1
  same_digit v false h e a = ((no_exactly u on off).sound v (sym (ap (λ (n : ℕ). bit n v) k.same_no) ∙ (no_exactly t on off).complete v h e a)).1

-- ---- two problems

module _ {p q : Problem} (w : ProperProblem p) (z : ProperProblem q) (s : SameOverChoices p q) where
  pub theories_same : SameChoices (theory_of p) (theory_of q)
  unfolding theory_of
  theories_same =
      record { choices_same = s.same_choices; fillings_same = s.same_fillings; below = w.choices_below; other_below = z.choices_below }

  pub given_same : given p ≡ given q
  given_same = ap (λ (l : List Literal). record { yes = yes_mask l; no = no_mask l }) s.same_facts

  -- the law, of the given facts
  facts_forcing : SameForcing (theory_of p) (theory_of q) (given p).yes (given p).no
  unfolding theory_of
  facts_forcing = same_forcing theories_same w.yes_facts w.no_facts

  -- one has a model exactly where the other has
  pub same_has_model : has_model p ≡ has_model q
  same_has_model =
      has_contradicts p w.facts_proper
      ∙ ap not (facts_forcing.same_contradicts ∙ ap (λ (g : LiteralSet). contradicts (theory_of q) g.yes g.no) given_same)
      ∙ sym (has_contradicts q z.facts_proper)

  -- and the same is filled in
  pub same_consequence : consequence_of p ≡ consequence_of q
  same_consequence = ap₂ (λ (y : ℕ) (n : ℕ). record { yes = y; no = n })
      (yes_consequence_lem p w.facts_proper ∙ facts_forcing.same_yes ∙ ap (λ (g : LiteralSet). yes_forced (theory_of q) g.yes g.no) given_same
      ∙ sym (yes_consequence_lem q z.facts_proper))
      (no_consequence_lem p w.facts_proper ∙ facts_forcing.same_no ∙ ap (λ (g : LiteralSet). no_forced (theory_of q) g.yes g.no) given_same
      ∙ sym (no_consequence_lem q z.facts_proper))

-- ---- the test that is computed

restrictions_within : {t u : Theory} → fillings_within t u ≡ true → (g : ℕ) → Restriction t g → Restriction u g
unfolding fillings_within
restrictions_within {t} {u} e g r =
    let w = some_witness _ _ (implied _ _ (every_all _ _ e r.filling r.below) r.obeyed) in
    let both = and_both _ _ w.2 in
    record { filling = w.0; below = w.1; obeyed = both.0; restricted = eqb-true _ _ both.1 ∙ r.restricted }

within_restrictions : {t u : Theory} → ((g : ℕ) → Restriction t g → Restriction u g) → fillings_within t u ≡ true
unfolding fillings_within
within_restrictions {t} {u} h =
    all_every _ _ (λ f l. implies _ _ (λ o.
    let r = h (inter f t.choices) (record { filling = f; below = l; obeyed = o; restricted = refl }) in
    witness_some _ _ r.filling r.below (ap₂ (λ (x : Bool) (y : Bool). x && y) r.obeyed (eq-eqb _ _ r.restricted))))

pub fillings_agree_lem : {t u : Theory} → fillings_agree t u ≡ true → SameFillings t u
unfolding fillings_agree
fillings_agree_lem e = let both = and_both _ _ e in record { there = restrictions_within both.0; back = restrictions_within both.1 }

pub agree_fillings : {t u : Theory} → SameFillings t u → fillings_agree t u ≡ true
unfolding fillings_agree
agree_fillings s = ap₂ (λ (x : Bool) (y : Bool). x && y) (within_restrictions s.there) (within_restrictions s.back)
