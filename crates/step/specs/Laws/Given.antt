-- What the given facts force over a theory, and the known sets between them and it. Assumes nothing.
use Rattle.std.specs.Prelude.{◌≡◌, Bool, true, false, cond, List, ℕ, ◌^◌, ◌<◌}
use Rattle.std.proofs.Common.{arith}
use Rattle.sets.specs.Sets.{bit, Within, Apart}
use Rattle.sets.specs.Laws.Bits.{bit_le, member_lt}
use Rattle.sets.specs.Laws.Subset.{within_refl, within_by}
use Rattle.literals.specs.declared.LiteralSet.{LiteralSet}
use Rattle.propagation.specs.Promises.{digit}
use Rattle.consequence.specs.Meaning.{Theory, contradicts, ModelOf}
use Rattle.consequence.specs.Laws.Forcing.{Exactly, yes_exactly, no_exactly, forced_model, contradicts_not}
use Rattle.step.specs.Meaning.{asking}
use Rattle.step.specs.IsStep.{ForcedBy, Between, Sound}

module _ {t : Theory} {on off more-on more-off : ℕ} where
  -- a model of a set is one of each set within it
  pub model_fewer : Within on more-on → Within off more-off → (f : ℕ) → ModelOf t more-on more-off f → ModelOf t on off f
  model_fewer y n f m =
      record {
        below = m.below;
        keeps = record { keeps = λ v. omega (arith, y.keeps v, m.keeps.keeps v) };
        avoids = record { avoids = λ v. omega (arith, n.keeps v, m.avoids.avoids v) };
        obeyed = m.obeyed;
      }

-- ---- what the given facts force

module _ {t : Theory} {c facts : LiteralSet} (fc : ForcedBy t c facts) where
  -- every model of the given facts makes all of the consequence true
  pub consequence_model : (f : ℕ) → ModelOf t facts.yes facts.no f → ModelOf t c.yes c.no f
  consequence_model f m = rw (fc.yes_forced, fc.no_forced) (forced_model t facts.yes facts.no f m)

  -- and so does every model of what holds them
  pub known_forces : {known : LiteralSet} → Between facts known c → (f : ℕ) → ModelOf t known.yes known.no f → ModelOf t c.yes c.no f
  known_forces b f m = consequence_model f (model_fewer b.facts_yes b.facts_no f m)

module _ {t : Theory} (below : t.choices < 2 ^ t.variables) {c facts : LiteralSet} (fc : ForcedBy t c facts) where
  -- what it says of one sign: exactly the choices that have its digit in every model
  pub exact : (says : Bool) → Exactly t facts.yes facts.no (digit says) (cond says c.yes c.no)
  exact true = rw fc.yes_forced (yes_exactly t facts.yes facts.no)
  exact false = rw fc.no_forced (no_exactly t facts.yes facts.no)

  pub over_choices_lem : (says : Bool) → Within (cond says c.yes c.no) t.choices
  over_choices_lem says = within_by _ _ (λ v e. ((exact says).sound v e).0)

  -- a given fact over a choice is forced: it has its digit in every model
  fact_digit : (says : Bool) (v f : ℕ) → bit (cond says facts.yes facts.no) v ≡ 1 → ModelOf t facts.yes facts.no f → bit f v ≡ digit says
  fact_digit true v f e m = omega (arith, e, m.keeps.keeps v, bit_le f v)
  fact_digit false v f e m = omega (arith, e, m.avoids.avoids v)

  pub given_forced : (says : Bool) → Within (cond says facts.yes facts.no) t.choices
      → Within (cond says facts.yes facts.no) (cond says c.yes c.no)
  given_forced says w =
      within_by _ _ (λ v e.
      let o : bit t.choices v ≡ 1 = omega (arith, e, w.keeps v, bit_le t.choices v) in
      (exact says).complete v (member_lt _ t.choices v o below) o (λ f m. fact_digit says v f e m))

  -- so given facts over choices lie between themselves and what they force
  pub given_between : Within facts.yes t.choices → Within facts.no t.choices → Between facts facts c
  given_between y n =
      record { facts_yes = within_refl _; facts_no = within_refl _; known_yes = given_forced true y; known_no = given_forced false n }

  -- where the given facts do not contradict the rules
  module _ (some : contradicts t facts.yes facts.no ≡ false) where
    pub consequence_has : (f : ℕ) × ModelOf t c.yes c.no f
    consequence_has = let m = contradicts_not t facts.yes facts.no some in (m.0, consequence_model fc m.0 m.1)

    pub consequence_apart : Apart c.yes c.no
    consequence_apart =
        let m = consequence_has in
        record { avoids = λ v. omega (arith, m.1.keeps.keeps v, m.1.avoids.avoids v) }

    -- a step can be asked for from any known set between them and what they force
    pub between_sound : (table : List (List ℕ)) {known : LiteralSet} → Between facts known c → Sound (asking t table c known)
    between_sound table b =
        record {
          choices_below = below;
          on_choices = over_choices_lem true;
          off_choices = over_choices_lem false;
          known_on = b.known_yes;
          known_off = b.known_no;
          model = consequence_has;
          forces = known_forces fc b;
        }
