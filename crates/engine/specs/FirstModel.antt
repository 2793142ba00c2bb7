-- Always the same model (document 02, E5): what the first model is, for every filling, and that nothing is free in it. proofs/FirstModel shows it.
use Rattle.std.specs.Prelude.{◌≡◌, true, List, ℕ, ◌^◌, ◌<◌, Ok, Err}
use Rattle.dates.specs.declared.Moment.{Moment}
use Rattle.records.specs.Format.{Read, value, refused, OrderBook}
use Rattle.records.specs.Refusals.{refuses}
use Rattle.sat.specs.Meaning.{obeys_rules}
use Rattle.first_model.specs.Meaning.{First}
use Rattle.problem.specs.Problem.{Problem, rules_in_force}
use Rattle.consequence.specs.Demand2.{NoFilling}
use Rattle.consequence.specs.Algorithm2.{ModelFilling}
use Rattle.engine.specs.Calls.{ModelAnswer, ModelCall}

-- What is answered is a model of the problem and comes before every other one. A problem is refused only where no filling is a model.
-- `answer_first` shows it of `model_answer`.
abbrev pub AnswersFirst : Read Problem → ModelAnswer → Type 0
AnswersFirst (value p end) (Ok f) = First (ModelFilling p) f
AnswersFirst (value p end) (Err refusal) = NoFilling p
AnswersFirst (refused number place) r = r ≡ refuses number place

-- The same answer to the bytes s and to the bytes t at a moment. `equal_bytes` shows it where they are equal, `same_model` where they read as two books as
-- below, and
-- `reordered_model` where only the order of the rules differs.
pub record EqualModels (moment : Moment) (s t : List ℕ) : Type 0 where
  pub same : {r o : ModelAnswer} → ModelCall s moment r → ModelCall t moment o → r ≡ o

-- Two books over the same variables with the same given facts, whose rules in force the same fillings obey. Choices and costs may differ.
pub record SameObeyed (moment : Moment) (b c : OrderBook) : Type 0 where
  pub same_variables : b.header.variables ≡ c.header.variables
  pub same_facts : b.facts ≡ c.facts
  pub there : (f : ℕ) → f < 2 ^ b.header.variables → obeys_rules f (rules_in_force moment b.rules) ≡ true → obeys_rules f (rules_in_force moment c.rules) ≡
      true
  pub back : (f : ℕ) → f < 2 ^ c.header.variables → obeys_rules f (rules_in_force moment c.rules) ≡ true → obeys_rules f (rules_in_force moment b.rules) ≡
      true
