-- The moment of a call (E7): one that cannot be is refused first, and a book without windows is answered as before at every other one.
-- Assumes nothing.
use mathlib.Core.Path.{◌≡◌, refl, ap, ◌∙◌}
use mathlib.Core.Bool.{true, false}
use mathlib.Core.List.{List, [], ◌∷◌, map}
use Prim.Native.Nat.{ℕ}
use Rattle.dates.specs.Windows.{is_moment, in_force}
use Rattle.dates.specs.declared.Moment.{Moment}
use Rattle.records.specs.Format.{Read, value, refused, Rule, OrderBook, read_book}
use Rattle.problem.specs.Problem.{Problem, rules_in_force, problem_of}
use Rattle.engine.specs.Calls.{posed, model_answer, consequence_answer, step_answer}
use Rattle.engine.specs.Moments.{AnswersAs, ResumesAs, RefusesMoment, AllAlways, all_rules, AnswersAsBefore}
use Rattle.engine.proofs.PosedLaws.{posed_impossible, posed_book}

-- the calls answer by what is posed
answers_as : {m : Read Problem} (s : List ℕ) (moment : Moment) → posed moment s ≡ m → AnswersAs m s moment
answers_as s moment e =
    record {
      model = λ c. c.said ∙ ap model_answer e;
      consequence = λ c. c.said ∙ ap consequence_answer e;
      next_step = λ {on} {off} c. c.said ∙ ap (step_answer on off) e;
      log = λ c. rw e at c.said;
    }

resumes_as : {m : Read Problem} (s : List ℕ) (moment : Moment) → posed moment s ≡ m → ResumesAs m s moment
resumes_as s moment e = record { resume_log = λ c. rw e at c.said }

pub impossible_moment : (s : List ℕ) (moment : Moment) → is_moment moment ≡ false → RefusesMoment s moment
impossible_moment s moment e = answers_as s moment (posed_impossible moment s e)

pub impossible_resumed : (s : List ℕ) (moment : Moment) → is_moment moment ≡ false → ResumesAs (refused 14 0) s moment
impossible_resumed s moment e = resumes_as s moment (posed_impossible moment s e)

-- all rules are in force
all_in_force : (moment : Moment) (rs : List Rule) → AllAlways rs → rules_in_force moment rs ≡ map (λ (r : Rule). r.literals) rs
unfolding rules_in_force in_force
all_in_force moment [] a = refl
all_in_force moment (r ∷ rs) a = rw a.0 (ap (λ k. r.literals ∷ k) (all_in_force moment rs a.1))

-- the problem that is posed
posed_all : (s : List ℕ) (moment : Moment) {b : OrderBook} {end : ℕ} → read_book s ≡ value b end → AllAlways b.rules → is_moment moment ≡ true
    → posed moment s ≡ value (all_rules b) end
unfolding problem_of all_rules
posed_all s moment {b} {end} e a h =
    posed_book moment s h e
    ∙ ap (λ rs. value (record {
      variables = (problem_of moment b).variables;
      rules = rs;
      choices = (problem_of moment b).choices;
      facts = b.facts;
      costs = (problem_of moment b).costs;
    }) end) (all_in_force moment b.rules a)

pub as_before : (s : List ℕ) (moment : Moment) {b : OrderBook} {end : ℕ} → read_book s ≡ value b end → AllAlways b.rules → is_moment moment ≡ true
    → AnswersAsBefore b end s moment
as_before s moment e a h = answers_as s moment (posed_all s moment e a h)

pub resumed_as_before : (s : List ℕ) (moment : Moment) {b : OrderBook} {end : ℕ} → read_book s ≡ value b end → AllAlways b.rules
    → is_moment moment ≡ true → ResumesAs (value (all_rules b) end) s moment
resumed_as_before s moment e a h = resumes_as s moment (posed_all s moment e a h)
