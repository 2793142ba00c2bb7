-- The starred orders at the counter in one table, computed from the meanings.
use Rattle.std.specs.Prelude.{◌≡◌, refl, List, [], ◌∷◌, map, ℕ, pos, negsuc, None, Some, Ok}
use Rattle.std.specs.Int.Count.{ones, count_trailing_zeros}
use Rattle.sets.specs.Sets.{bit, has, insert, subset, disjoint, diff, members_from, members_below, members}
use Rattle.dates.specs.Calendar.{date_of, days_of_months, days_of_years, day_number, weekday}
use Rattle.dates.specs.Windows.{is_moment, is_open, in_force}
use Rattle.dates.specs.declared.Moment.{Moment}
use Rattle.literals.specs.Literal.{Literal, byte_of, literals_of}
use Rattle.literals.specs.Truth.{holds, obeys, all_hold, yes_bit, no_bit, yes_mask, no_mask, all_hold_masks}
use Rattle.literals.specs.declared.LiteralSet.{LiteralSet}
use Rattle.records.specs.Limits.{max_log}
use Rattle.records.specs.Format.{Read}
use Rattle.records.specs.Refusals.{refuses as refusal}
use Rattle.book.specs.Readings.{read_computed}
use Rattle.book.specs.Answer.{table, padded}
use Rattle.book.specs.Orders.{order_a, order_b, order_c, order_d, order_e, order_f, order_g, order_h, order_i, order_j}
use Rattle.book.specs.Orders.{order_empty_rule, order_nine_literals, order_either, order_fewer_facts, order_higher_goal}
use Rattle.sat.specs.Meaning.{every_under, every_filling, some_filling, obeys_rules, is_model}
use Rattle.first_model.specs.Meaning.{weight, comes_before, first_under, first_filling}
use Rattle.problem.specs.Problem.{Problem, rules_in_force, problem_of, cost_of}
use Rattle.consequence.specs.Meaning.{models, has_model, follows, collect, yes_consequence, no_consequence, theory_of, obeying, contradicts, forces_yes}
use Rattle.consequence.specs.Meaning.{forces_no, yes_forced, no_forced}
use Rattle.items.specs.Weights.{sum_below}
use Rattle.step.specs.Meaning.{Question, question_of, set_cost, yes_goals, no_goals, goals, goal_literal, reasons_on, reasons_off, against_on, against_off, refutes}
use Rattle.step.specs.Meaning.{is_candidate, candidate_cost, before, earlier, first_of, candidate, candidates_for, candidates_below, candidates, all_known}
use Rattle.step.specs.Meaning.{the_step, Answer, new_on, new_off, step_from, answer_with, step_of}
use Rattle.step.specs.LowerGoalFirst.{lower_goal_first, lower_goal_candidate, lower_goal_step}
use Rattle.log_form.specs.Format.{list_bytes, two_bytes, four_bytes, record_bytes, records_bytes, ok_bytes, log_bytes}
use Rattle.log_writer.specs.Meaning.{costs_written, with_new, run_from, run_of, run_for}
use Rattle.engine.specs.Calls.{read_at, posed, with_model, first_model, model_answer, consequence_answer, between, step_says, step_for, step_answer}
use Rattle.engine.specs.Calls.{log_outcome, log_answer, buffer_after}
use Rattle.engine.specs.Calls.{ModelAnswer, ConsequenceAnswer, StepAnswer, LogAnswer, log_written}

abbrev pub set : ℕ → ℕ → LiteralSet
set y n = record { yes = y; no = n }

-- The definitions that the meaning of a step computes with, and those of a book and its models, named once each.
unfoldable pub computed : Question → Answer
unfolding step_of answer_with step_from new_on new_off the_step all_known count_trailing_zeros candidates candidates_below candidates_for candidate first_of earlier before
    candidate_cost is_candidate refutes against_on against_off reasons_on reasons_off goal_literal goals no_goals yes_goals set_cost sum_below cost_of yes_forced
    no_forced forces_yes forces_no contradicts obeying ones
computed q = step_of q

unfoldable pub read_and_posed : Moment → List ℕ → Read Problem
unfolding problem_of theory_of table padded yes_consequence no_consequence follows has_model models collect is_model obeys_rules some_filling every_filling
    every_under holds obeys all_hold all_hold_masks bit has insert subset disjoint diff read_computed yes_mask yes_bit no_mask no_bit posed read_at rules_in_force in_force
    is_open is_moment weekday day_number days_of_years days_of_months sum_below
read_and_posed moment s = posed moment s

unfoldable pub first_computed : Problem → ℕ
unfolding model_answer first_model first_filling first_under comes_before weight
first_computed p = first_model p

-- ---- the orders

-- An order's bytes, its first model, its consequence, the answer of the log's call and the log's bytes; or its refusal, and then no log.
pub record OrderRow : Type 0 where
  pub bytes : List ℕ
  pub model : ModelAnswer
  pub consequence : ConsequenceAnswer
  pub answer : LogAnswer
  pub log : List ℕ

abbrev pub refuses : List ℕ → ℕ → ℕ → OrderRow
refuses s number place =
    record { bytes = s; model = refusal number place; consequence = refusal number place; answer = refusal number place; log = [] }

abbrev pub logs : List ℕ → ℕ → LiteralSet → ℕ → ℕ → ℕ → List ℕ → OrderRow
logs s m c size steps total bytes =
    record { bytes = s; model = Ok m; consequence = Ok c; answer = log_written size steps total; log = bytes }

-- In c the first model says yes of 1 2 3 4 5 and the consequence is 1 2 3 4, in d of 1, which follows, in g of none, where -1 follows, in h of 1, in i of
-- 1 2 3, which follow.
unfoldable pub orders : List OrderRow
orders =
    refuses order_a 1 0
    ∷ logs order_b 0 (set 0 0) 7 0 0 (0x4F ∷ 0x4B ∷ 0 ∷ 0 ∷ 0 ∷ 0 ∷ 0 ∷ [])
    ∷ logs order_c 31 (set 15 0) 26 2 20
    (0x53 ∷ 0x54 ∷ 2 ∷ 1 ∷ 1 ∷ 1 ∷ 2 ∷ 0 ∷ 8 ∷ 0x53 ∷ 0x54 ∷ 4 ∷ 2 ∷ 2 ∷ 3 ∷ 1 ∷ 4 ∷ 0 ∷ 12 ∷ 0x4F ∷ 0x4B ∷ 2 ∷ 0 ∷ 0 ∷ 0 ∷ 20 ∷ [])
    ∷ logs order_d 1 (set 1 0) 15 1 9 (0x53 ∷ 0x54 ∷ 1 ∷ 0 ∷ 1 ∷ 1 ∷ 0 ∷ 9 ∷ 0x4F ∷ 0x4B ∷ 1 ∷ 0 ∷ 0 ∷ 0 ∷ 9 ∷ [])
    ∷ refuses order_e 9 0
    ∷ refuses order_f 9 0
    ∷ logs order_g 0 (set 0 1) 15 1 5 (0x53 ∷ 0x54 ∷ 0xFF ∷ 0 ∷ 1 ∷ 0xFF ∷ 0 ∷ 5 ∷ 0x4F ∷ 0x4B ∷ 1 ∷ 0 ∷ 0 ∷ 0 ∷ 5 ∷ [])
    ∷ logs order_h 1 (set 1 0) 7 0 0 (0x4F ∷ 0x4B ∷ 0 ∷ 0 ∷ 0 ∷ 0 ∷ 0 ∷ [])
    ∷ logs order_i 7 (set 7 0) 17 1 2 (0x53 ∷ 0x54 ∷ 2 ∷ 1 ∷ 1 ∷ 2 ∷ 2 ∷ 3 ∷ 0 ∷ 2 ∷ 0x4F ∷ 0x4B ∷ 1 ∷ 0 ∷ 0 ∷ 0 ∷ 2 ∷ [])
    ∷ refuses order_j 6 12
    ∷ []

-- A rule with no literals: no filling obeys it (document 02, E2). A count of 9 is refused in its record.
unfoldable pub count_orders : List OrderRow
count_orders = refuses order_empty_rule 9 0 ∷ refuses order_nine_literals 5 16 ∷ []

-- A rule (1, 2) and nothing that follows: the first model says no of 1 and yes of 2 (document 02, E5).
unfoldable pub either_orders : List OrderRow
either_orders = logs order_either 2 (set 0 0) 7 0 0 (0x4F ∷ 0x4B ∷ 0 ∷ 0 ∷ 0 ∷ 0 ∷ 0 ∷ []) ∷ []

-- On equal cost fewer facts come first, then the lower goal (document 02, E6). 4 follows from 1 and 2 together and from 3 alone: the reason is 3. Where 4
-- follows from 1 and 2 together and 5 from 3 alone, 5 comes first.
unfoldable pub fewer_orders : List OrderRow
fewer_orders =
    logs order_fewer_facts 15 (set 15 0) 16 1 11
    (0x53 ∷ 0x54 ∷ 4 ∷ 1 ∷ 3 ∷ 1 ∷ 4 ∷ 0 ∷ 11 ∷ 0x4F ∷ 0x4B ∷ 1 ∷ 0 ∷ 0 ∷ 0 ∷ 11 ∷ [])
    ∷ logs order_higher_goal 31 (set 31 0) 26 2 22
    (0x53 ∷ 0x54 ∷ 5 ∷ 1 ∷ 3 ∷ 1 ∷ 5 ∷ 0 ∷ 11 ∷ 0x53 ∷ 0x54 ∷ 4 ∷ 2 ∷ 1 ∷ 2 ∷ 1 ∷ 4 ∷ 0 ∷ 11 ∷ 0x4F ∷ 0x4B ∷ 2 ∷ 0 ∷ 0 ∷ 0 ∷ 22 ∷ [])
    ∷ []

-- The moment of the rows: 17 November 2026, noon.
abbrev pub noon : Moment
noon = record { date = date_of 2026 11 17; minute = 720 }

-- What the meanings say of an order's bytes at a moment, with the shortest buffer that serves.
unfoldable pub meant : Moment → List ℕ → OrderRow
meant moment s =
    record {
      bytes = s;
      model = model_answer (posed moment s);
      consequence = consequence_answer (posed moment s);
      answer = log_answer (log_outcome max_log (posed moment s));
      log = buffer_after (log_outcome max_log (posed moment s)) [];
    }

pub orders_agree : map (λ (r : OrderRow). meant noon r.bytes) orders ≡ orders
unfolding orders meant computed read_and_posed first_computed order_a order_b order_c order_d order_e order_f order_g order_h order_i order_j consequence_answer
    with_model log_outcome log_answer buffer_after run_for run_of run_from with_new log_bytes costs_written ok_bytes records_bytes record_bytes list_bytes
    literals_of two_bytes four_bytes byte_of members members_below members_from
orders_agree = refl

pub count_orders_agree : map (λ (r : OrderRow). meant noon r.bytes) count_orders ≡ count_orders
unfolding count_orders meant read_and_posed first_computed order_empty_rule order_nine_literals consequence_answer with_model log_outcome log_answer buffer_after
count_orders_agree = refl

pub either_orders_agree : map (λ (r : OrderRow). meant noon r.bytes) either_orders ≡ either_orders
unfolding either_orders meant computed read_and_posed first_computed order_either consequence_answer with_model log_outcome log_answer buffer_after run_for run_of
    run_from log_bytes costs_written ok_bytes records_bytes four_bytes
either_orders_agree = refl

pub fewer_orders_agree : map (λ (r : OrderRow). meant noon r.bytes) fewer_orders ≡ fewer_orders
unfolding fewer_orders meant computed read_and_posed first_computed order_fewer_facts order_higher_goal consequence_answer with_model log_outcome log_answer
    buffer_after run_for run_of run_from with_new log_bytes costs_written ok_bytes records_bytes record_bytes list_bytes literals_of two_bytes four_bytes byte_of members
    members_below members_from
fewer_orders_agree = refl

-- ---- single steps

-- An order's bytes, a known set, and the answer of the next step's call.
pub record KnownRow : Type 0 where
  pub bytes : List ℕ
  pub yes : ℕ
  pub no : ℕ
  pub answer : StepAnswer

abbrev from : List ℕ → ℕ → ℕ → StepAnswer → KnownRow
from s y n a = record { bytes = s; yes = y; no = n; answer = a }

abbrev next : Literal → LiteralSet → LiteralSet → ℕ → StepAnswer
next goal reasons new cost = Ok (Some (record { goal = goal; reasons = reasons; new = new; cost = cost }))

-- P from 1 3, from 1 2 3, from 1 2 3 4 (nothing left) and from 1 alone, without fact 3 (10); then d, g, h and i from their facts.
unfoldable pub steps : List KnownRow
steps =
    from order_c 5 0 (next (pos 2) (set 1 0) (set 2 0) 8)
    ∷ from order_c 7 0 (next (pos 4) (set 6 0) (set 8 0) 12)
    ∷ from order_c 15 0 (Ok None)
    ∷ from order_c 1 0 (refusal 10 0)
    ∷ from order_d 0 0 (next (pos 1) (set 0 0) (set 1 0) 9)
    ∷ from order_g 0 0 (next (negsuc 0) (set 0 0) (set 0 1) 5)
    ∷ from order_h 1 0 (Ok None)
    ∷ from order_i 1 0 (next (pos 2) (set 1 0) (set 6 0) 2)
    ∷ []

pub steps_agree : map (λ (r : KnownRow). from r.bytes r.yes r.no (step_answer r.yes r.no (posed noon r.bytes))) steps ≡ steps
unfolding steps computed read_and_posed order_c order_d order_g order_h order_i step_answer step_for step_says between with_model
steps_agree = refl

-- What is said in the order before E6, of a known set that is not refused.
unfoldable pub lower_goal_answer : ℕ → ℕ → Read Problem → StepAnswer
unfolding with_model
lower_goal_answer on off m = with_model (λ p. step_says (lower_goal_step (question_of p (set on off)))) refusal m

-- From 1 2 3 the reason for 4 is 3, before E6 it was 1 2; and 5 from 3 comes first, before E6 it was 4 from 1 2.
unfoldable pub fewer_steps : List KnownRow
fewer_steps =
    from order_fewer_facts 7 0 (next (pos 4) (set 4 0) (set 8 0) 11)
    ∷ from order_higher_goal 7 0 (next (pos 5) (set 4 0) (set 16 0) 11)
    ∷ []

unfoldable pub lower_goal_steps : List KnownRow
lower_goal_steps =
    from order_fewer_facts 7 0 (next (pos 4) (set 3 0) (set 8 0) 11)
    ∷ from order_higher_goal 7 0 (next (pos 4) (set 3 0) (set 8 0) 11)
    ∷ []

pub fewer_steps_agree : map (λ (r : KnownRow). from r.bytes r.yes r.no (step_answer r.yes r.no (posed noon r.bytes))) fewer_steps ≡ fewer_steps
unfolding fewer_steps computed read_and_posed order_fewer_facts order_higher_goal step_answer step_for step_says between with_model
fewer_steps_agree = refl

pub lower_goal_steps_agree : map (λ (r : KnownRow). from r.bytes r.yes r.no (lower_goal_answer r.yes r.no (posed noon r.bytes))) lower_goal_steps
    ≡ lower_goal_steps
unfolding lower_goal_steps lower_goal_answer lower_goal_step lower_goal_candidate lower_goal_first computed read_and_posed order_fewer_facts order_higher_goal step_says
    with_model
lower_goal_steps_agree = refl
