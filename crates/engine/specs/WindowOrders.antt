-- A rule in force and the same rule out of it, and moments that cannot be, computed from the meanings (document 02, E7).
use Rattle.std.specs.Prelude.{◌≡◌, refl, List, [], ◌∷◌, map, ℕ}
use Rattle.dates.specs.Calendar.{date_of}
use Rattle.dates.specs.declared.Moment.{Moment}
use Rattle.dates.specs.declared.Window.{Window}
use Rattle.log_form.specs.Format.{list_bytes, two_bytes, four_bytes, record_bytes, records_bytes, ok_bytes, log_bytes}
use Rattle.log_writer.specs.Meaning.{costs_written, with_new, run_from, run_of, run_for}
use Rattle.sets.specs.Sets.{members_from, members_below, members}
use Rattle.literals.specs.Literal.{byte_of, literals_of}
use Rattle.book.specs.Orders.{order_a, one_rule, season, window_bytes}
use Rattle.engine.specs.Calls.{with_model, consequence_answer, log_outcome, log_answer, buffer_after}
use Rattle.engine.specs.Orders.{OrderRow, refuses, logs, set, meant, computed, read_and_posed, first_computed}

-- A moment, and a row of it.
pub record MomentRow : Type 0 where
  pub moment : Moment
  pub row : OrderRow

abbrev moment_of : ℕ → ℕ → ℕ → ℕ → Moment
moment_of y m d minute = record { date = date_of y m d; minute = minute }

-- U = V = 1, rule (1) with a window. In force it is order d: 1 follows, in one step of cost 9. Out of force nothing follows, and the first model says no.
abbrev row_in_force : Window → Moment → MomentRow
row_in_force w m =
    record {
      moment = m;
      row = logs (one_rule (window_bytes w)) 1 (set 1 0) 15 1 9 (0x53 ∷ 0x54 ∷ 1 ∷ 0 ∷ 1 ∷ 1 ∷ 0 ∷ 9 ∷ 0x4F ∷ 0x4B ∷ 1 ∷ 0 ∷ 0 ∷ 0 ∷ 9 ∷ []);
    }

abbrev out_of_force : Window → Moment → MomentRow
out_of_force w m = record { moment = m; row = logs (one_rule (window_bytes w)) 0 (set 0 0) 7 0 0 (0x4F ∷ 0x4B ∷ 0 ∷ 0 ∷ 0 ∷ 0 ∷ 0 ∷ []) }

-- Every day of the week, all day, in the first days of 2000; and Saturdays.
abbrev leap_day : Window
leap_day = record { first_day = date_of 2000 2 29; end_day = date_of 2000 3 1; weekdays = 127; first_minute = 0; end_minute = 1440 }

abbrev on_weekdays : ℕ → Window
on_weekdays days = record { first_day = date_of 2000 1 1; end_day = date_of 2099 12 31; weekdays = days; first_minute = 0; end_minute = 1440 }

-- The season is from 1 March 2024, a Friday, on and before 1 November 2024, a Friday; Monday to Friday, from 9:00 on and before 17:30.
-- The first day, the day before; the day before the end day, the end day; a Saturday and the Monday after it; the first minute, the one before; the minute
-- before the end minute, the end minute.
unfoldable pub season_rows : List MomentRow
season_rows =
    row_in_force season (moment_of 2024 3 1 720)
    ∷ out_of_force season (moment_of 2024 2 29 720)
    ∷ row_in_force season (moment_of 2024 10 31 720)
    ∷ out_of_force season (moment_of 2024 11 1 720)
    ∷ out_of_force season (moment_of 2024 3 2 720)
    ∷ row_in_force season (moment_of 2024 3 4 720)
    ∷ row_in_force season (moment_of 2024 3 1 540)
    ∷ out_of_force season (moment_of 2024 3 1 539)
    ∷ row_in_force season (moment_of 2024 3 1 1049)
    ∷ out_of_force season (moment_of 2024 3 1 1050)
    ∷ []

-- 29 February 2000 is a day; 1 January 2000 was a Saturday, 30 December 2099 is a Wednesday.
unfoldable pub calendar_rows : List MomentRow
calendar_rows =
    row_in_force leap_day (moment_of 2000 2 29 0)
    ∷ row_in_force leap_day (moment_of 2000 2 29 1439)
    ∷ out_of_force leap_day (moment_of 2000 3 1 0)
    ∷ row_in_force (on_weekdays 0x20) (moment_of 2000 1 1 0)
    ∷ out_of_force (on_weekdays 0x5F) (moment_of 2000 1 1 0)
    ∷ row_in_force (on_weekdays 0x04) (moment_of 2099 12 30 0)
    ∷ out_of_force (on_weekdays 0x7B) (moment_of 2099 12 30 0)
    ∷ []

-- Moments that cannot be: 29 February 2099, 31 April, years 1999 and 2100, month 13, day 0, minute 1,440. 14 at 0, before the book, so also where no byte
-- is left of it.
unfoldable pub impossible_moments : List Moment
impossible_moments =
    moment_of 2099 2 29 720
    ∷ moment_of 2024 4 31 720
    ∷ moment_of 1999 12 31 720
    ∷ moment_of 2100 1 1 720
    ∷ moment_of 2024 13 1 720
    ∷ moment_of 2024 3 0 720
    ∷ moment_of 2024 3 1 1440
    ∷ []

pub season_agrees : map (λ (r : MomentRow). meant r.moment r.row.bytes) season_rows ≡ map (λ (r : MomentRow). r.row) season_rows
unfolding season_rows meant computed read_and_posed first_computed one_rule window_bytes consequence_answer with_model log_outcome log_answer buffer_after run_for run_of
    run_from with_new log_bytes costs_written ok_bytes records_bytes record_bytes list_bytes literals_of two_bytes four_bytes byte_of members members_below members_from
season_agrees = refl

pub calendar_agrees : map (λ (r : MomentRow). meant r.moment r.row.bytes) calendar_rows ≡ map (λ (r : MomentRow). r.row) calendar_rows
unfolding calendar_rows meant computed read_and_posed first_computed one_rule window_bytes consequence_answer with_model log_outcome log_answer buffer_after run_for
    run_of
    run_from with_new log_bytes costs_written ok_bytes records_bytes record_bytes list_bytes literals_of two_bytes four_bytes byte_of members members_below members_from
calendar_agrees = refl

pub impossible_agree : map (λ m. meant m order_a) impossible_moments ≡ map (λ m. refuses order_a 14 0) impossible_moments
unfolding impossible_moments meant read_and_posed first_computed order_a consequence_answer with_model log_outcome log_answer buffer_after
impossible_agree = refl
