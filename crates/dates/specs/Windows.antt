-- Moments, windows, and when a rule is in force (document 02, E7).
use Rattle.std.specs.Prelude.{Bool, true, not, ◌&&◌, ℕ, leb, ltb}
use Rattle.sets.specs.Sets.{has}
use Rattle.dates.specs.Calendar.{is_date, earlier, weekday}
use Rattle.dates.specs.declared.Moment.{Moment}
use Rattle.dates.specs.declared.Window.{Window}
use Rattle.dates.specs.declared.Applies.{Applies}

-- A minute of a day: 0 to 1,439.
unfoldable pub is_minute : ℕ → Bool
is_minute n = ltb n 1440

-- A moment can be: a date, and a minute of the day.
unfoldable pub is_moment : Moment → Bool
is_moment m = is_date m.date && is_minute m.minute

-- A window can be: two dates, the end day after the first; a weekday and no eighth; a minute, and an end minute after it and at most 1,440.
unfoldable pub is_window : Window → Bool
is_window w =
    is_date w.first_day && is_date w.end_day && earlier w.first_day w.end_day && leb 1 w.weekdays && leb w.weekdays 127
    && is_minute w.first_minute && leb w.end_minute 1440 && ltb w.first_minute w.end_minute

-- A window is open: the moment's day is from the first day on and before the end day, its weekday's bit is set, and its minute is from the first minute on
-- and before the end minute.
unfoldable pub is_open : Window → Moment → Bool
is_open w m =
    not (earlier m.date w.first_day) && earlier m.date w.end_day && has w.weekdays (weekday m.date)
    && leb w.first_minute m.minute && ltb m.minute w.end_minute

-- A rule is in force at a moment: it has no window, or its window is open.
unfoldable pub in_force : Moment → Applies → Bool
in_force m Applies.Always = true
in_force m (Applies.During w) = is_open w m
