-- Days of the calendar, computed from its definitions: which dates can be, the numbers of days, and their weekdays.
use Rattle.std.specs.Prelude.{◌≡◌, refl, Bool, true, false, List, [], ◌∷◌, map, ℕ}
use Rattle.items.specs.Weights.{sum_below}
use Rattle.dates.specs.Calendar.{date_of, month_lengths, leap_year, month_length, is_date, days_of_months, days_of_years, day_number, weekday}
use Rattle.dates.specs.declared.Date.{Date}

-- A date, and whether it can be.
pub record Possible : Type 0 where
  pub date : Date
  pub can : Bool

-- 29 February of 2000, 2004, 2099 and 2100, 1 January 2100, 31 April, day 0, month 0, month 13, and 1 December 1999.
unfoldable pub possibles : List Possible
possibles =
    record { date = date_of 2000 2 29; can = true }
    ∷ record { date = date_of 2004 2 29; can = true }
    ∷ record { date = date_of 2099 2 29; can = false }
    ∷ record { date = date_of 2100 2 29; can = false }
    ∷ record { date = date_of 2100 1 1; can = false }
    ∷ record { date = date_of 2024 4 31; can = false }
    ∷ record { date = date_of 2024 1 0; can = false }
    ∷ record { date = date_of 2024 0 1; can = false }
    ∷ record { date = date_of 2024 13 1; can = false }
    ∷ record { date = date_of 1999 12 1; can = false }
    ∷ []

-- The calendar says so of each.
pub possibles_agree : map (λ (p : Possible). is_date p.date) possibles ≡ map (λ (p : Possible). p.can) possibles
unfolding possibles is_date month_length month_lengths leap_year
possibles_agree = refl

-- A date, its day's number, and its weekday.
pub record Numbered : Type 0 where
  pub date : Date
  pub number : ℕ
  pub weekday : ℕ

-- The first day, a Saturday, a leap day, a Thursday, and the last day, a Thursday too.
unfoldable pub days : List Numbered
days =
    record { date = date_of 2000 1 1; number = 0; weekday = 5 }
    ∷ record { date = date_of 2024 2 29; number = 8825; weekday = 3 }
    ∷ record { date = date_of 2099 12 31; number = 36524; weekday = 3 }
    ∷ []

-- The calendar gives each its number and its weekday.
pub days_agree : map (λ (d : Numbered). record { date = d.date; number = day_number d.date; weekday = weekday d.date }) days ≡ days
unfolding days weekday day_number days_of_years days_of_months month_length month_lengths leap_year sum_below
days_agree = refl
