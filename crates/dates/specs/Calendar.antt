-- The calendar of document 02 (E7): which dates can be, their order, the number of a day and its weekday.
use Rattle.std.specs.Prelude.{Bool, not, cond, ◌&&◌, ◌||◌, List, [], ◌∷◌, ℕ, ◌+◌, ◌-◌, ◌%◌, leb, ltb, eqb, get_or}
use Rattle.items.specs.Weights.{sum_below}
use Rattle.dates.specs.declared.Date.{Date}

-- The date of a year, a month and a day.
abbrev pub date_of : ℕ → ℕ → ℕ → Date
date_of y m d = record { year = y; month = m; day = d }

-- The lengths of the months, in one table; of February where the year is no leap year.
unfoldable pub month_lengths : List ℕ
month_lengths = 31 ∷ 28 ∷ 31 ∷ 30 ∷ 31 ∷ 30 ∷ 31 ∷ 31 ∷ 30 ∷ 31 ∷ 30 ∷ 31 ∷ []

-- The Gregorian leap rule: every fourth year, of the full hundreds every fourth.
unfoldable pub leap_year : ℕ → Bool
leap_year y = eqb (y % 4) 0 && (not (eqb (y % 100) 0) || eqb (y % 400) 0)

-- The length of the month of year y that has k months before it: by the table, February (k = 1) by the leap rule.
unfoldable pub month_length : ℕ → ℕ → ℕ
month_length y k = get_or month_lengths k 0 + cond (eqb k 1 && leap_year y) 1 0

-- A date can be: year 2000 to 2099, a month of the year, a day of the month.
unfoldable pub is_date : Date → Bool
is_date d =
    leb 2000 d.year && leb d.year 2099 && leb 1 d.month && leb d.month 12 && leb 1 d.day
    && leb d.day (month_length d.year (d.month - 1))

-- The one date comes before the other: by the year, then by the month, then by the day.
unfoldable pub earlier : Date → Date → Bool
earlier d e =
    cond (eqb d.year e.year)
    (cond (eqb d.month e.month) (ltb d.day e.day) (ltb d.month e.month))
    (ltb d.year e.year)

-- The days of the first k months of year y.
unfoldable pub days_of_months : ℕ → ℕ → ℕ
days_of_months y k = sum_below k (month_length y)

-- The days of k years from 2000 on, each with its twelve months.
unfoldable pub days_of_years : ℕ → ℕ
days_of_years k = sum_below k (λ j. days_of_months (2000 + j) 12)

-- The number of a day: the days from 1 January 2000 to it.
unfoldable pub day_number : Date → ℕ
day_number d = days_of_years (d.year - 2000) + days_of_months d.year (d.month - 1) + (d.day - 1)

-- The weekday: 0 for Monday to 6 for Sunday. 1 January 2000 was a Saturday.
unfoldable pub weekday : Date → ℕ
weekday d = (day_number d + 5) % 7

-- The day after a date.
unfoldable pub next_day : Date → Date
next_day d =
    cond (ltb d.day (month_length d.year (d.month - 1))) (date_of d.year d.month (d.day + 1))
    (cond (ltb d.month 12) (date_of d.year (d.month + 1) 1) (date_of (d.year + 1) 1 1))
