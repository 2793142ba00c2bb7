-- The next day: its number, its weekday, and that it is a date. Assumes nothing.
use Rattle.std.specs.Prelude.{◌≡◌, Bool, cond, ◌+◌, ◌-◌, ◌%◌, ◌≤◌, ◌<◌}
use Rattle.std.proofs.Math.Path.{refl, ap}
use Rattle.std.proofs.Math.Bool.{true, false}
use Rattle.std.proofs.Math.Logic.{by_cases}
use Rattle.std.proofs.Math.Decide.{ℕ_discrete}
use native.Mathlib.Omega.{arith}
use Rattle.std.proofs.Common.{ltb-true, ltb-false}
use Rattle.std.proofs.Math.Dec.{ltb}
use Rattle.items.specs.Weights.{sum_below}
use Rattle.dates.specs.Calendar.{date_of, month_lengths, month_length, is_date, days_of_months, days_of_years, day_number, weekday, next_day}
use Rattle.dates.specs.Laws.Months.{month_range}
use Rattle.dates.specs.Laws.Dates.{same_date, date_within, within_date, month_end, year_end}
use Rattle.dates.specs.declared.Date.{Date}

-- The next day is of the same month, or the first of the next month, or the first of the next year: what holds of each holds of it.
module _ (P : Date → Type 0) (d : Date) where
  by_next : (d.day < month_length d.year (d.month - 1) → P (date_of d.year d.month (d.day + 1)))
      → (month_length d.year (d.month - 1) ≤ d.day → d.month < 12 → P (date_of d.year (d.month + 1) 1))
      → (month_length d.year (d.month - 1) ≤ d.day → 12 ≤ d.month → P (date_of (d.year + 1) 1 1)) → P (next_day d)
  unfolding next_day
  by_next in-month in_year new-year = go (ltb d.day (month_length d.year (d.month - 1))) (ltb d.month 12) refl refl
    where
      go : (a b : Bool) → ltb d.day (month_length d.year (d.month - 1)) ≡ a → ltb d.month 12 ≡ b
          → P (cond a (date_of d.year d.month (d.day + 1)) (cond b (date_of d.year (d.month + 1) 1) (date_of (d.year + 1) 1 1)))
      go true b p q = in-month (ltb-true _ _ p)
      go false true p q = in_year (ltb-false _ _ p) (ltb-true _ _ q)
      go false false p q = new-year (ltb-false _ _ p) (ltb-false _ _ q)

module _ (d : Date) (h : is_date d ≡ true) where
  -- The next day has the next number.
  pub next_number : day_number (next_day d) ≡ day_number d + 1
  unfolding day_number days_of_months sum_below
  next_number =
      let w = date_within d h in
      by_next (λ n. day_number n ≡ day_number d + 1) d
      (λ l. omega arith)
      (λ l m.
      let months : d.month + 1 - 1 ≡ d.month = omega arith in
      omega (arith, month_end d h, ap (days_of_months d.year) months))
      (λ l m.
      let years : d.year + 1 - 2000 ≡ d.year - 2000 + 1 = omega arith in
      let months : d.month ≡ 12 = omega arith in
      omega (arith, month_end d h, year_end d h, ap days_of_years years, ap (days_of_months d.year) months))

  -- The next day has the next weekday.
  pub next_weekday : weekday (next_day d) ≡ (weekday d + 1) % 7
  unfolding weekday
  next_weekday = omega (arith, next_number)

-- The last of the dates: 31 December 2099.
abbrev pub last_date : Date
last_date = date_of 2099 12 31

-- The day after a date is a date, but for the last.
pub next_date : (d : Date) → is_date d ≡ true → (d ≡ last_date → ⊥) → is_date (next_day d) ≡ true
unfolding month_length month_lengths
next_date d h last =
    let w = date_within d h in
    by_next (λ n. is_date n ≡ true) d
    (λ l. within_date _ (search arith))
    (λ l m. let days = month_range d.year (d.month + 1 - 1) (omega arith) in within_date _ (search arith))
    (λ l m. let days = month_range (d.year + 1) 0 (omega arith) in let year = year_left l m in within_date _ (search arith))
  where
    year_left : month_length d.year (d.month - 1) ≤ d.day → 12 ≤ d.month → d.year < 2099
    year_left l m =
        let w = date_within d h in
        let months : d.month - 1 ≡ 11 = omega arith in
        let december = ap (month_length d.year) months in
        by_cases (ℕ_discrete d.year 2099) (λ p. absurd (last (same_date d last_date p (omega arith) (omega arith)))) (λ p. omega arith)
