-- What a date is within, and that the order of dates is the order of their days' numbers. Assumes nothing.
use Rattle.std.specs.Prelude.{◌≡◌, true, cond, ℕ, ◌+◌, ◌-◌, ◌≤◌, ◌<◌, ltb, eqb}
use Rattle.std.proofs.Common.{sym, ◌∙◌, leb-true, le-leb, lt-ltb, le-ltb, eq-eqb, ne_eqb}
use Rattle.std.proofs.Math.Path.{ap}
use Rattle.std.proofs.Math.Bool.{and-eq-true_iff}
use Rattle.std.proofs.Math.Logic.{by_cases}
use Rattle.std.proofs.Math.Decide.{ℕ_discrete, dec_lt}
use native.Mathlib.Omega.{arith}
use Rattle.dates.specs.Calendar.{date_of, month_length, is_date, earlier, days_of_months, days_of_years, day_number, weekday}
use Rattle.dates.specs.Laws.Months.{months_next, months_part, years_next, years_part, hundred_years}
use Rattle.dates.specs.declared.Date.{Date}

-- Dates of the same year, month and day are the same.
pub same_date : (d e : Date) → d.year ≡ e.year → d.month ≡ e.month → d.day ≡ e.day → d ≡ e
same_date d e p q r = whole
  where
    whole : date_of d.year d.month d.day ≡ date_of e.year e.month e.day
    whole = cc

-- What the year, the month and the day of a date are within.
pub record DateBounds (d : Date) : Type 0 where
  pub year_from : 2000 ≤ d.year
  pub year_to : d.year ≤ 2099
  pub month_from : 1 ≤ d.month
  pub month_to : d.month ≤ 12
  pub day_from : 1 ≤ d.day
  pub day_to : d.day ≤ month_length d.year (d.month - 1)

-- A date is within that.
pub date_within : (d : Date) → is_date d ≡ true → DateBounds d
unfolding is_date
date_within d h =
    let five = (and-eq-true_iff _ _).0 h in
    let four = (and-eq-true_iff _ _).0 five.0 in
    let three = (and-eq-true_iff _ _).0 four.0 in
    let two = (and-eq-true_iff _ _).0 three.0 in
    let one = (and-eq-true_iff _ _).0 two.0 in
    record {
      year_from = leb-true _ _ one.0;
      year_to = leb-true _ _ one.1;
      month_from = leb-true _ _ two.1;
      month_to = leb-true _ _ three.1;
      day_from = leb-true _ _ four.1;
      day_to = leb-true _ _ five.1;
    }

-- What is within that is a date.
pub within_date : (d : Date) → DateBounds d → is_date d ≡ true
unfolding is_date
within_date d w =
    rw (le-leb _ _ w.year_from, le-leb _ _ w.year_to, le-leb _ _ w.month_from, le-leb _ _ w.month_to, le-leb _ _ w.day_from)
    (le-leb _ _ w.day_to)

-- The weekday is one of seven.
pub weekday_bound : (d : Date) → weekday d < 7
unfolding weekday
weekday_bound d = omega arith

module _ (d : Date) (h : is_date d ≡ true) where
  -- The months up to a date's have the days of those before it and its own.
  pub month_end : days_of_months d.year d.month ≡ days_of_months d.year (d.month - 1) + month_length d.year (d.month - 1)
  month_end =
      let w = date_within d h in
      let months : d.month ≡ d.month - 1 + 1 = omega arith in
      ap (days_of_months d.year) months ∙ months_next d.year (d.month - 1)

  -- The years up to a date's have the days of those before it and its own.
  pub year_end : days_of_years (d.year - 2000 + 1) ≡ days_of_years (d.year - 2000) + days_of_months d.year 12
  year_end =
      let w = date_within d h in
      let year : 2000 + (d.year - 2000) ≡ d.year = omega arith in
      years_next (d.year - 2000) ∙ ap (λ (y : ℕ). days_of_years (d.year - 2000) + days_of_months y 12) year

  -- A day comes before the next month.
  before_month_end : day_number d < days_of_years (d.year - 2000) + days_of_months d.year d.month
  unfolding day_number
  before_month_end = omega (arith, date_within d h, month_end)

  -- A day comes before the next year.
  before_year_end : day_number d < days_of_years (d.year - 2000 + 1)
  before_year_end = omega (arith, before_month_end, months_part d.year d.month 12 (date_within d h).month_to, year_end)

  -- A day's number is below 36,525.
  pub number_bound : day_number d < 36525
  number_bound =
      let w = date_within d h in
      omega (arith, before_year_end, years_part (d.year - 2000 + 1) 100 (omega arith), hundred_years)

  module _ (e : Date) (k : is_date e ≡ true) where
    -- A day of an earlier year has a smaller number.
    less_by_year : d.year < e.year → day_number d < day_number e
    unfolding day_number
    less_by_year l =
        let v = date_within d h in
        let w = date_within e k in
        omega (arith, before_year_end, years_part (d.year - 2000 + 1) (e.year - 2000) (omega arith))

    -- A day of an earlier month of the same year has a smaller number.
    less_by_month : d.year ≡ e.year → d.month < e.month → day_number d < day_number e
    unfolding day_number
    less_by_month p l =
        let w = date_within e k in
        omega (
          arith,
          before_month_end,
          months_part d.year d.month (e.month - 1) (omega arith),
          ap (λ (y : ℕ). days_of_years (y - 2000)) p,
          ap (λ (y : ℕ). days_of_months y (e.month - 1)) p,
        )

    -- Within a month the numbers differ as the days do.
    by_day : d.year ≡ e.year → d.month ≡ e.month → day_number d + e.day ≡ day_number e + d.day
    unfolding day_number
    by_day p q =
        let v = date_within d h in
        let w = date_within e k in
        omega (
          arith,
          ap (λ (y : ℕ). days_of_years (y - 2000)) p,
          ap (λ (y : ℕ). days_of_months y (d.month - 1)) p ∙ ap (λ (m : ℕ). days_of_months e.year (m - 1)) q,
        )

-- Two tests of orders agree where each order follows the other.
same_test : (a b m n : ℕ) → (a < b → m < n) → (b ≤ a → n ≤ m) → ltb a b ≡ ltb m n
same_test a b m n up down =
    by_cases (dec_lt a b)
    (λ l. lt-ltb a b l ∙ sym (lt-ltb m n (up l)))
    (λ l. le-ltb a b (omega arith) ∙ sym (le-ltb m n (down (omega arith))))

-- Numbers are equal where a difference between them would be one between equal numbers.
same_value : (a b m n : ℕ) → (a < b → m < n) → (b < a → n < m) → m ≡ n → a ≡ b
same_value a b m n up down e =
    by_cases (ℕ_discrete a b) (λ p. p)
    (λ p. absurd (by_cases (dec_lt a b) (λ l. omega (arith, up l)) (λ l. omega (arith, down (omega arith)))))

module _ (d e : Date) (h : is_date d ≡ true) (k : is_date e ≡ true) where
  -- In the same year the test by month and day is that of the numbers.
  in_year : d.year ≡ e.year
      → cond (eqb d.month e.month) (ltb d.day e.day) (ltb d.month e.month) ≡ ltb (day_number d) (day_number e)
  in_year p =
      by_cases (ℕ_discrete d.month e.month)
      (λ q.
      let step = by_day d h e k p q in
      rw (eq-eqb _ _ q) (same_test d.day e.day (day_number d) (day_number e) (λ l. omega arith) (λ l. omega arith)))
      (λ q. rw (ne_eqb _ _ q) (same_test _ _ _ _ (less_by_month d h e k p) (λ l. omega (arith, less_by_month e k d h (sym p) (omega arith)))))

  -- An earlier date has a smaller number, and the other way round.
  pub earlier_is_less : earlier d e ≡ ltb (day_number d) (day_number e)
  unfolding earlier
  earlier_is_less =
      by_cases (ℕ_discrete d.year e.year)
      (λ p. rw (eq-eqb _ _ p) (in_year p))
      (λ p. rw (ne_eqb _ _ p) (same_test _ _ _ _ (less_by_year d h e k) (λ l. omega (arith, less_by_year e k d h (omega arith)))))

  -- Dates with the same number are the same.
  pub same_number : day_number d ≡ day_number e → d ≡ e
  same_number n =
      let year = same_value d.year e.year _ _ (less_by_year d h e k) (less_by_year e k d h) n in
      let month = same_value d.month e.month _ _ (less_by_month d h e k year) (less_by_month e k d h (sym year)) n in
      same_date d e year month (omega (arith, by_day d h e k year month))
