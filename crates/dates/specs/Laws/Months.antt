-- The lengths of the months and of the years. Assumes nothing.
use Rattle.std.specs.Prelude.{◌≡◌, refl, Bool, true, false, cond, ◌&&◌, List, [], ◌∷◌, ℕ, zero, suc, ◌+◌, ◌≤◌, ◌<◌, leb, eqb, length, get_or}
use Rattle.std.proofs.Math.Bool.{and-eq-true_iff}
use Rattle.std.proofs.Math.Logic.{by_cases}
use Rattle.std.proofs.Math.Decide.{ℕ_discrete}
use Rattle.std.proofs.Common.{add-one, arith, ne_eqb, leb-true}
use Rattle.items.specs.Weights.{sum_below}
use Rattle.items.specs.Laws.Sums.{sum_part}
use Rattle.dates.specs.Calendar.{month_lengths, leap_year, month_length, days_of_months, days_of_years}

-- ---- the table

-- Whether all numbers of a list pass a test.
abbrev all : (ℕ → Bool) → List ℕ → Bool
all good [] = true
all good (n ∷ ns) = good n && all good ns

-- Where all pass, each passes.
all_each : (good : ℕ → Bool) (ns : List ℕ) → all good ns ≡ true → (k : ℕ) → k < length ns → good (get_or ns k 0) ≡ true
all_each good [] t k h = absurd (omega arith)
all_each good (n ∷ ns) t zero h = ((and-eq-true_iff (good n) (all good ns)).0 t).0
all_each good (n ∷ ns) t (suc k) h = all_each good ns ((and-eq-true_iff (good n) (all good ns)).0 t).1 k (omega arith)

-- Every length of the table is from 28 to 31.
pub table_range : (k : ℕ) → k < 12 → (28 ≤ get_or month_lengths k 0) × (get_or month_lengths k 0 ≤ 31)
unfolding month_lengths
table_range k h =
    let both = (and-eq-true_iff _ _).0 (all_each (λ n. leb 28 n && leb n 31) month_lengths refl k h) in
    (leb-true _ _ both.0, leb-true _ _ both.1)

-- The twelve lengths of the table add up to 365.
pub table_sum : sum_below 12 (λ k. get_or month_lengths k 0) ≡ 365
unfolding month_lengths sum_below
table_sum = refl

-- ---- months

-- A leap day is at most one.
leap_day : (b : Bool) → cond b 1 0 ≤ 1
leap_day true = omega arith
leap_day false = omega arith

-- A month has 28 to 31 days.
pub month_range : (y k : ℕ) → k < 12 → (28 ≤ month_length y k) × (month_length y k ≤ 31)
unfolding month_length month_lengths
month_range y k h =
    by_cases (ℕ_discrete k 1)
    (λ p. rw p (omega (arith, leap_day (leap_year y))))
    (λ p. let none : eqb k 1 ≡ false = ne_eqb k 1 p in rw none (omega (arith, table_range k h)))

-- One month more adds its days.
pub months_next : (y k : ℕ) → days_of_months y (k + 1) ≡ days_of_months y k + month_length y k
unfolding days_of_months sum_below
months_next y k = rw add-one refl

-- No month has no days.
pub months_none : (y : ℕ) → days_of_months y 0 ≡ 0
unfolding days_of_months sum_below
months_none y = refl

-- More months have at least as many days.
pub months_part : (y j k : ℕ) → j ≤ k → days_of_months y j ≤ days_of_months y k
unfolding days_of_months
months_part y j k h = sum_part k j (month_length y) h

-- ---- years

-- A year has 365 days, a leap year 366.
pub year_length : (y : ℕ) → days_of_months y 12 ≡ 365 + cond (leap_year y) 1 0
unfolding days_of_months month_length month_lengths sum_below
year_length y = omega arith

-- A year has at most 366 days.
pub year_bound : (y : ℕ) → days_of_months y 12 ≤ 366
year_bound y = omega (arith, year_length y, leap_day (leap_year y))

-- The months so far and one more have at most the days of a year.
pub months_fit : (y k : ℕ) → k < 12 → days_of_months y k + month_length y k ≤ 366
months_fit y k h = omega (arith, months_next y k, months_part y (k + 1) 12 (omega arith), year_bound y)

-- No year has no days.
pub years_none : days_of_years 0 ≡ 0
unfolding days_of_years sum_below
years_none = refl

-- One year more adds its days.
pub years_next : (k : ℕ) → days_of_years (k + 1) ≡ days_of_years k + days_of_months (2000 + k) 12
unfolding days_of_years sum_below
years_next k = rw add-one refl

-- More years have at least as many days.
pub years_part : (j k : ℕ) → j ≤ k → days_of_years j ≤ days_of_years k
unfolding days_of_years
years_part j k h = sum_part k j _ h

-- The hundred years from 2000 on have 36,525 days.
pub hundred_years : days_of_years 100 ≡ 36525
unfolding days_of_years days_of_months month_length month_lengths leap_year sum_below
hundred_years = refl

-- The years so far and one more have at most the days of a hundred.
pub years_fit : (k : ℕ) → k < 100 → days_of_years k + days_of_months (2000 + k) 12 ≤ 36525
years_fit k h = omega (arith, years_next k, years_part (k + 1) 100 (omega arith), hundred_years)
