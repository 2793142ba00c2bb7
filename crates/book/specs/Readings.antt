-- The starred reading orders, the counts of a rule, and windows, computed from the meaning of the bytes.
use Rattle.std.specs.Prelude.{◌≡◌, refl, List, [], ◌∷◌, ◌++◌, map, ℕ, pos, take}
use Rattle.literals.specs.Literal.{variable, of_byte}
use Rattle.dates.specs.Calendar.{date_of, month_lengths, leap_year, month_length, is_date, earlier}
use Rattle.dates.specs.Windows.{is_minute, is_window}
use Rattle.dates.specs.declared.Window.{Window}
use Rattle.dates.specs.declared.Applies.TheVariants as Applies
use Rattle.records.specs.Format.{Read, value, refused, Rule, always, OrderBook, marked, pair, is_cost, opened, rising}
use Rattle.records.specs.Format.{header_values, header_at, cost_values, cost_at, cost_from, rule_values, rule_at, begins, window_from, rule_from, date_at, window_fields}
use Rattle.records.specs.Format.{window_values, window_at, fact_values, fact_at, end_at}
use Rattle.records.specs.Format.{many, facts_from, from_rules, read_book}
use Rattle.book.specs.Orders.{order_a, order_j, order_empty_rule, order_nine_literals, no_rule, one_rule, between_days, season, window_bytes}

-- An order's bytes, and what they mean.
pub record OrderMeaning : Type 0 where
  pub bytes : List ℕ
  pub meaning : Read OrderBook

-- U = V = 1 with the costs of order d, and these rules.
abbrev small_book : ℕ → List Rule → OrderBook
small_book count rs = record {
  header = record { variables = 1; choices = 1; rules = count };
  costs = record { of_yes = 5; of_no = 9 } ∷ [];
  rules = rs;
  facts =
      [];
}

-- a: 1 at 0. j: 6 at 12, the place of the rule whose literal's opposite does not fit a signed byte. A count of 0 is read as a rule with no literals; a
-- count of 9 gives 5, before its literals are counted off.
unfoldable pub readings : List OrderMeaning
readings =
    record { bytes = order_a; meaning = refused 1 0 }
    ∷ record { bytes = order_j; meaning = refused 6 12 }
    ∷ record { bytes = order_empty_rule; meaning = value (small_book 2 (always (pos 1 ∷ []) ∷ always [] ∷ [])) 21 }
    ∷ record { bytes = order_nine_literals; meaning = refused 5 16 }
    ∷ []

-- The definitions that the meaning of bytes computes with, named once.
unfoldable pub read_computed : List ℕ → Read OrderBook
unfolding read_book from_rules facts_from many end_at begins fact_at fact_values rule_from window_from window_at window_values window_fields date_at rule_at rule_values
    cost_from cost_at cost_values header_at header_values rising opened is_cost pair marked variable of_byte is_window is_minute is_date earlier month_length leap_year
    month_lengths
read_computed s = read_book s

pub readings_agree : map (λ (r : OrderMeaning). read_book r.bytes) readings ≡ map (λ (r : OrderMeaning). r.meaning) readings
unfolding readings order_a order_j order_empty_rule order_nine_literals read_computed
readings_agree = refl

-- ---- windows (document 02, E7)

-- A window after the rule is read, and a rule without one always applies. A second WN, one before any rule and one after a fact are marks that are not
-- allowed there: 2 at the place of that WN. One that is cut off gives 1.
unfoldable pub window_readings : List OrderMeaning
window_readings =
    record { bytes = one_rule []; meaning = value (small_book 1 (always (pos 1 ∷ []) ∷ [])) 18 }
    ∷ record {
      bytes = one_rule (window_bytes season);
      meaning = value (small_book 1 (record { literals = pos 1 ∷ []; applies = Applies.During season } ∷ []))
          33;
    }
    ∷ record { bytes = one_rule (window_bytes season ++ window_bytes season); meaning = refused 2 31 }
    ∷ record { bytes = no_rule (window_bytes season); meaning = refused 2 12 }
    ∷ record { bytes = one_rule (0x46 ∷ 0x41 ∷ 0x01 ∷ window_bytes season); meaning = refused 2 19 }
    ∷ record { bytes = one_rule (take 12 (window_bytes season)); meaning = refused 1 16 }
    ∷ []

pub windows_agree : map (λ (r : OrderMeaning). read_book r.bytes) window_readings ≡ map (λ (r : OrderMeaning). r.meaning) window_readings
unfolding window_readings no_rule one_rule window_bytes read_computed
windows_agree = refl

-- Windows that can be: 29 February of 2000 and of 2004, and each field at its limits.
unfoldable pub windows : List Window
windows =
    between_days (date_of 2000 2 29) (date_of 2004 2 29)
    ∷ record { first_day = date_of 2000 1 1; end_day = date_of 2099 12 31; weekdays = 127; first_minute = 0; end_minute = 1440 }
    ∷ record { first_day = date_of 2099 12 30; end_day = date_of 2099 12 31; weekdays = 1; first_minute = 1439; end_minute = 1440 }
    ∷ []

pub windows_read : map (λ w. read_book (one_rule (window_bytes w))) windows
    ≡ map (λ w. value (small_book 1 (record { literals = pos 1 ∷ []; applies = Applies.During w } ∷ [])) 33) windows
unfolding windows one_rule window_bytes read_computed
windows_read = refl

-- Windows that cannot be: 29 February 2099, 31 April, months 0 and 13, day 0, years 1999 and 2100, an end day that is the first or before it, weekdays 0
-- and 128, minute 1440 as the first, 1441 as the end, an end minute that is the first or before it. Each gives 14 where WN begins.
unfoldable pub impossible_windows : List Window
impossible_windows =
    between_days (date_of 2099 2 29) (date_of 2099 11 1)
    ∷ between_days (date_of 2024 4 31) (date_of 2024 11 1)
    ∷ between_days (date_of 2024 3 1) (date_of 2024 4 31)
    ∷ between_days (date_of 2024 0 1) (date_of 2024 11 1)
    ∷ between_days (date_of 2024 3 1) (date_of 2024 13 1)
    ∷ between_days (date_of 2024 3 0) (date_of 2024 11 1)
    ∷ between_days (date_of 1999 12 31) (date_of 2024 11 1)
    ∷ between_days (date_of 2024 3 1) (date_of 2100 1 1)
    ∷ between_days (date_of 2024 3 1) (date_of 2024 3 1)
    ∷ between_days (date_of 2024 3 1) (date_of 2024 2 29)
    ∷ at_times 0 540 1050
    ∷ at_times 128 540 1050
    ∷ at_times 31 1440 1441
    ∷ at_times 31 540 1441
    ∷ at_times 31 540 540
    ∷ at_times 31 540 539
    ∷ []
  where
    at_times : ℕ → ℕ → ℕ → Window
    at_times days first end =
        record { first_day = date_of 2024 3 1; end_day = date_of 2024 11 1; weekdays = days; first_minute = first; end_minute = end }

pub impossible_refused : map (λ w. read_book (one_rule (window_bytes w))) impossible_windows ≡ map (λ w. refused 14 16) impossible_windows
unfolding impossible_windows one_rule window_bytes read_computed
impossible_refused = refl
