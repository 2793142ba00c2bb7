-- The header: what holds of one that is whole.
-- Assumes nothing.
use mathlib.Core.Path.{◌≡◌}
use mathlib.Core.List.{List}
use Prim.Native.Nat.{ℕ, ◌≤◌}
use borrow.Author.Tests.{leb-true}
use lib.Dec.{leb}
use Rattle.records.specs.Limits.{max_variables, max_choices, max_rules}
use Rattle.records.specs.Format.{says, byte, opened, HD, Header, header_at, header_values}
use Rattle.records.proofs.CheckLaws.{Good, says_same, checked_first_says, check_says, opened_says}

-- The counts of a header are within the limits.
pub record GoodHeader (h : Header) : Type 0 where
  pub few_variables : h.variables ≤ max_variables
  pub few_choices : h.choices ≤ max_choices
  pub choices_among : h.choices ≤ h.variables
  pub few_rules : h.rules ≤ max_rules

-- a header that is whole has 5 bytes
pub header_whole : (s : List ℕ) {h : Header} {len : ℕ} → header_at s ≡ says h len → (len ≡ 5) × Good GoodHeader s h len
unfolding header_at header_values
header_whole s {h} {len} e =
    let o = checked_first_says (opened HD 5 s) (header_values s) e in
    let v = check_says (leb (byte s 2) max_variables) 3 _ o.2 in
    let u = check_says (leb (byte s 3) max_choices) 3 _ v.1 in
    let a = check_says (leb (byte s 3) (byte s 2)) 3 _ u.1 in
    let r = check_says (leb (byte s 4) max_rules) 3 _ a.1 in
    let same = says_same r.1 in (
      same.1,
      record {
        within = rw same.1 (opened_says HD 5 s o.1).0;
        good = rw (← same.0) (record {
          few_variables = leb-true _ _ v.0;
          few_choices = leb-true _ _ u.0;
          choices_among = leb-true _ _ a.0;
          few_rules = leb-true _ _ r.0;
        });
      },
    )
