-- What the inner functions say.
use Rattle.std.specs.Prelude.{◌≡◌, List, ℕ}
use Rattle.records.specs.declared.Rule.{Rule}
use Rattle.c_interface.specs.Seen.{Outcome, returned, behind, rules_yes, rules_no, rules_windows}

-- What C sees of the rules.
pub record RulesPassed (rs : List Rule) (yes no : List ℕ) (windows : List (List ℕ)) : Type 0 where
  pub yes_are : yes ≡ rules_yes rs
  pub no_are : no ≡ rules_no rs
  pub windows_are : windows ≡ rules_windows rs

-- What C sees of an outcome: what is returned, and what then stands behind the pointers.
pub record Passed {B : Type 0} (o : Outcome B) (before after : B) (r : ℕ) : Type 0 where
  pub returns : r ≡ returned o
  pub leaves : after ≡ behind o before
