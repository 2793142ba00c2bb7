-- What a call's answer is, where the code has tested its negation. Assumes nothing.
use mathlib.Core.Path.{◌≡◌, sym, ◌∙◌}
use mathlib.Core.Bool.{Bool, true, false, not}
use borrow.Author.Tests.{not-true, not-false}

-- The negation was true.
pub found_false : {r b : Bool} → r ≡ b → not r ≡ true → b ≡ false
found_false e t = sym e ∙ not-true _ t

-- The negation was false.
pub found_true : {r b : Bool} → r ≡ b → not r ≡ false → b ≡ true
found_true e t = sym e ∙ not-false _ t
