-- What is put from the first byte on.
-- Assumes nothing.
use mathlib.Core.Path.{ap, ◌∙◌}
use mathlib.Core.List.{List, ◌++◌}
use Prim.Native.Nat.{ℕ, ◌≤◌}
use native.Mathlib.Nat.{zero-add}
use native.Mathlib.Omega.{arith}
use lib.ListN.{length, drop, length-append}
use lib.Seq.{sets-eq}
use Rattle.log_form.specs.Promises.{Put}
use Rattle.printing.specs.Promises.{Front}

-- what is put from the first byte on stands in front
pub put_front : {text a b : List ℕ} {r : ℕ} → Put a 0 text b r → length text ≤ length a → Front text a b r
put_front {text} {a} p h = record {
  stands = p.stored ∙ sets-eq text a 0 (omega arith) ∙ ap (λ k. text ++ drop k a) (zero-add (length text));
  length_is = p.place ∙ zero-add (length text);
}

-- it fits the buffer
pub front_fits : {text before after : List ℕ} {r : ℕ} → Front text before after r → r ≤ length after
front_fits {text} {before} f = omega (arith, f.length_is, simp length-append at (ap length f.stands))
