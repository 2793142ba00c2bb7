-- For two books with the same screens at one moment the same text is printed (E1, E7). Assumes nothing.
use mathlib.Core.Path.{◌≡◌, refl, ap, sym, ◌∙◌}
use mathlib.Core.List.{List, ◌++◌}
use Prim.Native.Nat.{ℕ, ◌≤◌, ◌<◌}
use native.Mathlib.Omega.{arith}
use lib.ListN.{length, take, drop, get_or}
use lib.Seq.{get_or-take}
use borrow.Author.Tests.{le-ltb}
use Rattle.std.specs.Prelude.{Option, Some}
use Rattle.records.specs.Limits.{max_log}
use Rattle.records.specs.Format.{pair, date_at}
use Rattle.engine.proofs.SameScreens.{outcomes_same}
use Rattle.printing.specs.Printed.{max_text, outcome_text, moment_size, moment_at, book_outcome, input_outcome, text_of, print_answer, printed_buffer, PrintCall}
use Rattle.printing.specs.SameScreens.{RetypedInputs, EqualTexts, SameText}

-- a call whose buffer is long enough puts its text
puts : {s before after : List ℕ} {r : Option ℕ} → PrintCall s before after r → max_text ≤ length before
    → (r ≡ Some (length (text_of s))) × (after ≡ text_of s ++ drop (length (text_of s)) before)
unfolding print_answer printed_buffer
puts {s} {before} c l = let k = le-ltb (length before) max_text l in (rw k at c.answered, rw k at c.buffer)

-- the same first bytes, the same moment
moment_same : (s t : List ℕ) → take moment_size s ≡ take moment_size t → moment_at s ≡ moment_at t
unfolding moment_at date_at pair
moment_same s t e = rw (here 0 (omega arith), here 1 (omega arith), here 2 (omega arith), here 3 (omega arith), here 4 (omega arith), here 5 (omega arith)) refl
  where
    here : (i : ℕ) → i < moment_size → get_or s i 0 ≡ get_or t i 0
    here i l = sym (get_or-take moment_size s i 0 l) ∙ ap (λ (l : List ℕ). get_or l i 0) e ∙ get_or-take moment_size t i 0 l

pub same_text : {s t : List ℕ} → RetypedInputs s t → SameText s t
unfolding text_of input_outcome book_outcome
same_text {s} {t} x = record { equal = λ c d l k. both (puts c l) (puts d k) }
  where
    text_same : text_of t ≡ text_of s
    text_same =
        rw (le-ltb (length s) moment_size x.whole, le-ltb (length t) moment_size x.other_whole, ← moment_same s t x.same_moment)
        (ap outcome_text (sym (outcomes_same x.books max_log max_log (omega arith) (omega arith))))

    both : {before after other_before other_after : List ℕ} {r o : Option ℕ}
        → (r ≡ Some (length (text_of s))) × (after ≡ text_of s ++ drop (length (text_of s)) before)
        → (o ≡ Some (length (text_of t))) × (other_after ≡ text_of t ++ drop (length (text_of t)) other_before)
        → EqualTexts before after r other_before other_after o
    both c d = let e = rw text_same at d in record { text = text_of s; put = c.0; other_put = e.0; buffer = c.1; other_buffer = e.1 }
