-- The parts of a line, as the code puts them.
-- Assumes nothing.
use mathlib.Core.Path.{◌≡◌}
use mathlib.Core.List.{List, [], ◌∷◌, ◌++◌, append_assoc}
use Prim.Native.Nat.{ℕ, ◌+◌, ◌^◌, ◌≤◌, ◌<◌}
use native.Mathlib.Omega.{arith}
use lib.ListN.{length, length-append}
use Rattle.log_form.specs.Format.{StepRecord}
use Rattle.printing.specs.Text.{decimal, literal_text, literals_text, step_word, goal_word, from_word, new_word, cost_word, line_end, step_text, done_word}
use Rattle.printing.specs.Text.{total_word, done_text, refused_word, at_word, refusal_text}
use Rattle.printing.proofs.DecimalLaws.{decimal_short}
use Rattle.log_form.proofs.LeftLaws.{Left, left_all, left_as}

-- a line of two words and two numbers
abbrev pub pair_parts : List ℕ → ℕ → List ℕ → ℕ → List (List ℕ)
pair_parts first n second m = (first ++ decimal n) ∷ (second ++ decimal m) ∷ line_end ∷ []

pub pair_left : (a : List ℕ) (at : ℕ) (first : List ℕ) (n : ℕ) (second : List ℕ) (m : ℕ)
    → Left a at (first ++ decimal n ++ second ++ decimal m ++ line_end) a at (pair_parts first n second m)
pair_left a at first n second m = left_as _ (left_all a at _) (simp append_assoc)

-- the line of a step
abbrev pub line_parts : ℕ → StepRecord → List (List ℕ)
line_parts number r =
    (step_word ++ decimal number) ∷ goal_word ∷ literal_text r.goal ∷ (from_word ++ literals_text r.reasons) ∷ (new_word ++ literals_text r.new) ∷
    (cost_word ++ decimal r.cost) ∷ line_end ∷ []

pub line_left : (a : List ℕ) (at number : ℕ) (r : StepRecord) → Left a at (step_text number r) a at (line_parts number r)
unfolding step_text
line_left a at number r = left_as _ (left_all a at _) (simp append_assoc)

-- how long the lines are
pub pair_length : (first : List ℕ) (n : ℕ) (second : List ℕ) (m : ℕ)
    → length (first ++ decimal n ++ second ++ decimal m ++ line_end) ≡ length first + length (decimal n) + length second + length (decimal m) + 1
pair_length first n second m = simp length-append

pub refusal_length : (n m : ℕ) → length (decimal n) + length (decimal m) ≤ 23 → length (refusal_text n m) ≤ 36
unfolding refusal_text
refusal_length n m h = omega (arith, h, pair_length refused_word n at_word m)

pub done_length : (steps total : ℕ) → steps < 256 → total < 2 ^ 32 → length (done_text steps total) ≤ 26
unfolding done_text
done_length steps total h k =
    omega (arith, pair_length done_word steps total_word total, decimal_short 2 steps (omega arith), decimal_short 9 total (omega arith))

pub step_length : (number : ℕ) (r : StepRecord)
    → length (step_text number r) ≡ 27 + length (decimal number) + length (literal_text r.goal) + length (literals_text r.reasons) + length
    (literals_text r.new) + length (decimal r.cost)
unfolding step_text
step_length number r = simp length-append (omega arith)
