-- The printed log (document 01, "The printed log"): the text of a log, of each of its lines, and of a refusal, as ASCII bytes.
use Rattle.std.specs.Prelude.{true, false, List, [], ◌∷◌, ◌++◌, ℕ, zero, suc, ◌+◌, ◌/◌, ◌%◌, ltb, pos, negsuc}
use Rattle.literals.specs.Literal.{Literal}
use Rattle.log_form.specs.Format.{StepRecord, Log}

-- ---- numbers and literals

-- The digits of a number, the highest first, where so many turns are enough.
unfoldable pub digits : ℕ → ℕ → List ℕ
digits zero n = []
digits (suc turns) n = elim (ltb n 10) [ true ↦ (0x30 + n) ∷ [] | false ↦ digits turns (n / 10) ++ ((0x30 + n % 10) ∷ []) ]

-- A number in decimal. It has at most suc n digits.
unfoldable pub decimal : ℕ → List ℕ
decimal n = digits (suc n) n

-- A literal: its variable, after the sign - where it says no.
unfoldable pub literal_text : Literal → List ℕ
literal_text (pos v) = decimal v
literal_text (negsuc v) = 0x2D ∷ decimal (suc v)

-- Literals, each after one space.
unfoldable pub literals_text : List Literal → List ℕ
literals_text [] = []
literals_text (l ∷ ls) = 0x20 ∷ literal_text l ++ literals_text ls

-- ---- the words of a line, with the spaces that part fields

-- "step "
abbrev pub step_word : List ℕ
step_word = 0x73 ∷ 0x74 ∷ 0x65 ∷ 0x70 ∷ 0x20 ∷ []

-- " goal "
abbrev pub goal_word : List ℕ
goal_word = 0x20 ∷ 0x67 ∷ 0x6F ∷ 0x61 ∷ 0x6C ∷ 0x20 ∷ []

-- " from"
abbrev pub from_word : List ℕ
from_word = 0x20 ∷ 0x66 ∷ 0x72 ∷ 0x6F ∷ 0x6D ∷ []

-- " new"
abbrev pub new_word : List ℕ
new_word = 0x20 ∷ 0x6E ∷ 0x65 ∷ 0x77 ∷ []

-- " cost "
abbrev pub cost_word : List ℕ
cost_word = 0x20 ∷ 0x63 ∷ 0x6F ∷ 0x73 ∷ 0x74 ∷ 0x20 ∷ []

-- "done "
abbrev pub done_word : List ℕ
done_word = 0x64 ∷ 0x6F ∷ 0x6E ∷ 0x65 ∷ 0x20 ∷ []

-- " total "
abbrev pub total_word : List ℕ
total_word = 0x20 ∷ 0x74 ∷ 0x6F ∷ 0x74 ∷ 0x61 ∷ 0x6C ∷ 0x20 ∷ []

-- "refused "
abbrev pub refused_word : List ℕ
refused_word = 0x72 ∷ 0x65 ∷ 0x66 ∷ 0x75 ∷ 0x73 ∷ 0x65 ∷ 0x64 ∷ 0x20 ∷ []

-- " at "
abbrev pub at_word : List ℕ
at_word = 0x20 ∷ 0x61 ∷ 0x74 ∷ 0x20 ∷ []

-- A line end.
abbrev pub line_end : List ℕ
line_end = 0x0A ∷ []

-- ---- lines

-- The line of a step: its number, the goal, the facts, possibly none, the new literals, and the cost.
unfoldable pub step_text : ℕ → StepRecord → List ℕ
step_text number r =
    step_word ++ decimal number
    ++ goal_word ++ literal_text r.goal
    ++ from_word ++ literals_text r.reasons
    ++ new_word ++ literals_text r.new
    ++ cost_word ++ decimal r.cost ++ line_end

-- The lines of several steps, the first of them with this number.
unfoldable pub steps_text : ℕ → List StepRecord → List ℕ
steps_text number [] = []
steps_text number (r ∷ rs) = step_text number r ++ steps_text (suc number) rs

-- The line at the end: the steps, and their cost.
unfoldable pub done_text : ℕ → ℕ → List ℕ
done_text steps total = done_word ++ decimal steps ++ total_word ++ decimal total ++ line_end

-- The text of a log: one line for each step and one at the end.
unfoldable pub log_text : Log → List ℕ
log_text l = steps_text 1 l.records ++ done_text l.steps l.total

-- The one line of a refusal: number and place.
unfoldable pub refusal_text : ℕ → ℕ → List ℕ
refusal_text number place = refused_word ++ decimal number ++ at_word ++ decimal place ++ line_end
