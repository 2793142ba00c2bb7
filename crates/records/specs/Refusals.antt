-- Document 01's numbers of the refusals, and the answer with one of them.
use Rattle.std.specs.Prelude.{List, [], ◌∷◌, ℕ, get_or, Result, Ok, Err}
use Rattle.records.specs.Format.{Read, value, refused}
use Rattle.records.specs.declared.refusal.RefusalKind.{RefusalKind}
use Rattle.records.specs.declared.refusal.RefusalKind.TheVariants as kind
use Rattle.records.specs.declared.refusal.Refusal.{Refusal}

-- The number of a check.
abbrev pub number_of : RefusalKind → ℕ
number_of kind.CutShort = 1
number_of kind.Mark = 2
number_of kind.Counts = 3
number_of kind.Cost = 4
number_of kind.LiteralCount = 5
number_of kind.Literals = 6
number_of kind.AfterEnd = 7
number_of kind.ShortBuffer = 8
number_of kind.NoFilling = 9
number_of kind.KnownSet = 10
number_of kind.Text = 12
number_of kind.TextLimits = 13
number_of kind.Times = 14
number_of kind.Beginning = 15

-- The checks in the order of their numbers, from 0 on. Nothing is refused with 0 or 11, which stand for the first check.
abbrev pub kinds : List RefusalKind
kinds =
    kind.CutShort ∷ kind.CutShort ∷ kind.Mark ∷ kind.Counts ∷ kind.Cost ∷ kind.LiteralCount ∷ kind.Literals ∷ kind.AfterEnd ∷ kind.ShortBuffer
    ∷ kind.NoFilling ∷ kind.KnownSet ∷ kind.CutShort ∷ kind.Text ∷ kind.TextLimits ∷ kind.Times ∷ kind.Beginning ∷ []

-- The check that has a number.
abbrev pub kind_of : ℕ → RefusalKind
kind_of number = get_or kinds number kind.CutShort

-- The refusal with a number, at a place.
abbrev pub refusal_of : ℕ → ℕ → Refusal
refusal_of number place = record { kind = kind_of number; place = place }

-- The answer that refuses with a number, at a place.
abbrev pub refuses : {A : Type 0} → ℕ → ℕ → Result A Refusal
refuses number place = Err (refusal_of number place)

module _ {A B : Type 0} (keep : A → ℕ → B) where
  -- Several records: what is kept of what they say and of the place after them, or the refusal.
  unfoldable pub read_answer : Read A → Result B Refusal
  read_answer (value a place) = Ok (keep a place)
  read_answer (refused number place) = Err (refusal_of number place)
