-- What the call that reads a DIMACS CNF text means (document 02, E2), for any text and any buffer: its answer and the buffer by equation, and of a text
-- that is taken that what stands in the buffer is a proper book with the same models.
use Rattle.std.specs.Prelude.{◌≡◌, ◌⊎◌, List, [], ℕ, ◌^◌, ◌≤◌, ◌<◌, min, length, take, replicate, Result, Ok, Err}
use Rattle.dates.specs.declared.Moment.{Moment}
use Rattle.records.specs.Limits.{max_choices, max_without_facts}
use Rattle.records.specs.Format.{Read, value, refused, OrderBook, read_book}
use Rattle.problem.specs.Problem.{problem_of}
use Rattle.consequence.specs.Meaning.{models}
use Rattle.dimacs.specs.Text.{Formula, satisfies}
use Rattle.dimacs.specs.Import.{imported, ImportedAs}
use Rattle.records.specs.Refusals.{number_of, refuses}
use Rattle.records.specs.declared.refusal.Refusal.{Refusal}

-- Bytes that are read as a book over the variables of a formula: U the lesser of V and the most choices, every cost 1, no facts, and at every moment for every
-- filling of the variables, it satisfies the formula exactly when it is a model of the book.
pub record BookOf (f : Formula) (bytes : List ℕ) (size : ℕ) : Type 0 where
  pub book : OrderBook
  pub reads : read_book bytes ≡ value book size
  pub short : size ≤ max_without_facts
  pub same_variables : book.header.variables ≡ f.variables
  pub lesser : book.header.choices ≡ min f.variables max_choices
  pub every_cost : book.costs ≡ replicate (min f.variables max_choices) (record { of_yes = 1; of_no = 1 })
  pub no_facts : book.facts ≡ []
  pub same_models : (moment : Moment) (g : ℕ) → g < 2 ^ f.variables → models (problem_of moment book) g ≡ satisfies g f

-- Of what is to be imported: a text that is taken leaves its book at the front of the buffer, so many bytes as are answered.
abbrev pub Leaves : Read Formula → List ℕ → Result ℕ Refusal → Type 0
Leaves (value f end) after (Ok size) = BookOf f (take size after) size
Leaves (value f end) after (Err refusal) = ⊥
Leaves (refused number place) after r = r ≡ refuses number place

-- A refusal of a text: 8, or 12 or 13 at a place of the text or at its length.
pub record RefusalOf (s : List ℕ) (number place : ℕ) : Type 0 where
  pub numbered : (number ≡ 8) ⊎ ((12 ≤ number) × (number ≤ 13))
  pub placed : place ≤ length s

-- The contract of `read_dimacs`.
pub record DimacsCall (s before after : List ℕ) (r : Result ℕ Refusal) : Type 0 where
  pub said : ImportedAs (imported (length before) s) before after r
  pub leaves : Leaves (imported (length before) s) after r
  pub refusals : (refusal : Refusal) → r ≡ Err refusal → RefusalOf s (number_of refusal.kind) refusal.place
