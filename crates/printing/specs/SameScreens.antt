-- What is printed for two books with the same screens at one moment (document 02, E1 and E7; which books, engine/specs/SameScreens). `same_text`
-- (proofs/SameScreens) shows it.
use Rattle.std.specs.Prelude.{Option, Some, ◌≡◌, List, ◌++◌, ℕ, ◌≤◌, length, take, drop}
use Rattle.engine.specs.SameScreens.{Retyped}
use Rattle.printing.specs.Printed.{max_text, moment_size, moment_at, PrintCall}

-- Two inputs with the same six bytes of a moment, and after them two books with the same screens at it; `Retyped` says that the moment can be.
pub record RetypedInputs (s t : List ℕ) : Type 0 where
  pub whole : moment_size ≤ length s
  pub other_whole : moment_size ≤ length t
  pub same_moment : take moment_size s ≡ take moment_size t
  pub books : Retyped (moment_at s) (drop moment_size s) (drop moment_size t)

-- Both calls put the same text, each at the front of its buffer, which is after it as it was.
pub record EqualTexts (before after : List ℕ) (r : Option ℕ) (other_before other_after : List ℕ) (o : Option ℕ) : Type 0 where
  pub text : List ℕ
  pub put : r ≡ Some (length text)
  pub other_put : o ≡ Some (length text)
  pub buffer : after ≡ text ++ drop (length text) before
  pub other_buffer : other_after ≡ text ++ drop (length text) other_before

-- With buffers long enough for a text, the texts are equal: the log's lines, or the refusal's.
pub record SameText (s t : List ℕ) : Type 0 where
  pub equal : {before after other_before other_after : List ℕ} {r o : Option ℕ} → PrintCall s before after r → PrintCall t other_before other_after o
      → max_text ≤ length before → max_text ≤ length other_before → EqualTexts before after r other_before other_after o
