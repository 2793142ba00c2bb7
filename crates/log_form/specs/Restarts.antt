-- Carrying on after a restart (document 02, E8): what stands in a buffer while a log is written into it, and whether what is found there begins a log.
use Rattle.std.specs.Prelude.{◌≡◌, Bool, true, false, ◌&&◌, List, [], ◌∷◌, ◌++◌, ℕ, ◌≤◌, eqb, leb, length, take, drop}

-- What stands in a buffer once the first k bytes of a log are written: these, and then the old contents.
unfoldable pub written_up_to : ℕ → List ℕ → List ℕ → List ℕ
written_up_to k log before = take k log ++ drop k before

-- Whether some bytes are the beginning of others.
unfoldable pub is_prefix : List ℕ → List ℕ → Bool
is_prefix [] ys = true
is_prefix (x ∷ xs) [] = false
is_prefix (x ∷ xs) (y ∷ ys) = eqb x y && is_prefix xs ys

-- Whether the first k bytes of a buffer are the beginning of a log. They are not where they are more than the buffer has.
unfoldable pub is_begun : ℕ → List ℕ → List ℕ → Bool
is_begun k found log = leb k (length found) && is_prefix (take k found) log

-- The same as a fact: the buffer and the log have so many bytes, and the first k of each are equal.
pub record Begun (k : ℕ) (found log : List ℕ) : Type 0 where
  pub in_buffer : k ≤ length found
  pub in_log : k ≤ length log
  pub same : take k found ≡ take k log
