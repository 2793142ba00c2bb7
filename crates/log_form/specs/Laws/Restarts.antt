-- Carrying on after a restart (E8): the beginning of a log as a test and as a fact, and what one byte more leaves in the buffer.
-- Assumes nothing.
use Rattle.std.specs.Prelude.{◌≡◌, Bool, true, false, List, [], ◌∷◌, ◌++◌, ℕ, zero, suc, ◌+◌, ◌≤◌, ◌<◌, eqb, leb, get_or, set}
use Rattle.std.proofs.Math.Path.{refl, sym, ap}
use Rattle.std.proofs.Common.{ap₂, ◌∙◌, append_assoc, add-one, arith, take-append-drop, get_or-take}
use Rattle.std.proofs.Math.ListN.{length, take, drop, length-append, length-drop}
use Rattle.std.proofs.Math.Seq.{take-suc, drop-cons, length-take-le, take-length}
use Rattle.std.proofs.lemmas.List.{set_at, set-get_or}
use borrow.Author.Tests.{eqb-true, eq-eqb, leb-true, le-leb}
use Rattle.literals.specs.Laws.{and_both}
use Rattle.log_form.specs.Promises.{WrittenWhole}
use Rattle.log_form.specs.Restarts.{written_up_to, is_prefix, is_begun, Begun}

-- ---- the test and the fact

prefix_take : (xs ys : List ℕ) → is_prefix xs ys ≡ true → (length xs ≤ length ys) × (xs ≡ take (length xs) ys)
unfolding is_prefix
prefix_take [] ys e = (omega arith, refl)
prefix_take (x ∷ xs) [] e = let z : ◌≡◌ {A = ℕ} 0 1 = cc in absurd (omega arith)
prefix_take (x ∷ xs) (y ∷ ys) e =
    let b = and_both (eqb x y) (is_prefix xs ys) e in
    let r = prefix_take xs ys b.1 in
    (omega (arith, r.0), ap₂ (λ (a : ℕ) (l : List ℕ). a ∷ l) (eqb-true x y b.0) r.1)

take_prefix : (k : ℕ) (ys : List ℕ) → is_prefix (take k ys) ys ≡ true
unfolding is_prefix
take_prefix zero ys = refl
take_prefix (suc k) [] = refl
take_prefix (suc k) (y ∷ ys) = rw (eq-eqb y y refl) (take_prefix k ys)

module _ (k : ℕ) (found log : List ℕ) where
  pub begun_true : is_begun k found log ≡ true → Begun k found log
  unfolding is_begun
  begun_true e =
      let b = and_both (leb k (length found)) (is_prefix (take k found) log) e in
      let h = leb-true k (length found) b.0 in
      let p = prefix_take (take k found) log b.1 in
      record { in_buffer = h; in_log = omega (arith, p.0, length-take-le k found h); same = p.1 ∙ ap (λ n. take n log) (length-take-le k found h) }

  pub begun_is : Begun k found log → is_begun k found log ≡ true
  unfolding is_begun
  begun_is b = rw (le-leb k (length found) b.in_buffer, b.same) (take_prefix k log)

  pub begun_not : (Begun k found log → ⊥) → is_begun k found log ≡ false
  begun_not f = go (is_begun k found log) refl
    where
      go : (t : Bool) → is_begun k found log ≡ t → t ≡ false
      go true e = absurd (f (begun_true e))
      go false e = refl

  pub begun_false : is_begun k found log ≡ false → Begun k found log → ⊥
  begun_false e b = let z : true ≡ false = sym (begun_is b) ∙ e in let w : ◌≡◌ {A = ℕ} 0 1 = cc in omega arith

-- no byte begins every log
pub begun_none : (found log : List ℕ) → Begun 0 found log
begun_none found log = record { in_buffer = omega arith; in_log = omega arith; same = refl }

-- one byte more is equal
pub begun_more : {k : ℕ} {found log : List ℕ} → Begun k found log → k < length found → k < length log → get_or found k 0 ≡ get_or log k 0
    → Begun (k + 1) found log
begun_more {k} {found} {log} b h l e =
    record { in_buffer = omega arith; in_log = omega arith; same = rw (add-one k, take-suc found k 0 h, take-suc log k 0 l, b.same, e) refl }

-- ---- what stands in the buffer

module _ {k : ℕ} {before log : List ℕ} where
  -- where the first k bytes are the beginning, they are written, and what is read there is the log
  begun_written : Begun k before log → before ≡ written_up_to k log before
  unfolding written_up_to
  begun_written b = sym (take-append-drop k before) ∙ ap (λ l. l ++ drop k before) b.same

  pub begun_at : {i : ℕ} → Begun k before log → i < k → get_or before i 0 ≡ get_or log i 0
  begun_at {i} b h = sym (get_or-take k before i 0 h) ∙ ap (λ l. get_or l i 0) b.same ∙ get_or-take k log i 0 h

module _ (k : ℕ) (log before : List ℕ) where
  length_written : k ≤ length log → length log ≤ length before → length (written_up_to k log before) ≡ length before
  unfolding written_up_to
  length_written h r = omega (arith, length-append (take k log) (drop k before), length-take-le k log h, length-drop k before)

  written_more : k < length log → length log ≤ length before → set (written_up_to k log before) k (get_or log k 0) ≡ written_up_to (k + 1) log before
  unfolding written_up_to
  written_more h r =
      rw (add-one k, drop-cons before k 0 (omega arith), take-suc log k 0 h)
      (set_at (take k log) (get_or before k 0) (drop (suc k) before) (get_or log k 0) k (length-take-le k log (omega arith))
      ∙ sym (append_assoc (take k log) (get_or log k 0 ∷ []) (drop (suc k) before)))

-- A log is being written: its first k bytes stand in the buffer, and then the old contents.
pub record Writing (log before bytes : List ℕ) (k : ℕ) : Type 0 where
  pub up_to : k ≤ length log
  pub room : length log ≤ length before
  pub so_far : bytes ≡ written_up_to k log before

pub writing_begun : {k : ℕ} {log before : List ℕ} → Begun k before log → length log ≤ length before → Writing log before before k
writing_begun b r = record { up_to = b.in_log; room = r; so_far = begun_written b }

module _ {log before bytes : List ℕ} {k : ℕ} (w : Writing log before bytes k) where
  -- the buffer keeps its length
  pub writing_length : length bytes ≡ length before
  writing_length = rw w.so_far (length_written k log before w.up_to w.room)

  -- one byte more, which is written
  pub writing_set : k < length log → Writing log before (set bytes k (get_or log k 0)) (k + 1)
  writing_set h =
      record {
        up_to = omega arith;
        room = w.room;
        so_far = ap (λ l. set l k (get_or log k 0)) w.so_far ∙ written_more k log before h w.room;
      }

  -- or which stands there already
  pub writing_stands : k < length log → get_or bytes k 0 ≡ get_or log k 0 → Writing log before bytes (k + 1)
  writing_stands h e = rw (set-get_or bytes k 0) at (rw (sym e) at (writing_set h))

  -- all of them
  pub writing_whole : length log ≤ k → WrittenWhole log before bytes
  unfolding written_up_to
  writing_whole h = let e : k ≡ length log = omega (arith, w.up_to) in
      record { stored = w.so_far ∙ rw (e, take-length log) refl }

pub ruleset writing_laws = (writing_begun, writing_length, writing_set, writing_stands, writing_whole)
