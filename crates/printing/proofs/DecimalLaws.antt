-- The digits of a number: its last one, and those before it; and how many there are.
-- Assumes nothing.
use mathlib.Core.Path.{◌≡◌, refl, sym, ap, ◌∙◌}
use mathlib.Core.Logic.{by_cases}
use mathlib.Core.Bool.{cond}
use mathlib.Core.List.{List, [], ◌∷◌, ◌++◌}
use Prim.Native.Nat.{ℕ, zero, suc, ◌+◌, ◌/◌, ◌%◌, ◌^◌, ◌≤◌, ◌<◌}
use native.Mathlib.Nat.{pow-suc}
use native.Mathlib.Omega.{arith}
use native.Mathlib.Decide.{dec_lt}
use lib.ListN.{length, set, length-append}
use lib.Dec.{ltb}
use borrow.Author.Tests.{lt-ltb, le-ltb}
use Rattle.log_form.proofs.StoreLaws.{put_append, put_byte, put_none, put_length}
use Rattle.log_form.specs.Promises.{Put}
use Rattle.printing.specs.Text.{digits, decimal}

-- a turn: the only digit, or the digits before the last one and the last one
digits_one : (t n : ℕ) → n < 10 → digits (suc t) n ≡ (0x30 + n) ∷ []
unfolding digits
digits_one t n h = rw (lt-ltb n 10 h, digits)

digits_more : (t n : ℕ) → 10 ≤ n → digits (suc t) n ≡ digits t (n / 10) ++ ((0x30 + n % 10) ∷ [])
unfolding digits
digits_more t n h = rw (le-ltb n 10 h, digits)

-- more turns than enough change nothing
digits_enough : (t u n : ℕ) → n < t → n < u → digits t n ≡ digits u n
digits_enough zero u n h k = absurd (omega arith)
digits_enough (suc t) zero n h k = absurd (omega arith)
digits_enough (suc t) (suc u) n h k = by_cases (dec_lt n 10)
    (λ l. digits_one t n l ∙ sym (digits_one u n l))
    (λ l. let m : 10 ≤ n = omega arith in
    digits_more t n m ∙ ap (λ ds. ds ++ ((0x30 + n % 10) ∷ [])) (digits_enough t u (n / 10) (omega arith) (omega arith)) ∙ sym (digits_more u n m))

pub decimal_one : (n : ℕ) → n < 10 → decimal n ≡ (0x30 + n) ∷ []
unfolding decimal
decimal_one n h = digits_one n n h

pub decimal_more : (n : ℕ) → 10 ≤ n → decimal n ≡ decimal (n / 10) ++ ((0x30 + n % 10) ∷ [])
unfolding decimal
decimal_more n h = digits_more n n h ∙ ap (λ ds. ds ++ ((0x30 + n % 10) ∷ [])) (digits_enough n (suc (n / 10)) (n / 10) (omega arith) (omega arith))

-- the digits before the last one, where there are any
unfoldable pub leading : ℕ → List ℕ
leading n = cond (ltb n 10) [] (decimal (n / 10))

front_one : (n : ℕ) → n < 10 → leading n ≡ []
unfolding leading
front_one n h = rw (lt-ltb n 10 h) refl

front_more : (n : ℕ) → 10 ≤ n → leading n ≡ decimal (n / 10)
unfolding leading
front_more n h = rw (le-ltb n 10 h) refl

decimal_last : (n : ℕ) → decimal n ≡ leading n ++ ((0x30 + n % 10) ∷ [])
decimal_last n = by_cases (dec_lt n 10)
    (λ l. let same : n ≡ n % 10 = omega arith in rw (front_one n l) (decimal_one n l ∙ ap (λ k. (0x30 + k) ∷ []) same))
    (λ l. let m : 10 ≤ n = omega arith in rw (front_more n m) (decimal_more n m))

-- putting a number: the digits before the last one first
module _ {a out : List ℕ} {at last : ℕ} (n : ℕ) where
  pub put_front_one : n < 10 → out ≡ a → last ≡ at → Put a at (leading n) out last
  put_front_one h e f = rw (front_one n h, e, f) (put_none a at)

  pub put_front_more : {b : List ℕ} {k : ℕ} → 10 ≤ n → Put a at (decimal (n / 10)) b k → out ≡ b → last ≡ k → Put a at (leading n) out last
  put_front_more h p e f = rw (front_more n h, e, f) p

  pub put_last : Put a at (leading n) out last → Put a at (decimal n) (set out last (0x30 + n % 10)) (last + 1)
  put_last p = rw (decimal_last n) (put_append (leading n) ((0x30 + n % 10) ∷ []) p (put_byte out last (0x30 + n % 10)))

  pub last_room : at + length (decimal n) ≤ length a → Put a at (leading n) out last → last < length out
  last_room h p = omega (arith, put_length (leading n) p, p.place, ap length (decimal_last n), length-append (leading n) ((0x30 + n % 10) ∷ []))

pub front_room : (n at room : ℕ) → 10 ≤ n → at + length (decimal n) ≤ room → at + length (decimal (n / 10)) ≤ room
front_room n at room h k = omega (arith, ap length (decimal_more n h), length-append (decimal (n / 10)) ((0x30 + n % 10) ∷ []))

-- a number below 10 ^ k has at most k digits, where k is not 0
pub decimal_short : (k n : ℕ) → n < 10 ^ suc k → length (decimal n) ≤ suc k
decimal_short zero n h = rw (decimal_one n (omega (arith, h))) (omega arith)
decimal_short (suc k) n h = by_cases (dec_lt n 10)
    (λ l. rw (decimal_one n l) (omega arith))
    (λ l. let m : 10 ≤ n = omega arith in
    omega (
      arith,
      ap length (decimal_more n m),
      length-append (decimal (n / 10)) ((0x30 + n % 10) ∷ []),
      decimal_short k (n / 10)
          (omega (arith, pow-suc 10 (suc k))),
    ))
