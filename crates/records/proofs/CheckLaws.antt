-- From a callee's answer back to what the bytes mean: what a record's checks came to, by the answer that the code matched on.
-- Assumes nothing.
use mathlib.Core.Path.{◌≡◌, refl}
use Rattle.std.specs.Prelude.{Result, Ok, Err, IsErrAnd}
use Rattle.std.proofs.lemmas.Result.{err_from_is_err_and}
use mathlib.Core.Bool.{Bool, true, false}
use mathlib.Core.List.{List}
use Prim.Native.Nat.{ℕ, ◌≤◌, ◌<◌}
use native.Mathlib.Omega.{arith}
use borrow.Author.Tests.{le-leb, lt-leb, leb-true}
use lib.Dec.{leb}
use lib.ListN.{length}
use Rattle.records.specs.Format.{RecordRead, says, fails, check, checked_first, opened, marked}
use Rattle.records.specs.Refusals.{kind_of}
use Rattle.records.specs.Promises.{record_answer, nothing}
use Rattle.records.specs.declared.refusal.RefusalKind.{RefusalKind}

-- A record that is whole: its bytes are there, and what it says is good.
pub record Good {A : Type 0} (P : A → Type 0) (t : List ℕ) (a : A) (len : ℕ) : Type 0 where
  pub within : len ≤ length t
  pub good : P a

-- a test against a limit, from what the code has compared with a number
pub over_limit : (limit : ℕ) {m n : ℕ} → m < n → leb limit m ≡ true → leb n limit ≡ false
over_limit limit {m} {n} h k = lt-leb n limit (omega (arith, leb-true limit m k))

pub within_limit : (limit : ℕ) {m n : ℕ} → n ≤ m → leb m limit ≡ true → leb n limit ≡ true
within_limit limit {m} {n} h k = le-leb n limit (omega (arith, leb-true m limit k))

module _ {A : Type 0} where
  -- two records that say the same
  pub says_same : {a b : A} {m n : ℕ} → says a m ≡ says b n → (a ≡ b) × (n ≡ m)
  says_same e = (cc, cc)

  -- where a record says something, each of its checks has passed
  pub checked_first_says : (o : RecordRead (Unit {0})) (rest : RecordRead A) {a : A} {len : ℕ} → checked_first o rest ≡ says a len
      → (size : ℕ) × (o ≡ says tt size) × (rest ≡ says a len)
  checked_first_says (says u size) rest e = (size, refl, e)
  checked_first_says (fails n) rest e = let z : ◌≡◌ {A = ℕ} 0 1 = cc in absurd (omega arith)

  pub check_says : (b : Bool) (number : ℕ) (rest : RecordRead A) {a : A} {len : ℕ} → check b number rest ≡ says a len
      → (b ≡ true) × (rest ≡ says a len)
  check_says true number rest e = (refl, e)
  check_says false number rest e = let z : ◌≡◌ {A = ℕ} 0 1 = cc in absurd (omega arith)

-- where its checks pass, its bytes are there
pub opened_says : (mark : List ℕ) (size : ℕ) (s : List ℕ) {k : ℕ} → opened mark size s ≡ says tt k → (size ≤ length s) × (k ≡ size)
unfolding opened
opened_says mark size s {k} e =
    let a = check_says (leb 2 (length s)) 1 _ e in
    let b = check_says (marked mark s) 2 _ a.1 in
    let d = check_says (leb size (length s)) 1 (says tt size) b.1 in
    (leb-true _ _ d.0, (says_same d.1).1)

-- what the exit of a `?` returns is the callee's error
pub residual_err : {T E : Type 0} (r : Result T E) {k : E} {given : Result T E} → IsErrAnd r (λ y. y ≡ k) → Err k ≡ given → r ≡ given
residual_err r h e = let p = err_from_is_err_and r h in rw (p.1, p.2) e

module _ {A C : Type 0} (keep : A → ℕ → C) (o : RecordRead A) {r : Result C RefusalKind} (e : r ≡ record_answer keep o) where
  -- an answer that fails is that of a check that fails
  pub answered_err : {k : RefusalKind} → r ≡ Err k → (number : ℕ) × (o ≡ fails number) × (k ≡ kind_of number)
  unfolding record_answer
  answered_err {k} f = go o refl
    where
      go : (p : RecordRead A) → o ≡ p → (number : ℕ) × (o ≡ fails number) × (k ≡ kind_of number)
      go (says a len) d = let z : ◌≡◌ {A = ℕ} 0 1 = cc in absurd (omega arith)
      go (fails n) d = (n, d, cc)

  -- an answer that is there is that of a record that says something
  pub answered_ok : {c : C} → r ≡ Ok c → (a : A) × (len : ℕ) × (o ≡ says a len) × (c ≡ keep a len)
  unfolding record_answer
  answered_ok {c} f = go o refl
    where
      go : (p : RecordRead A) → o ≡ p → (a : A) × (len : ℕ) × (o ≡ says a len) × (c ≡ keep a len)
      go (says a len) d = (a, len, d, cc)
      go (fails n) d = let z : ◌≡◌ {A = ℕ} 0 1 = cc in absurd (omega arith)

module _ {A B : Type 0} (mark : List ℕ) (size : ℕ) (s : List ℕ) (keep : A → ℕ → B) (rest : RecordRead A) {r : Result (Unit {0}) RefusalKind}
    (e : r ≡ record_answer nothing (opened mark size s)) where
  -- where the beginning of a record fails, so does the record
  pub opened_err : {k : RefusalKind} → r ≡ Err k → Err k ≡ record_answer keep (checked_first (opened mark size s) rest)
  unfolding record_answer
  opened_err {k} f = go (opened mark size s) e
    where
      go : (o : RecordRead (Unit {0})) → r ≡ record_answer nothing o → Err k ≡ record_answer keep (checked_first o rest)
      go (says u len) h = let z : ◌≡◌ {A = ℕ} 0 1 = cc in absurd (omega arith)
      go (fails n) h = let same : k ≡ kind_of n = cc in rw same refl

  -- where it passes, the rest decides
  pub opened_ok : {u : Unit {0}} → r ≡ Ok u → record_answer keep (checked_first (opened mark size s) rest) ≡ record_answer keep rest
  opened_ok f = let p = answered_ok nothing (opened mark size s) e f in rw p.2 refl

-- where it passes, its bytes are there
pub opened_within : (mark : List ℕ) (size : ℕ) (s : List ℕ) {r : Result (Unit {0}) RefusalKind} {u : Unit {0}} → r ≡ record_answer nothing (opened mark size s) → r ≡ Ok u
    → size ≤ length s
opened_within mark size s e f = let p = answered_ok nothing (opened mark size s) e f in (opened_says mark size s p.2).0
