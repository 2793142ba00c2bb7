-- Going on at a `?`: a record at a place or records in a row, and what follows them, by the answer that the code matched on.
-- Assumes nothing.
use mathlib.Core.Path.{◌≡◌, refl, ap}
use mathlib.Core.List.{List}
use Prim.Native.Nat.{ℕ, ◌-◌}
use native.Mathlib.Nat.{le_of_eq}
use native.Mathlib.Omega.{arith}
use lib.ListN.{length, take, drop, length-drop}
use lib.Seq.{take_all}
use Rattle.std.specs.Prelude.{Result, Ok, Err, MatchResult}
use Rattle.records.specs.Format.{RecordRead, says, fails, Read, value, refused, begin, and_then}
use Rattle.records.specs.Refusals.{kind_of, refusal_of}
use Rattle.records.specs.Promises.{record_answer, read_answer}
use Rattle.records.specs.declared.refusal.RefusalKind.{RefusalKind}
use Rattle.records.specs.declared.refusal.Refusal.{Refusal}

-- The part that `&s[place..]` is.
abbrev pub part_from : List ℕ → ℕ → List ℕ
part_from s place = take (length s - place) (drop place s)

pub part_from_lem : (s : List ℕ) (place : ℕ) → part_from s place ≡ drop place s
part_from_lem s place = take_all _ _ (le_of_eq (length-drop place s))

-- what is read from the part, as an answer for the bytes from the place on
pub at_place : {A X : Type 0} (keep : A → ℕ → X) (recordAt : List ℕ → RecordRead A) (s : List ℕ) (place : ℕ) {r : Result X RefusalKind}
    → r ≡ record_answer keep (recordAt (part_from s place)) → r ≡ record_answer keep (recordAt (drop place s))
at_place keep recordAt s place e = rw part_from_lem at e

-- where records are refused, the refusal is answered
pub refused_answer : {B C : Type 0} (keep : B → ℕ → C) {d : Refusal} {number place : ℕ} {m : Read B} → m ≡ refused number place → d ≡ refusal_of number place
    → Err d ≡ read_answer keep m
unfolding read_answer
refused_answer keep e f = rw (e, f) refl

-- where they are read, what is kept of them
pub value_answer : {B C : Type 0} (keep : B → ℕ → C) {x : C} {b : B} {place : ℕ} {m : Read B} → m ≡ value b place → x ≡ keep b place → Ok x ≡ read_answer keep m
unfolding read_answer
value_answer keep e f = rw (e, f) refl

-- A record at a place, as `read(part).map_err(|kind| kind.at(place))?` reads it. `P` is what the closure promises of its argument.
module _ {A X : Type 0} (keep : A → ℕ → X) (o : RecordRead A) {r : Result X RefusalKind} (e : r ≡ record_answer keep o) where
  module _ {d : Refusal} {P : RefusalKind → Type 0} (place : ℕ) (m : MatchResult r (λ x. ◌≡◌ {A = Result X Refusal} (Err d) (Ok x)) P)
      (given : (kind : RefusalKind) → P kind → d ≡ record { kind = kind; place = place }) where
    -- where the code has an error, the record fails
    pub begin_fails : (number : ℕ) × (o ≡ fails number) × (d ≡ refusal_of number place)
    unfolding record_answer
    begin_fails = go o refl
      where
        go : (p : RecordRead A) → o ≡ p → (number : ℕ) × (o ≡ fails number) × (d ≡ refusal_of number place)
        go (says a len) f =
            let z : ◌≡◌ {A = Result X Refusal} (Err d) (Ok (keep a len)) = rw (e, f) at m in
            let y : ◌≡◌ {A = ℕ} 0 1 = cc in
            absurd (omega arith)
        go (fails n) f = let z : P (kind_of n) = rw (e, f) at m in (n, f, given _ z)

    -- and all that begins with it is refused
    pub begin_err : {B C : Type 0} (keep' : B → ℕ → C) (next : A → ℕ → Read B) → Err d ≡ read_answer keep' (begin place o next)
    begin_err keep' next = let f = begin_fails in refused_answer keep' (ap (λ p. begin place p next) f.1) f.2

  -- where it has a value, the record says it
  pub begin_ok : {x : X} → MatchResult r (λ y. ◌≡◌ {A = Result X Refusal} (Ok x) (Ok y)) (λ kind. ⊥) → (a : A) × (len : ℕ) × (o ≡ says a len) × (x ≡ keep a len)
  unfolding record_answer
  begin_ok {x} m = go o refl
    where
      go : (p : RecordRead A) → o ≡ p → (a : A) × (len : ℕ) × (o ≡ says a len) × (x ≡ keep a len)
      go (says a len) f = let z : ◌≡◌ {A = Result X Refusal} (Ok x) (Ok (keep a len)) = rw (e, f) at m in (a, len, f, cc)
      go (fails n) f = let z : ⊥ = rw (e, f) at m in absurd z

-- Records in a row, as `read_all(s, place)?` reads them.
module _ {A X : Type 0} (keep : A → ℕ → X) (m : Read A) where
  -- where the code has an error, they are refused
  pub then_fails : {d : Refusal} → Err d ≡ read_answer keep m → (number : ℕ) × (place : ℕ) × (m ≡ refused number place) × (d ≡ refusal_of number place)
  unfolding read_answer
  then_fails {d} e = go m refl
    where
      go : (p : Read A) → m ≡ p → (number : ℕ) × (place : ℕ) × (m ≡ refused number place) × (d ≡ refusal_of number place)
      go (value a place) f =
          let z : ◌≡◌ {A = Result X Refusal} (Err d) (Ok (keep a place)) = rw f at e in
          let y : ◌≡◌ {A = ℕ} 0 1 = cc in
          absurd (omega arith)
      go (refused n place) f = let z : ◌≡◌ {A = Result X Refusal} (Err d) (Err (refusal_of n place)) = rw f at e in (n, place, f, cc)

  -- where it has a value, they are read
  pub then_ok : {x : X} → Ok x ≡ read_answer keep m → (a : A) × (place : ℕ) × (m ≡ value a place) × (x ≡ keep a place)
  unfolding read_answer
  then_ok {x} e = go m refl
    where
      go : (p : Read A) → m ≡ p → (a : A) × (place : ℕ) × (m ≡ value a place) × (x ≡ keep a place)
      go (value a place) f = let z : ◌≡◌ {A = Result X Refusal} (Ok x) (Ok (keep a place)) = rw f at e in (a, place, f, cc)
      go (refused n place) f =
          let z : ◌≡◌ {A = Result X Refusal} (Ok x) (Err (refusal_of n place)) = rw f at e in
          let y : ◌≡◌ {A = ℕ} 0 1 = cc in
          absurd (omega arith)

  -- and all that begins with them is refused
  pub then_err : {B C : Type 0} {d : Refusal} (keep' : B → ℕ → C) (next : A → ℕ → Read B) → Err d ≡ read_answer keep m → Err d ≡ read_answer keep' (and_then m next)
  then_err keep' next e = let f = then_fails e in refused_answer keep' (ap (λ p. and_then p next) f.2) f.3
