-- What bytes say that are parsed: where the parts of an ST record stand.
-- Assumes nothing.
use mathlib.Core.Path.{◌≡◌, refl, ap, ◌∙◌}
use mathlib.Core.Bool.{Bool, true, false, cond}
use mathlib.Core.List.{List, map}
use Prim.Native.Nat.{ℕ, ◌+◌, ◌*◌, ◌≤◌, ◌<◌}
use native.Mathlib.Nat.{add-zero}
use native.Mathlib.Omega.{arith}
use lib.Dec.{leb}
use lib.ListN.{length, get_or, take, drop, length-drop}
use lib.Seq.{get_or-take, get_or-drop, drop-drop}
use borrow.Author.Tests.{leb-true}
use Rattle.literals.specs.Literal.{Literal, of_byte}
use Rattle.log_form.specs.Format.{StepRecord, Parsed, parsed, malformed, and_parse, parse_bytes, parse_list, parse_record, rising_over}
use Rattle.printing.specs.Fields.{facts_end, new_end, record_size, record_in}

module _ {A B : Type 0} where
  -- what is parsed first, and what follows it
  and_then : (p : Parsed A) (next : A → List ℕ → Parsed B) {b : B} {rest : List ℕ} {C : Type 0}
      → and_parse p next ≡ parsed b rest → ((a : A) (after : List ℕ) → p ≡ parsed a after → next a after ≡ parsed b rest → C) → C
  and_then (parsed a after) next e f = f a after refl e
  and_then malformed next e f = let z : ◌≡◌ {A = ℕ} 0 1 = cc in absurd (omega arith)

-- so many bytes
record BytesParsed (n : ℕ) (s a rest : List ℕ) : Type 0 where
  pub fits : n ≤ length s
  pub are : a ≡ take n s
  pub rest_is : rest ≡ drop n s

bytes_parsed : (n : ℕ) (s : List ℕ) {a rest : List ℕ} → parse_bytes n s ≡ parsed a rest → BytesParsed n s a rest
unfolding parse_bytes
bytes_parsed n s {a} {rest} e = go (leb n (length s)) refl e
  where
    go : (b : Bool) → leb n (length s) ≡ b → cond b (parsed (take n s) (drop n s)) malformed ≡ parsed a rest → BytesParsed n s a rest
    go true t e = record { fits = leb-true n (length s) t; are = cc; rest_is = cc }
    go false t e = let z : ◌≡◌ {A = ℕ} 0 1 = cc in absurd (omega arith)

-- a list that begins at place k of s
record ListParsed (s : List ℕ) (k : ℕ) (ls : List Literal) (rest : List ℕ) : Type 0 where
  pub fits : k + 1 + get_or s k 0 ≤ length s
  pub are : ls ≡ map of_byte (take (get_or s k 0) (drop (k + 1) s))
  pub rest_is : rest ≡ drop (k + 1 + get_or s k 0) s

module _ (s : List ℕ) (k : ℕ) (n after : List ℕ) (first : BytesParsed 1 (drop k s) n after) where
  count_is : get_or n 0 0 ≡ get_or s k 0
  count_is = ap (λ l. get_or l 0 0) first.are ∙ get_or-take 1 (drop k s) 0 0 (omega arith) ∙ get_or-drop k s 0 0 ∙ ap (λ j. get_or s j 0) (add-zero k)

  after_is : after ≡ drop (k + 1) s
  after_is = first.rest_is ∙ drop-drop 1 k s

  list_from : (bytes rest : List ℕ) → BytesParsed (get_or n 0 0) after bytes rest → ListParsed s k (map of_byte bytes) rest
  list_from bytes rest then = record {
    fits = omega (arith, first.fits, then.fits, count_is, ap length after_is, length-drop (k + 1) s, length-drop k s);
    are = rw (then.are, count_is, after_is) refl;
    rest_is = then.rest_is ∙ rw (count_is, after_is) (drop-drop (get_or s k 0) (k + 1) s);
  }

rising_parsed : (s : List ℕ) (k : ℕ) (b : Bool) {ls found : List Literal} {after rest : List ℕ}
    → ListParsed s k ls after → cond b (parsed ls after) malformed ≡ parsed found rest → ListParsed s k found rest
rising_parsed s k true {ls} {found} {after} {rest} w e =
    let same : found ≡ ls = cc in
    let place : rest ≡ after = cc in
    rw (same, place) w
rising_parsed s k false w e = let z : ◌≡◌ {A = ℕ} 0 1 = cc in absurd (omega arith)

list_parsed : (choices : ℕ) (s : List ℕ) (k : ℕ) {ls : List Literal} {rest : List ℕ} → parse_list choices (drop k s) ≡ parsed ls rest → ListParsed s k ls rest
unfolding parse_list
list_parsed choices s k e =
    and_then (parse_bytes 1 (drop k s)) _ e (λ n after p e₁.
    and_then (parse_bytes (get_or n 0 0) after) _ e₁ (λ bytes rest q e₂.
    rising_parsed s k (rising_over choices 0 (map of_byte bytes))
    (list_from s k n after (bytes_parsed 1 (drop k s) p) bytes rest (bytes_parsed (get_or n 0 0) after q)) e₂))

-- an ST record at the front of s
pub record RecordParsed (s : List ℕ) (r : StepRecord) (rest : List ℕ) : Type 0 where
  pub fits : record_size s ≤ length s
  pub is : r ≡ record_in s
  pub rest_is : rest ≡ drop (record_size s) s

module _ (s : List ℕ) {head after₀ : List ℕ} (start : BytesParsed 3 s head after₀)
    {facts : List Literal} {after₁ : List ℕ} (first : ListParsed s 3 facts after₁)
    {new : List Literal} {after₂ : List ℕ} (second : ListParsed s (facts_end s) new after₂)
    {cost rest : List ℕ} (end : BytesParsed 2 after₂ cost rest) where
  goal_is : get_or head 2 0 ≡ get_or s 2 0
  goal_is = ap (λ l. get_or l 2 0) start.are ∙ get_or-take 3 s 2 0 (omega arith)

  cost_from_lem : (i : ℕ) → i < 2 → get_or cost i 0 ≡ get_or s (new_end s + i) 0
  cost_from_lem i h = ap (λ l. get_or l i 0) (end.are ∙ ap (take 2) second.rest_is) ∙ get_or-take 2 (drop (new_end s) s) i 0 h ∙ get_or-drop (new_end s) s i 0

  cost_is : 256 * get_or cost 0 0 + get_or cost 1 0 ≡ 256 * get_or s (new_end s) 0 + get_or s (new_end s + 1) 0
  cost_is = rw (cost_from_lem 0 (omega arith), cost_from_lem 1 (omega arith), add-zero (new_end s)) refl

  record_from : RecordParsed s (record { goal = of_byte (get_or head 2 0); reasons = facts; new = new; cost = 256 * get_or cost 0 0 + get_or cost 1 0 }) rest
  unfolding record_in
  record_from = record {
    fits = omega (arith, end.fits, second.fits, ap length second.rest_is, length-drop (new_end s) s);
    is = rw (goal_is, first.are, second.are, cost_is) refl;
    rest_is = end.rest_is ∙ ap (drop 2) second.rest_is ∙ drop-drop 2 (new_end s) s;
  }

record_same : (s : List ℕ) {r r' : StepRecord} {rest rest' : List ℕ} → RecordParsed s r rest → ◌≡◌ {A = Parsed StepRecord} (parsed r rest) (parsed r' rest')
    → RecordParsed s r' rest'
record_same s {r} {r'} {rest} {rest'} w e =
    let same : r' ≡ r = cc in
    let place : rest' ≡ rest = cc in
    rw (same, place) w

pub record_parsed : (choices : ℕ) (s : List ℕ) {r : StepRecord} {rest : List ℕ} → parse_record choices s ≡ parsed r rest → RecordParsed s r rest
unfolding parse_record
record_parsed choices s {r} {rest} e =
    and_then (parse_bytes 3 s) _ e (λ head after₀ p e₁.
    and_then (parse_list choices after₀) _ e₁ (λ facts after₁ q e₂.
    and_then (parse_list choices after₁) _ e₂ (λ new after₂ t e₃.
    and_then (parse_bytes 2 after₂) _ e₃ (λ cost after₃ u e₄.
    let start = bytes_parsed 3 s p in
    let first : ListParsed s 3 facts after₁ = list_parsed choices s 3 (rw start.rest_is at q) in
    let second : ListParsed s (facts_end s) new after₂ = list_parsed choices s (facts_end s) (rw first.rest_is at t) in
    record_same s (record_from s start first second (bytes_parsed 2 after₂ u)) e₄))))
