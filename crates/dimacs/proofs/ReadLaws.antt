-- From a callee's answer back to what the text means: a value, as it is kept.
-- Assumes nothing.
use mathlib.Core.Path.{◌≡◌, sym, ap, ◌∙◌}
use mathlib.Core.List.{List}
use Prim.Native.Nat.{ℕ, min}
use Rattle.std.specs.Prelude.{Ok}
use Rattle.literals.specs.Literal.{Literal}
use Rattle.records.specs.Format.{Read, value}
use Rattle.records.specs.Promises.{masks, read_answer}
use Rattle.records.proofs.ReadLaws.{then_ok}
use Rattle.dimacs.specs.Text.{Formula, Counts}
use Rattle.dimacs.specs.Promises.{too_large, capped, number_read, literal_read, clause_read, head_read, kept_masks, clauses_read, formula_read, counts_of}
use Rattle.dimacs.specs.declared.numbers.Number.{Number}
use Rattle.dimacs.specs.declared.numbers.Signed.{Signed}
use Rattle.dimacs.specs.declared.head.Head.{Head}
use Rattle.dimacs.specs.declared.clauses.Clause.{Clause}
use Rattle.dimacs.specs.declared.clauses.Clauses.{Clauses}
use Rattle.dimacs.specs.declared.Formula as kept

pub capped_ok : (m : Read ℕ) {n : Number} → Ok n ≡ read_answer capped m → (k : ℕ) × (m ≡ value k n.next) × (n.value ≡ min k too_large)
capped_ok m e = let q = then_ok capped m e in (q.0, q.2 ∙ ap (λ c. value q.0 c.next) (sym q.3), ap (λ c. c.value) q.3)

pub number_ok : (m : Read ℕ) {n : Number} → Ok n ≡ read_answer number_read m → m ≡ value n.value n.next
number_ok m e = let q = then_ok number_read m e in q.2 ∙ ap (λ c. value c.value c.next) (sym q.3)

pub literal_ok : (m : Read Literal) {n : Signed} → Ok n ≡ read_answer literal_read m → m ≡ value n.literal n.next
literal_ok m e = let q = then_ok literal_read m e in q.2 ∙ ap (λ c. value c.literal c.next) (sym q.3)

pub clause_ok : (m : Read (List Literal)) {n : Clause} → Ok n ≡ read_answer clause_read m → (c : List Literal) × (m ≡ value c n.next) × (n.set ≡ masks c)
clause_ok m e = let q = then_ok clause_read m e in (q.0, q.2 ∙ ap (λ c. value q.0 c.next) (sym q.3), ap (λ c. c.set) q.3)

pub head_ok : (m : Read Counts) {h : Head} → Ok h ≡ read_answer head_read m → m ≡ value (counts_of h) h.next
head_ok m e = let q = then_ok head_read m e in q.2 ∙ ap (λ c. value (counts_of c) c.next) (sym q.3)

pub clauses_ok : (m : Read (List (List Literal))) {n : Clauses} → Ok n ≡ read_answer clauses_read m
    → (cs : List (List Literal)) × (m ≡ value cs n.next) × (n.kept.items ≡ kept_masks cs)
clauses_ok m e = let q = then_ok clauses_read m e in (q.0, q.2 ∙ ap (λ c. value q.0 c.next) (sym q.3), ap (λ c. c.kept.items) q.3)

pub formula_ok : (m : Read Formula) {n : kept.Formula} → Ok n ≡ read_answer formula_read m → (f : Formula) × (end : ℕ) × (m ≡ value f end) × (n ≡ formula_read f end)
formula_ok m e = then_ok formula_read m e
