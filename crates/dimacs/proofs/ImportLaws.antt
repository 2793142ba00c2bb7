-- The call: a short buffer, a text that is refused, and the book that is put.
-- Assumes nothing.
use mathlib.Core.Path.{◌≡◌, refl, ap, ◌∙◌}
use mathlib.Core.List.{List}
use Prim.Native.Nat.{ℕ, ◌≤◌, ◌<◌}
use native.Mathlib.Nat.{zero-add}
use native.Mathlib.Omega.{arith}
use borrow.Author.Tests.{lt-ltb, le-ltb}
use lib.ListN.{length, length-map}
use Rattle.std.specs.Prelude.{Result, Ok, Err, IsErrAnd}
use Rattle.std.proofs.lemmas.Result.{err_from_is_err_and}
use Rattle.records.specs.Limits.{max_variables, max_without_facts}
use Rattle.records.specs.Format.{value}
use Rattle.records.specs.Refusals.{refusal_of}
use Rattle.records.specs.Promises.{masks, read_answer}
use Rattle.records.specs.declared.refusal.Refusal.{Refusal}
use Rattle.records.proofs.ReadLaws.{then_fails}
use Rattle.log_form.specs.Promises.{Put}
use Rattle.log_form.proofs.StoreLaws.{put_whole}
use Rattle.dimacs.specs.Text.{Formula, rule_of, formula_of}
use Rattle.dimacs.specs.Import.{kept_of, rules_of, book_bytes, imported_bytes, imported, import_answer, buffer_after, ImportedAs}
use Rattle.dimacs.specs.Promises.{kept_masks, formula_read, written_bytes}
use Rattle.dimacs.specs.declared.Formula as kept
use Rattle.dimacs.proofs.Good.{formula_good}
use Rattle.dimacs.proofs.ReadLaws.{formula_ok}
use Rattle.dimacs.proofs.RoundTrip.{book_short}
use Rattle.dimacs.proofs.WritingLaws.{masked_rules}

-- ---- refusals

pub import_short : (s before : List ℕ) → length before < max_without_facts → ImportedAs (imported (length before) s) before before (Err (refusal_of 8 0))
unfolding imported import_answer buffer_after
import_short s before h = rw (lt-ltb _ _ h) (record { answered = refl; buffer = refl })

long_enough : (s before : List ℕ) → max_without_facts ≤ length before → imported (length before) s ≡ formula_of s
unfolding imported
long_enough s before h = rw (le-ltb _ _ h) refl

module _ (s before : List ℕ) (h : max_without_facts ≤ length before) where
  pub import_refused : {d : Refusal} {r : Result ℕ Refusal} → Err d ≡ read_answer formula_read (formula_of s) → IsErrAnd r (λ y. y ≡ d)
      → ImportedAs (imported (length before) s) before before r
  unfolding import_answer buffer_after
  import_refused {r = r} e g =
      let q = then_fails formula_read (formula_of s) e in
      let z = err_from_is_err_and r g in
      let same : r ≡ Err (refusal_of q.0 q.1) = z.1 ∙ ap (λ y. Err y) (z.2 ∙ q.3) in
      rw (long_enough s before h, q.2) (record { answered = same; buffer = refl })

-- ---- the book

-- what is put is the book
book_put : (f : Formula) → written_bytes f.variables (kept_masks f.clauses) ≡ imported_bytes f
unfolding written_bytes book_bytes rules_of
book_put f = rw (length-map (kept_of f.clauses) masks, length-map (kept_of f.clauses) rule_of, masked_rules (kept_of f.clauses)) refl

-- What the writer asks of a text that was read, and what it then puts.
pub record Handed (s : List ℕ) (n : kept.Formula) : Type 0 where
  pub formula : Formula
  pub end : ℕ
  pub read : formula_of s ≡ value formula end
  pub few_variables : n.variables ≤ max_variables
  pub bytes : written_bytes n.variables n.clauses.items ≡ imported_bytes formula

pub handed : (s : List ℕ) {n : kept.Formula} → Ok n ≡ read_answer formula_read (formula_of s) → Handed s n
handed s e =
    let k = formula_ok (formula_of s) e in
    record {
      formula = k.0;
      end = k.1;
      read = k.2;
      few_variables = rw k.3 (formula_good s k.2).few_variables;
      bytes = ap (λ (n : kept.Formula). written_bytes n.variables n.clauses.items) k.3 ∙ book_put k.0;
    }

module _ (s before : List ℕ) (h : max_without_facts ≤ length before) {n : kept.Formula} (w : Handed s n) where
  -- there is room for the book
  pub book_room : length (written_bytes n.variables n.clauses.items) ≤ length before
  book_room = rw w.bytes (omega (arith, book_short (formula_good s w.read)))

  pub import_written : {after : List ℕ} {size : ℕ} → Put before 0 (written_bytes n.variables n.clauses.items) after size
      → ImportedAs (imported (length before) s) before after (Ok size)
  unfolding import_answer buffer_after
  import_written t =
      let whole = put_whole (written_bytes n.variables n.clauses.items) t book_room in
      rw (long_enough s before h, w.read) (record {
        answered = ap (λ size. Ok size) (t.place ∙ zero-add _ ∙ ap length w.bytes);
        buffer = rw w.bytes at whole;
      })
