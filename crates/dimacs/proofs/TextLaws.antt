-- The clauses of a text and its end.
-- Assumes nothing.
use mathlib.Core.Path.{◌≡◌, refl, sym, ap}
use mathlib.Core.List.{List}
use Prim.Native.Nat.{ℕ, ◌≤◌, ◌<◌}
use borrow.Author.Tests.{lt-ltb, le-ltb}
use lib.ListN.{length}
use Rattle.std.specs.Prelude.{Ok}
use Rattle.records.specs.Format.{refused}
use Rattle.records.specs.Promises.{read_answer}
use Rattle.dimacs.specs.Text.{is_gap, after, clauses_from, text_ends, body_from}
use Rattle.dimacs.specs.Promises.{clauses_read, formula_read, counts_of}
use Rattle.dimacs.specs.declared.head.Head.{Head}
use Rattle.dimacs.specs.declared.clauses.Clauses.{Clauses}
use Rattle.dimacs.proofs.ReadLaws.{clauses_ok}

module _ (s : List ℕ) (head : Head) {read : Clauses} (e : Ok read ≡ read_answer clauses_read (clauses_from s head.variables head.clauses head.next))
    {end : ℕ} (g : end ≡ after s is_gap read.next) where
  pub body_late : end < length s → body_from s (counts_of head) head.next ≡ refused 12 end
  unfolding body_from text_ends
  body_late h = rw ((clauses_ok _ e).1, ← g, lt-ltb end (length s) h) refl

  pub body_whole : length s ≤ end → read_answer formula_read (body_from s (counts_of head) head.next) ≡ Ok (record { variables = head.variables; clauses = read.kept })
  unfolding body_from text_ends read_answer
  body_whole h =
      let k = clauses_ok _ e in
      rw (k.1, ← g, le-ltb end (length s) h) (ap (λ sets. Ok (record { variables = head.variables; clauses = record { items = sets } })) (sym k.2))
