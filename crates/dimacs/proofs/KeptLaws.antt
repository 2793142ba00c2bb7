-- The clauses in a row, and the masks of the kept ones.
-- Assumes nothing.
use mathlib.Core.Path.{◌≡◌, refl, sym, ap, ◌∙◌}
use mathlib.Core.Bool.{Bool, true, false, cond}
use mathlib.Core.List.{List, [], ◌∷◌, ◌++◌, map-append}
use Rattle.std.specs.Prelude.{Ok}
use Prim.Native.Nat.{ℕ, suc, ◌+◌, ◌-◌, ◌≤◌, ◌<◌}
use native.Mathlib.Nat.{sub-zero}
use native.Mathlib.Omega.{arith}
use lib.ListN.{length, length-append, length-map}
use Rattle.literals.specs.Literal.{Literal}
use Rattle.literals.specs.declared.LiteralSet.{LiteralSet}
use Rattle.records.specs.Format.{Read, value, refused, with_item}
use Rattle.records.specs.Promises.{masks, read_answer}
use Rattle.records.proofs.RowLaws.{SoFar, so_far_none, so_far_more, so_far_refused, so_far_all}
use Rattle.dimacs.specs.Text.{is_dropped, clause_from, clauses_from}
use Rattle.dimacs.specs.Import.{kept_of}
use Rattle.dimacs.specs.Promises.{clause_read, kept_masks, clashes}
use Rattle.dimacs.specs.declared.clauses.Clause.{Clause}
use Rattle.dimacs.proofs.ReadLaws.{clause_ok}
use Rattle.dimacs.proofs.ClauseLaws.{dropped_masks}

-- ---- the clauses that are kept

kept_same : (done : List (List Literal)) (c : List Literal) → is_dropped c ≡ true → kept_of (done ++ (c ∷ [])) ≡ kept_of done
unfolding kept_of
kept_same [] c e = rw e refl
kept_same (d ∷ done) c e = ap (λ r. cond (is_dropped d) r (d ∷ r)) (kept_same done c e)

kept_more : (done : List (List Literal)) (c : List Literal) → is_dropped c ≡ false → kept_of (done ++ (c ∷ [])) ≡ kept_of done ++ (c ∷ [])
unfolding kept_of
kept_more [] c e = rw e refl
kept_more (d ∷ done) c e = go (is_dropped d) (kept_more done c e)
  where
    go : (b : Bool) → kept_of (done ++ (c ∷ [])) ≡ kept_of done ++ (c ∷ [])
        → cond b (kept_of (done ++ (c ∷ []))) (d ∷ kept_of (done ++ (c ∷ []))) ≡ cond b (kept_of done) (d ∷ kept_of done) ++ (c ∷ [])
    go true h = h
    go false h = ap (λ r. d ∷ r) h

pub kept_fewer : (cs : List (List Literal)) → length (kept_of cs) ≤ length cs
unfolding kept_of
kept_fewer [] = omega arith
kept_fewer (c ∷ cs) = go (is_dropped c) (kept_fewer cs)
  where
    go : (b : Bool) → length (kept_of cs) ≤ length cs → length (cond b (kept_of cs) (c ∷ kept_of cs)) ≤ suc (length cs)
    go true h = omega arith
    go false h = omega arith

-- ---- the masks of those that are kept

-- After i clauses.
pub record KeptIn (sets : List LiteralSet) (i : ℕ) (done : List (List Literal)) : Type 0 where
  pub counted : length done ≡ i
  pub stored : sets ≡ kept_masks done

pub kept_none : KeptIn [] 0 []
unfolding kept_of
kept_none = record { counted = refl; stored = refl }

module _ {sets : List LiteralSet} {i : ℕ} {done : List (List Literal)} (g : KeptIn sets i done) where
  pub kept_upto : length sets ≤ i
  kept_upto = rw g.stored (omega (arith, kept_fewer done, length-map (kept_of done) masks, g.counted))

  module _ (c : List Literal) where
    one_more : length (done ++ (c ∷ [])) ≡ i + 1
    one_more = length-append done (c ∷ []) ∙ ap (λ n. n + 1) g.counted

    pub kept_dropped : is_dropped c ≡ true → KeptIn sets (i + 1) (done ++ (c ∷ []))
    kept_dropped e = record { counted = one_more; stored = rw (kept_same done c e) g.stored }

    pub kept_stored : {two : LiteralSet} → is_dropped c ≡ false → two ≡ masks c → KeptIn (sets ++ (two ∷ [])) (i + 1) (done ++ (c ∷ []))
    kept_stored e p = record {
      counted = one_more;
      stored = rw (g.stored, p, kept_more done c e) (sym (map-append masks (kept_of done) (c ∷ [])));
    }

-- ---- the clauses in a row

module _ (s : List ℕ) (v total from : ℕ) where
  -- After i clauses, what is still to be read.
  abbrev pub clauses_left : ℕ → ℕ → Read (List (List Literal))
  clauses_left i place = clauses_from s v (total - i) place

  -- After i clauses.
  abbrev pub ClausesSoFar : List LiteralSet → ℕ → ℕ → Type 0
  ClausesSoFar sets place i = SoFar (clauses_from s v total from) (KeptIn sets i) (clauses_left i place)

  pub clauses_none : ClausesSoFar [] from 0
  clauses_none = so_far_none (rw sub-zero refl) kept_none

  module _ (place : ℕ) {sets : List LiteralSet} {i : ℕ} (g : ClausesSoFar sets place i) where
    pub clauses_all : total ≤ i → clauses_from s v total from ≡ value g.done place
    unfolding clauses_from
    clauses_all h = let left : total - i ≡ 0 = omega arith in so_far_all g (rw left refl)

    module _ (l : i < total) where
      left_one : total - i ≡ suc (total - (i + 1))
      left_one = omega arith

      pub clauses_refused : {number p : ℕ} → clause_from s v place ≡ refused number p → clauses_from s v total from ≡ refused number p
      unfolding clauses_from
      clauses_refused f = so_far_refused g (rw (left_one, f) refl)

      module _ {read : Clause} (e : Ok read ≡ read_answer clause_read (clause_from s v place)) {b : Bool} (d : b ≡ clashes read.set) where
        k : (c : List Literal) × (clause_from s v place ≡ value c read.next) × (read.set ≡ masks c)
        k = clause_ok _ e

        due : clauses_left i place ≡ with_item k.0 (clauses_left (i + 1) read.next)
        unfolding clauses_from
        due = rw (left_one, k.1) refl

        drops : {x : Bool} → b ≡ x → is_dropped k.0 ≡ x
        drops f = sym (dropped_masks k.0) ∙ ap clashes (sym k.2) ∙ sym d ∙ f

        pub clauses_drop : b ≡ true → ClausesSoFar sets read.next (i + 1)
        clauses_drop f = so_far_more k.0 g due (λ done w. kept_dropped w k.0 (drops f))

        pub clauses_keep : b ≡ false → ClausesSoFar (sets ++ (read.set ∷ [])) read.next (i + 1)
        clauses_keep f = so_far_more k.0 g due (λ done w. kept_stored w k.0 (drops f) k.2)
