-- What a C program can tell from what it sees. Assumes nothing.
use mathlib.Core.Path.{◌≡◌, refl, sym, ap, ◌∙◌}
use mathlib.Core.Bool.{Bool, true, false, cond}
use mathlib.Core.List.{List}
use Prim.Native.Nat.{ℕ, ◌≤◌, ◌<◌}
use native.Mathlib.Omega.{arith}
use lib.Dec.{ltb}
use lib.IntN.{pos, nat_abs}
use lib.ListN.{length}
use Rattle.dates.specs.declared.Moment.{Moment}
use Rattle.literals.specs.Literal.{literal_of}
use Rattle.literals.specs.declared.LiteralSet.{LiteralSet}
use Rattle.records.specs.Limits.{max_log}
use Rattle.records.specs.Format.{Read, value, refused, OrderBook, read_book}
use Rattle.book.specs.Answer.{masked_book, table, book_answer, table_answer}
use Rattle.book.proofs.PlaceLaws.{reader_places}
use Rattle.problem.specs.Problem.{Problem, given}
use Rattle.consequence.specs.Meaning.{has_model, consequence_of}
use Rattle.step.specs.Meaning.{question_of, Answer, nothing_left, step, step_of}
use Rattle.log_form.specs.Format.{log_bytes}
use Rattle.log_form.specs.Restarts.{is_begun}
use Rattle.log_writer.specs.Meaning.{run_for, log_of}
use Rattle.dimacs.specs.Text.{Formula}
use Rattle.dimacs.specs.Import.{imported, imported_bytes, import_answer}
use Rattle.std.specs.Prelude.{Some, None, Ok, Err}
use Rattle.records.specs.Promises.{read_answer}
use Rattle.records.specs.Refusals.{number_of, kind_of, refuses}
use Rattle.records.specs.declared.refusal.RefusalKind.{RefusalKind}
use Rattle.records.specs.declared.refusal.RefusalKind.TheVariants as kind
use Rattle.log_form.specs.declared.Step.{Step}
use Rattle.engine.specs.Calls.{StepAnswer, posed, with_model, model_answer, first_model, consequence_answer, between, step_says, step_for, step_answer}
use Rattle.engine.specs.Calls.{IsNext, LogOutcome, logged, refused_with, log_outcome, log_answer, resumed, resumed_outcome}
use Rattle.engine.specs.Numbers.{Kept}
use Rattle.engine.proofs.DimacsLaws.{text_refusal}
use Rattle.engine.proofs.Numbers.{numbers_kept}
use Rattle.engine.proofs.PosedLaws.{posed_places}
use Rattle.c_interface.specs.Seen.{code, number_in, place_in, Outcome, done, refusal, returned, behind, as_literals, shown_book}
use Rattle.c_interface.specs.Seen.{seen_book, seen_costs, seen_imported, seen_model, seen_consequence, seen_step, seen_log, read_as, step_as, log_as}
use Rattle.c_interface.specs.Calls.{StepSeen}
use Rattle.c_interface.specs.Told.{Told, AllTold, ResumeTold, GoalTold}

-- What is meant and what is seen: both done with the same, or a refusal with the number of a check, which is the number that is meant, at a place of so many
-- bytes or at their end.
data Bounded {B : Type 0} (bytes : ℕ) : Outcome B → Outcome B → Type 0 where
  is_done : {b : B} → Bounded bytes (done b) (done b)
  refusal_in : (kind : RefusalKind) {number place : ℕ} → number_of kind ≡ number → place ≤ bytes
      → Bounded bytes (refusal number place) (refusal (number_of kind) place)

-- a check's number is not 0, and a byte has room for it
bounds : (kind : RefusalKind) → (1 ≤ number_of kind) × (number_of kind < 256)
bounds kind.CutShort = (omega arith, omega arith)
bounds kind.Mark = (omega arith, omega arith)
bounds kind.Counts = (omega arith, omega arith)
bounds kind.Cost = (omega arith, omega arith)
bounds kind.LiteralCount = (omega arith, omega arith)
bounds kind.Literals = (omega arith, omega arith)
bounds kind.AfterEnd = (omega arith, omega arith)
bounds kind.ShortBuffer = (omega arith, omega arith)
bounds kind.NoFilling = (omega arith, omega arith)
bounds kind.KnownSet = (omega arith, omega arith)
bounds kind.Text = (omega arith, omega arith)
bounds kind.TextLimits = (omega arith, omega arith)
bounds kind.Times = (omega arith, omega arith)
bounds kind.Beginning = (omega arith, omega arith)

-- ---- such an outcome is told

module _ {B : Type 0} {bytes : ℕ} where
  told : {meant o : Outcome B} → Bounded bytes meant o → Told bytes meant o
  unfolding returned code number_in place_in
  told is_done = record {
    as_meant = refl;
    zero_done = λ e. (_, refl);
    number_read = λ e. let z : ◌≡◌ {A = ℕ} 0 1 = cc in absurd (omega arith);
    place_read = λ e l. let z : ◌≡◌ {A = ℕ} 0 1 = cc in absurd (omega arith);
  }
  told (refusal_in c {place = p} k h) = record {
    as_meant = ap (λ n. refusal n p) k;
    zero_done = λ e. absurd (omega (arith, (bounds c).0));
    number_read = λ {number} e. let same : number_of c ≡ number = cc in omega (arith, (bounds c).1);
    place_read = λ {number} {place} e l. let same : p ≡ place = cc in omega (arith, (bounds c).1);
  }

-- ---- the outcomes of the calls

module _ {B : Type 0} where
  -- the refusals after the book
  at_0 : (number : ℕ) {bytes : ℕ} → Kept number → Bounded {B = B} bytes (refusal number 0) (refusal (number_of (kind_of number)) 0)
  at_0 number k = refusal_in (kind_of number) k (omega arith)

  -- a book that is refused, and a moment or a book
  reader_bounded : (s : List ℕ) {number place : ℕ} → read_book s ≡ refused number place
      → Bounded {B = B} (length s) (refusal number place) (refusal (number_of (kind_of number)) place)
  reader_bounded s {number} e = refusal_in (kind_of number) ((numbers_kept s).book e) (reader_places s e)

  posed_bounded : (moment : Moment) (s : List ℕ) {number place : ℕ} → posed moment s ≡ refused number place
      → Bounded {B = B} (length s) (refusal number place) (refusal (number_of (kind_of number)) place)
  posed_bounded moment s {number} e = refusal_in (kind_of number) ((numbers_kept s).at_moment moment e) (posed_places moment s e)

-- the readers of a book
book_bounded : (s : List ℕ) (m : Read OrderBook) → read_book s ≡ m
    → Bounded (length s) (read_as (λ b. shown_book (masked_book b)) m) (seen_book (book_answer m))
unfolding book_answer read_answer
book_bounded s (value book end) e = is_done
book_bounded s (refused number place) e = reader_bounded s e

costs_bounded : (s : List ℕ) (m : Read OrderBook) → read_book s ≡ m
    → Bounded (length s) (read_as (λ b. table b.costs) m) (seen_costs (table_answer (λ b. b.costs) m) (book_answer m))
unfolding book_answer read_answer table_answer
costs_bounded s (value book end) e = is_done
costs_bounded s (refused number place) e = reader_bounded s e

-- the reader of a text
dimacs_bounded : (s : List ℕ) (room : ℕ) (m : Read Formula) → imported room s ≡ m
    → Bounded (length s) (read_as (λ f. length (imported_bytes f)) m) (seen_imported (import_answer m))
unfolding import_answer
dimacs_bounded s room (value f end) e = is_done
dimacs_bounded s room (refused number place) e = refusal_in (kind_of number) ((numbers_kept s).imported room e) (text_refusal room s e).placed

-- the calls that give 9 by `with_model`
module _ {A B : Type 0} (answer : Problem → A) (refuse : ℕ → ℕ → A) (seen : A → Outcome B) (shows : (n p : ℕ) → seen (refuse n p) ≡ refusal (number_of (kind_of n)) p)
    (meant : Problem → Outcome B) (answers : (bytes : ℕ) (p : Problem) → Bounded bytes (meant p) (seen (answer p))) where
  model_bounded : (moment : Moment) (s : List ℕ) (m : Read Problem) → posed moment s ≡ m
      → Bounded (length s) (with_model meant refusal m) (seen (with_model answer refuse m))
  unfolding with_model
  model_bounded moment s (refused number place) e = rw (shows number place) (posed_bounded moment s e)
  model_bounded moment s (value p end) e = go (has_model p)
    where
      go : (h : Bool) → Bounded (length s) (cond h (meant p) (refusal 9 0)) (seen (cond h (answer p) (refuse 9 0)))
      go true = answers (length s) p
      go false = rw (shows 9 0) (at_0 9 refl)

-- a step, nothing left, or 10
step_bounded : (known : LiteralSet) (bytes : ℕ) (p : Problem) → Bounded bytes (step_as known p) (seen_step (step_for known p))
unfolding step_for step_says
step_bounded known bytes p = go (between (given p) known (consequence_of p)) (step_of (question_of p known))
  where
    go : (b : Bool) (a : Answer) → Bounded bytes (cond b (seen_step (step_says a)) (refusal 10 0)) (seen_step (cond b (step_says a) (refuses 10 0)))
    go false a = at_0 10 refl
    go true nothing_left = is_done
    go true (step s) = is_done

-- 8, and then as the others
log_bounded : (moment : Moment) (s : List ℕ) (room : ℕ) (m : Read Problem) → posed moment s ≡ m
    → Bounded (length s) (log_as (log_outcome room m)) (seen_log (log_answer (log_outcome room m)))
unfolding log_outcome log_answer with_model
log_bounded moment s room (refused number place) e = posed_bounded moment s e
log_bounded moment s room (value q end) e = go (ltb room max_log) (has_model q)
  where
    log_of_call : Bool → Bool → LogOutcome
    log_of_call t h = cond t (refused_with 8 0) (cond h (logged (log_of (run_for q))) (refused_with 9 0))

    go : (t h : Bool) → Bounded (length s) (log_as (log_of_call t h)) (seen_log (log_answer (log_of_call t h)))
    go true h = at_0 8 refl
    go false true = is_done
    go false false = at_0 9 refl

-- and 15 after them
resume_bounded : (written : ℕ) (old : List ℕ) {bytes : ℕ} (o : LogOutcome) → Bounded bytes (log_as o) (seen_log (log_answer o))
    → Bounded bytes (log_as (resumed written old o)) (seen_log (log_answer (resumed written old o)))
unfolding resumed log_answer
resume_bounded written old (refused_with n p) b = b
resume_bounded written old {bytes} (logged l) b = go (is_begun written old (log_bytes l))
  where
    go : (t : Bool) → Bounded bytes (log_as (cond t (logged l) (refused_with 15 0))) (seen_log (log_answer (cond t (logged l) (refused_with 15 0))))
    go true = is_done
    go false = at_0 15 refl

pub all_told : (s : List ℕ) → AllTold s
unfolding model_answer consequence_answer step_answer
all_told s = record {
  book = told (book_bounded s (read_book s) refl);
  costs = told (costs_bounded s (read_book s) refl);
  dimacs = λ old. told (dimacs_bounded s (length old) _ refl);
  model = λ moment.
      told (model_bounded (λ p. Ok (first_model p)) refuses seen_model (λ n p. refl) (λ p. done (first_model p)) (λ bytes p. is_done)
      moment s (posed moment s) refl);
  consequence = λ moment.
      told (model_bounded (λ p. Ok (consequence_of p)) refuses seen_consequence (λ n p. refl) (λ p. done (consequence_of p)) (λ bytes p. is_done)
      moment s (posed moment s) refl);
  step = λ moment on off.
      told (model_bounded (step_for (as_literals on off)) refuses seen_step (λ n p. refl) (step_as (as_literals on off)) (step_bounded (as_literals on off))
      moment s (posed moment s) refl);
  log = λ moment old. told (log_bounded moment s (length old) (posed moment s) refl);
}

-- and of the call that carries a log on
pub resume_told : (s : List ℕ) → ResumeTold s
unfolding resumed_outcome
resume_told s = record {
  resume = λ moment written old. told (resume_bounded written old _ (log_bounded moment s (length old) (posed moment s) refl));
}

-- ---- the goal

-- no literal is 0
literal_not_0 : (v : ℕ) (says : Bool) → literal_of v says ≡ pos 0 → ⊥
literal_not_0 v true e = let z = ap nat_abs e in omega arith
literal_not_0 v false e = let z = ap nat_abs e in omega arith

-- the goal of a step is a literal
step_goal : (m : Read Problem) (known : LiteralSet) (x : Step) → IsNext m known (Ok (Some x)) → x.goal ≡ pos 0 → ⊥
step_goal (value p end) known x i e = literal_not_0 i.variable i.says (sym i.goal_said ∙ e)
step_goal (refused number place) known x i e = let z : ◌≡◌ {A = ℕ} 0 1 = cc in omega arith

pub goal_told : (s : List ℕ) (moment : Moment) (on off : ℕ) → GoalTold s moment on off
unfolding behind
goal_told s moment on off = record { nothing_left = λ {before} {after} x e. go (step_answer on off (posed moment s)) refl x e }
  where
    go : (a : StepAnswer) → step_answer on off (posed moment s) ≡ a → {before after : Step} → StepSeen s moment on off before after 0
        → after.goal ≡ pos 0 → step_answer on off (posed moment s) ≡ Ok None
    go (Ok None) a x e = a
    go (Err f) a x e =
        let d = ((all_told s).step moment on off).zero_done (sym x.returns) in
        let r : seen_step (Err f) ≡ done d.0 = ap seen_step (sym a) ∙ d.1 in
        let z : ◌≡◌ {A = ℕ} 0 1 = cc in absurd (omega arith)
    go (Ok (Some y)) a {before} x e =
        absurd (step_goal (posed moment s) (as_literals on off) y (rw a at x.called.is_next)
        (sym (ap (λ (t : Step). t.goal) (x.leaves ∙ ap (λ (o : StepAnswer). behind (seen_step o) before) a)) ∙ e))
