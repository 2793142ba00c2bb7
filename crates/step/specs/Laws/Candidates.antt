-- The candidates as a test and as facts, the list of them, and the first. Assumes nothing.
use Rattle.std.specs.Prelude.{◌≡◌, ◌⊎◌, Bool}
use Rattle.std.proofs.Math.Path.{refl, ap, subst}
use Rattle.std.proofs.Common.{sym, ◌∙◌, inl, inr, arith}
use Rattle.std.proofs.Math.Bool.{true, false}
use Rattle.std.proofs.lemmas.Bool.{false≢true}
use mathlib.Core.List.Memᴰ
use mathlib.Core.List.{List, ◌∷◌, ◌++◌, Memᴰ}
use Prim.Native.Nat.{ℕ, zero, suc, ◌^◌, ◌<◌}
use Rattle.std.proofs.Math.Decide.{ℕ_discrete}
use Rattle.sets.specs.Sets.{has, union, subset}
use Rattle.sets.specs.Laws.Bits.{member_lt}
use Rattle.sets.specs.Laws.Subset.{has_true, one_has, subset_within, within_subset, within_le}
use Rattle.consequence.specs.Laws.Forcing.{contradicts_none, none_contradicts}
use Rattle.step.specs.Meaning.{Question, goals, against_on, against_off, refutes, is_candidate, Candidate, first_of, candidate, candidates_for}
use Rattle.step.specs.Meaning.{candidates_below, candidates, all_known}
use Rattle.step.specs.Promises.{Picks}
use Rattle.step.specs.Laws.Order.{TotalPreorder, FirstIn, first_in}

module _ (q : Question) where
  -- ---- the test

  pub candidate_picks : (v s : ℕ) → is_candidate q v s ≡ true → Picks q v s
  unfolding is_candidate refutes
  candidate_picks v s = go (has (goals q) v) (subset s (union q.known_on q.known_off)) refl refl
    where
      go : (a b : Bool) → has (goals q) v ≡ a → subset s (union q.known_on q.known_off) ≡ b
          → elim a [ true ↦ elim b [ true ↦ refutes q v s | false ↦ false ] | false ↦ false ] ≡ true → Picks q v s
      go true true p r e =
          record {
            goal = has_true (goals q) v p;
            known = subset_within s (union q.known_on q.known_off) r;
            refuted = contradicts_none q.theory (against_on q s v) (against_off q s v) e;
          }
      go true false p r e = absurd (false≢true e)
      go false b p r e = absurd (false≢true e)

  pub picks_candidate : (v s : ℕ) → Picks q v s → is_candidate q v s ≡ true
  unfolding is_candidate refutes
  picks_candidate v s x =
      rw (one_has (goals q) v x.goal, within_subset s (union q.known_on q.known_off) x.known, is_candidate)
      (none_contradicts q.theory (against_on q s v) (against_off q s v) x.refuted)

  -- ---- the list

  -- a candidate that a list has
  pub record Listed (c : Candidate) : Type 0 where
    pub is : c ≡ candidate q c.goal c.reasons
    pub picks : Picks q c.goal c.reasons

  listed : (v s : ℕ) (c : Candidate) → Picks q v s → c ≡ candidate q v s → Listed c
  unfolding candidate
  listed v s c x e = subst Listed (sym e) (record { is = refl; picks = x })

  for_sound : (v k : ℕ) (c : Candidate) → Memᴰ c (candidates_for q v k) → Listed c
  unfolding candidates_for
  for_sound v zero c m = absurd (Memᴰ.not-nil m)
  for_sound v (suc s) c m = go (is_candidate q v s) refl (for_sound v s c) m
    where
      split : is_candidate q v s ≡ true → (Memᴰ c (candidates_for q v s) → Listed c) → (c ≡ candidate q v s) ⊎ Memᴰ c (candidates_for q v s)
          → Listed c
      split e ih (inl p) = listed v s c (candidate_picks v s e) p
      split e ih (inr n) = ih n

      go : (b : Bool) → is_candidate q v s ≡ b → (Memᴰ c (candidates_for q v s) → Listed c)
          → Memᴰ c (elim b [ true ↦ candidate q v s ∷ candidates_for q v s | false ↦ candidates_for q v s ]) → Listed c
      go true e ih n = split e ih (Memᴰ.cases_cons n)
      go false e ih n = ih n

  below_sound : (k : ℕ) (c : Candidate) → Memᴰ c (candidates_below q k) → Listed c
  unfolding candidates_below
  below_sound zero c m = absurd (Memᴰ.not-nil m)
  below_sound (suc v) c m = go (has (goals q) v) (below_sound v c) m
    where
      split : (Memᴰ c (candidates_below q v) → Listed c)
          → Memᴰ c (candidates_for q v (2 ^ q.theory.variables)) ⊎ Memᴰ c (candidates_below q v) → Listed c
      split ih (inl n) = for_sound v (2 ^ q.theory.variables) c n
      split ih (inr n) = ih n

      go : (b : Bool) → (Memᴰ c (candidates_below q v) → Listed c)
          → Memᴰ c (elim b [ true ↦ candidates_for q v (2 ^ q.theory.variables) ++ candidates_below q v | false ↦ candidates_below q v ])
          → Listed c
      go true ih n = split ih (Memᴰ.append_cases (candidates_for q v (2 ^ q.theory.variables)) n)
      go false ih n = ih n

  pub candidates_sound : (c : Candidate) → Memᴰ c (candidates q) → Listed c
  unfolding candidates
  candidates_sound c m = below_sound q.theory.variables c m

  for_complete : (v k s : ℕ) → s < k → is_candidate q v s ≡ true → Memᴰ (candidate q v s) (candidates_for q v k)
  unfolding candidates_for
  for_complete v zero s h e = absurd (omega arith)
  for_complete v (suc k) s h e = go (is_candidate q v k) refl (ℕ_discrete s k) (for_complete v k s)
    where
      go : (b : Bool) → is_candidate q v k ≡ b → Dec (s ≡ k) → (s < k → is_candidate q v s ≡ true → Memᴰ (candidate q v s) (candidates_for q v k))
          → Memᴰ (candidate q v s) (elim b [ true ↦ candidate q v k ∷ candidates_for q v k | false ↦ candidates_for q v k ])
      go true d (yes p) ih = Memᴰ.head (ap (candidate q v) p)
      go true d (no p) ih = Memᴰ.tail (ih (omega arith) e)
      go false d (yes p) ih = absurd (false≢true (sym d ∙ ap (is_candidate q v) (sym p) ∙ e))
      go false d (no p) ih = ih (omega arith) e

  below_complete : (k v s : ℕ) → v < k → s < 2 ^ q.theory.variables → has (goals q) v ≡ true → is_candidate q v s ≡ true
      → Memᴰ (candidate q v s) (candidates_below q k)
  unfolding candidates_below
  below_complete zero v s h l g e = absurd (omega arith)
  below_complete (suc k) v s h l g e = go (has (goals q) k) refl (ℕ_discrete v k) (λ j. below_complete k v s j l g e)
    where
      all : List Candidate
      all = candidates_for q k (2 ^ q.theory.variables)

      go : (b : Bool) → has (goals q) k ≡ b → Dec (v ≡ k) → (v < k → Memᴰ (candidate q v s) (candidates_below q k))
          → Memᴰ (candidate q v s) (elim b [ true ↦ all ++ candidates_below q k | false ↦ candidates_below q k ])
      go true d (yes p) ih =
          Memᴰ.append_left (candidates_below q k) (subst (λ (x : ℕ). Memᴰ (candidate q v s) (candidates_for q x (2 ^ q.theory.variables))) p
          (for_complete v _ s l e))
      go true d (no p) ih = Memᴰ.append_right all (ih (omega arith))
      go false d (yes p) ih = absurd (false≢true (sym d ∙ ap (has (goals q)) (sym p) ∙ g))
      go false d (no p) ih = ih (omega arith)

  pub candidates_complete : (v s : ℕ) → v < q.theory.variables → s < 2 ^ q.theory.variables → Picks q v s → Memᴰ (candidate q v s) (candidates q)
  unfolding candidates
  candidates_complete v s h l x = below_complete q.theory.variables v s h l (one_has (goals q) v x.goal) (picks_candidate v s x)

  -- ---- the first

  -- The goals and the known variables are variables of the problem.
  pub record Sized : Type 0 where
    pub goals_below : goals q < 2 ^ q.theory.variables
    pub known_below : union q.known_on q.known_off < 2 ^ q.theory.variables

  pub picks_goal : (v s : ℕ) → Sized → Picks q v s → v < q.theory.variables
  picks_goal v s z x = member_lt q.theory.variables (goals q) v x.goal z.goals_below

  pub picks_set : (v s : ℕ) → Sized → Picks q v s → s < 2 ^ q.theory.variables
  picks_set v s z x = omega (arith, within_le s (union q.known_on q.known_off) x.known, z.known_below)

  -- c is a candidate, and none comes before it in an order.
  pub record Stepped (Le : Candidate → Candidate → Type 0) (c : Candidate) : Type 0 where
    pub listed : Listed c
    pub first : (v s : ℕ) → Picks q v s → Le c (candidate q v s)

  -- the first of all is, where all of K with the goal of the lowest variable is one
  pub first_stepped : {order : Candidate → Candidate → Bool} {Le : Candidate → Candidate → Type 0} → TotalPreorder order Le → Sized
      → Picks q (all_known q).goal (all_known q).reasons → Stepped Le (first_of order (all_known q) (candidates q))
  unfolding all_known candidate
  first_stepped {order} {Le} o z x =
      record { listed = from (Memᴰ.cases_cons it.member); first = λ v s y. it.first (candidate q v s) (Memᴰ.tail (there v s y)) }
    where
      it : FirstIn Le (all_known q ∷ candidates q) (first_of order (all_known q) (candidates q))
      it = first_in o (all_known q) (candidates q)

      from : {c : Candidate} → (c ≡ all_known q) ⊎ Memᴰ c (candidates q) → Listed c
      from {c} (inl e) = listed (all_known q).goal (all_known q).reasons c x e
      from {c} (inr m) = candidates_sound c m

      there : (v s : ℕ) → Picks q v s → Memᴰ (candidate q v s) (candidates q)
      there v s y = candidates_complete v s (picks_goal v s z y) (picks_set v s z y) y
