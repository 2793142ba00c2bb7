-- U + 1 models are found somewhere, for any number U of choices: where at most one choice may be yes, the model that says no of all is found first, and each
-- one after it takes out one literal, whichever it is. So the bound on the models found cannot be lowered. Assumes nothing.
use Rattle.std.specs.Prelude.{◌≡◌, refl, true, false, not, List, [], ◌∷◌, ℕ, zero, suc, ◌+◌, ◌^◌, ◌≤◌, ◌<◌, pos, negsuc, length}
use Rattle.std.proofs.Common.{sym, ap, ap₂, ◌∙◌, arith, pow_pos}
use Rattle.std.proofs.Math.Logic.{by_cases}
use Rattle.std.proofs.Math.Decide.{ℕ_discrete}
use Rattle.std.proofs.lemmas.Bool.{not-false}
use Rattle.std.specs.Int.Count.{ones-ones}
use Rattle.sets.specs.Sets.{bit, has, single, full, inter, diff, remove, count, Within}
use Rattle.sets.specs.Laws.Bits.{bit_zero, bit_none, bit_le, bit_inter, bit_single_same, bit_single_other, bit_remove_other, bit_full}
use Rattle.sets.specs.Laws.Bits.{diff_zero, ext, single_lt, full_lt, member_lt}
use Rattle.sets.specs.Laws.Count.{ones_zero, ones_single, ones_remove, zero_of_ones}
use Rattle.sets.specs.Laws.Subset.{has_true, one_has, zero_has, within_trans, inter_in_left, diff_in}
use Rattle.literals.specs.Literal.{Literal}
use Rattle.literals.specs.Truth.{holds}
use Rattle.literals.specs.declared.LiteralSet.{LiteralSet}
use Rattle.consequence.specs.Demand2.{FilledIn}
use Rattle.consequence.specs.Algorithm2.{in_every, common_no, common_of, kept_after, size, FoundInTurn, Narrowed}
use Rattle.consequence.specs.Laws.Forcing.{collect_in}
use Rattle.consequence.specs.Laws.Common.{both_no, kept_common}
use Rattle.consequence.specs.Laws.Algorithm2.{found_bounded, one_more_found}

-- At most one of n variables is yes.
pub record AtMostOne (n f : ℕ) : Type 0 where
  pub below : f < 2 ^ n
  pub at_most_one : count f ≤ 1

-- The filling that says no of all, and before it those that say yes of one variable, the last variable first.
unfoldable pub one_by_one : ℕ → List ℕ
one_by_one zero = 0 ∷ []
one_by_one (suc k) = single k ∷ one_by_one k

one_by_one_length : (k : ℕ) → length (one_by_one k) ≡ k + 1
unfolding one_by_one
one_by_one_length zero = refl
one_by_one_length (suc k) = omega (arith, one_by_one_length k)

-- a variable that none of them says yes of
still_no : (k v : ℕ) → k ≤ v → in_every (one_by_one k) (negsuc v) ≡ true
unfolding one_by_one in_every holds
still_no zero v h = rw (zero_has 0 v (bit_zero v)) refl
still_no (suc k) v h =
    let other : bit (single k) v ≡ 0 = bit_single_other k v (λ e. absurd (omega arith)) in
    rw (zero_has (single k) v other) (still_no k v (omega arith))

one_by_one_found : (n k : ℕ) → k ≤ n → FoundInTurn n (full n) (AtMostOne n) (one_by_one k)
unfolding one_by_one common_no holds
one_by_one_found n zero h = record {
  is_model = record { below = pow_pos n; at_most_one = omega (arith, ones_zero) };
  common = kept_common n (full n) (full_lt n) (0 ∷ []);
}
one_by_one_found n (suc k) h =
    one_more_found n (full n) (AtMostOne n) (full_lt n) (one_by_one k) (single k) (one_by_one_found n k (omega arith))
    (record { below = single_lt n k (omega arith); at_most_one = omega (arith, ones_single k) })
    (record { literal = negsuc k; in_set = kept; denied = ap not (one_has (single k) k (bit_single_same k)) })
  where
    kept : bit (kept_after (full n) (one_by_one k)).no k ≡ 1
    kept =
        ap (λ (s : LiteralSet). bit s.no k) (kept_common n (full n) (full_lt n) (one_by_one k))
        ∙ collect_in n _ k (omega arith) (rw (one_has (full n) k (bit_full n k (omega arith)), still_no k k (omega arith)) refl)

-- a run of n + 1 models for n choices, at whose end nothing is kept
pub most_models : (n : ℕ) → Narrowed n (full n) (AtMostOne n) (n + 1) (record { yes = 0; no = 0 })
most_models n = record {
  narrowing = record {
    found = one_by_one n;
    in_turn = one_by_one_found n n (omega arith);
    counted = one_by_one_length n;
    at_most = omega (arith, ones-ones n);
    common = ap₂ (λ (y : ℕ) (k : ℕ). record { yes = y; no = k }) (sym (zero_of_ones _ none_yes)) (sym (zero_of_ones _ none_no)) ∙ is_common;
  };
  none_left = λ f m d. none d.literal d.in_set;
}
  where
    is_common : kept_after (full n) (one_by_one n) ≡ common_of n (full n) (one_by_one n)
    is_common = kept_common n (full n) (full_lt n) (one_by_one n)

    bounded : length (one_by_one n) + size (kept_after (full n) (one_by_one n)) ≤ count (full n) + 1
    bounded = found_bounded n (full n) (AtMostOne n) (one_by_one n) (one_by_one_found n n (omega arith))

    none_yes : count (kept_after (full n) (one_by_one n)).yes ≡ 0
    none_yes = omega (arith, bounded, one_by_one_length n, ones-ones n)

    none_no : count (kept_after (full n) (one_by_one n)).no ≡ 0
    none_no = omega (arith, bounded, one_by_one_length n, ones-ones n)

    none : (l : Literal) → FilledIn (record { yes = 0; no = 0 }) l → ⊥
    none (pos zero) i = i
    none (pos (suc v)) i = absurd (omega (arith, bit_zero v))
    none (negsuc v) i = absurd (omega (arith, bit_zero v))

-- ---- from that first model as many are needed, whatever is found after it

-- The model that was found first: the last of the list.
unfoldable pub first_found : List ℕ → ℕ
first_found [] = 0
first_found (m ∷ []) = m
first_found (m ∷ (k ∷ before)) = first_found (k ∷ before)

-- a filling that says yes of at most one variable, and of this one, says yes of it alone
only_one : (m v : ℕ) → count m ≤ 1 → bit m v ≡ 1 → m ≡ single v
only_one m v c b =
    let none : remove m v ≡ 0 = zero_of_ones _ (omega (arith, ones_remove m v b)) in
    ext m (single v)
    (λ u.
    by_cases (ℕ_discrete u v) (λ e. rw e (b ∙ sym (bit_single_same v)))
    (λ e. sym (bit_remove_other m v u e) ∙ bit_none (remove m v) u none ∙ sym (bit_single_other v u e)))

inter_none : (a b : ℕ) → a ≡ 0 → inter a b ≡ 0
inter_none a b e = ext (inter a b) 0 (λ v. omega (arith, bit_inter a b v, bit_none a v e, bit_zero v))

-- no literal that says yes is kept, and one literal fewer for each model after the first
record OneFewer (n : ℕ) (found : List ℕ) : Type 0 where
  no_yes : (kept_after (full n) found).yes ≡ 0
  fewer : length found + count (kept_after (full n) found).no ≡ n + 1
  within : Within (kept_after (full n) found).no (full n)

one_fewer : (n : ℕ) (found : List ℕ) → FoundInTurn n (full n) (AtMostOne n) found → first_found found ≡ 0 → OneFewer n found
unfolding kept_after first_found holds remove
one_fewer n [] t e = absurd t
one_fewer n (m ∷ []) t e = record {
  no_yes = inter_none m (full n) e;
  fewer = rw (e, diff_zero (full n), ones-ones n) (omega arith);
  within = diff_in (full n) m;
}
one_fewer n (m ∷ (k ∷ before)) t e = go (one_fewer n (k ∷ before) t.1 e) t.0.denies.literal t.0.denies.in_set t.0.denies.denied
  where
    go : OneFewer n (k ∷ before) → (l : Literal) → FilledIn (kept_after (full n) (k ∷ before)) l → holds m l ≡ false → OneFewer n (m ∷ (k ∷ before))
    go o (pos zero) i d = absurd i
    go o (pos (suc v)) i d = absurd (omega (arith, bit_none (kept_after (full n) (k ∷ before)).yes v o.no_yes))
    go o (negsuc v) i d =
        let is : m ≡ single v = only_one m v t.0.is_model.at_most_one (has_true m v (not-false (has m v) d)) in
        let out : inter (kept_after (full n) (k ∷ before)).no (diff (full n) m) ≡ remove (kept_after (full n) (k ∷ before)).no v =
        both_no (kept_after (full n) (k ∷ before)).no m (full n) o.within ∙ ap (diff (kept_after (full n) (k ∷ before)).no) is in
        record {
          no_yes = inter_none (kept_after (full n) (k ∷ before)).yes (inter m (full n)) o.no_yes;
          fewer = rw out (omega (arith, o.fewer, ones_remove (kept_after (full n) (k ∷ before)).no v i));
          within = within_trans _ _ _ (inter_in_left (kept_after (full n) (k ∷ before)).no (diff (full n) m)) o.within;
        }

-- where at most one variable may be yes, a run that begins with the filling that says no of all finds n + 1 models
pub most_needed : {n number : ℕ} {answer : LiteralSet} (w : Narrowed n (full n) (AtMostOne n) number answer) → first_found w.narrowing.found ≡ 0
    → number ≡ n + 1
unfolding holds
most_needed {n} {number} {answer} w e =
    omega (arith, w.narrowing.counted, o.fewer, ap (λ (s : LiteralSet). count s.no) kept, ap count none, ones_zero)
  where
    o : OneFewer n w.narrowing.found
    o = one_fewer n w.narrowing.found w.narrowing.in_turn e

    kept : kept_after (full n) w.narrowing.found ≡ answer
    kept = kept_common n (full n) (full_lt n) w.narrowing.found ∙ sym w.narrowing.common

    -- the filling that says yes of a variable alone denies that it is no
    left : (v : ℕ) → bit answer.no v ≡ 1 → ⊥
    left v b =
        let inside : bit (full n) v ≡ 1 =
        omega (arith, o.within.keeps v, ap (λ (s : LiteralSet). bit s.no v) kept, bit_le (full n) v) in
        w.none_left (single v)
        (record { below = single_lt n v (member_lt n (full n) v inside (full_lt n)); at_most_one = omega (arith, ones_single v) })
        (record { literal = negsuc v; in_set = b; denied = ap not (one_has (single v) v (bit_single_same v)) })

    none : answer.no ≡ 0
    none =
        ext answer.no 0
        (λ v. by_cases (ℕ_discrete (bit answer.no v) 1) (λ b. absurd (left v b)) (λ b. omega (arith, bit_le answer.no v, bit_zero v)))
