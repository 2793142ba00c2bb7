-- Algorithm 2, one round: that after each model what is kept is what the models found so far have in common, and that a model which denies a kept literal
-- takes it out. Assumes nothing.
use Rattle.std.specs.Prelude.{◌≡◌, refl, Bool, true, false, not, ◌&&◌, ℕ, zero, suc, ◌-◌, ◌^◌, ◌<◌, min, pos, negsuc}
use Rattle.std.proofs.Math.Path.{sym, ap}
use Rattle.std.proofs.Common.{ap₂, ◌∙◌, ⊎_elim}
use mathlib.Core.List.{List, [], ◌∷◌}
use native.Mathlib.Omega.{arith}
use Rattle.std.proofs.lemmas.Bool.{not-false}
use Rattle.std.proofs.lemmas.Nat.{and_comm}
use Rattle.sets.specs.Sets.{bit, has, inter, diff, Within}
use Rattle.sets.specs.Laws.Bits.{bit_le, bit_inter, bit_diff, inter_lt, diff_lt, ext, ext_below}
use Rattle.sets.specs.Laws.Count.{ones_within, ones_less}
use Rattle.sets.specs.Laws.Subset.{has_true, has_false, one_has, zero_has, within_refl, within_trans, within_bit, inter_in_left, diff_in}
use Rattle.literals.specs.Literal.{Literal}
use Rattle.literals.specs.Truth.{holds, obeys_masks}
use Rattle.literals.specs.Laws.{obeys_yes, obeys_no, obeys_some}
use Rattle.literals.specs.declared.LiteralSet.{LiteralSet}
use Rattle.propagation.specs.Promises.{digit}
use Rattle.consequence.specs.Meaning.{collect}
use Rattle.consequence.specs.Demand2.{FilledIn}
use Rattle.consequence.specs.Algorithm2.{in_every, common_yes, common_no, common_of, over_choices, in_both, kept_after, size, Denies}
use Rattle.consequence.specs.Laws.Forcing.{collect_lt, collect_in, collect_out}

-- ---- digits of a test

has_digit : (m v : ℕ) → bit m v ≡ digit (has m v)
has_digit m v = go (has m v) refl
  where
    go : (b : Bool) → has m v ≡ b → bit m v ≡ digit b
    go true e = has_true m v e
    go false e = has_false m v e

collect_digit : (n : ℕ) (t : ℕ → Bool) (v : ℕ) → v < n → bit (collect n t) v ≡ digit (t v)
collect_digit n t v h = go (t v) refl
  where
    go : (b : Bool) → t v ≡ b → bit (collect n t) v ≡ digit b
    go true e = collect_in n t v h e
    go false e = collect_out n t v e

digit_less : (a b c : Bool) → digit (a && (b && c)) ≡ min (digit b) (digit (a && c))
digit_less true true true = refl
digit_less true true false = refl
digit_less true false true = refl
digit_less true false false = refl
digit_less false true c = refl
digit_less false false c = refl

digit_not : (b : Bool) → digit (not b) ≡ 1 - digit b
digit_not true = refl
digit_not false = refl

digit_all : (a : Bool) → digit (a && true) ≡ digit a
digit_all true = refl
digit_all false = refl

-- ---- a mask in common with another

-- of a set of choices, what a filling says of the choices is what it says
both_yes : (a m choices : ℕ) → Within a choices → inter a (inter m choices) ≡ inter a m
both_yes a m choices w =
    ext _ _ (λ v. omega (arith, bit_inter a (inter m choices) v, bit_inter m choices v, bit_inter a m v, w.keeps v))

pub both_no : (a m choices : ℕ) → Within a choices → inter a (diff choices m) ≡ diff a m
both_no a m choices w =
    ext _ _ (λ v. omega (arith, bit_inter a (diff choices m) v, bit_diff choices m v, bit_diff a m v, w.keeps v, bit_le choices v, bit_le m v))

-- ---- what models have in common

module _ (n choices : ℕ) (below : choices < 2 ^ n) where
  -- no filling takes anything away
  all_common : (v : ℕ) → v < n → bit (collect n (λ u. has choices u && true)) v ≡ bit choices v
  all_common v h = collect_digit n _ v h ∙ digit_all (has choices v) ∙ sym (has_digit choices v)

  pub common_none : common_of n choices [] ≡ record { yes = choices; no = choices }
  unfolding common_yes common_no in_every
  common_none = ap (λ (m : ℕ). record { yes = m; no = m }) (ext_below n _ choices (collect_lt n _) below all_common)

  -- one filling more takes away what it does not have
  pub common_yes_lem : (m : ℕ) (found : List ℕ) → common_yes n choices (m ∷ found) ≡ inter (common_yes n choices found) m
  unfolding common_yes in_every holds
  common_yes_lem m found =
      ext_below n _ _ (collect_lt n _) (inter_lt n _ m (collect_lt n _))
      (λ v h.
      collect_digit n _ v h ∙ digit_less (has choices v) (has m v) (in_every found (pos (suc v)))
      ∙ omega (
        arith,
        bit_inter (collect n (λ u. has choices u && in_every found (pos (suc u)))) m v,
        has_digit m v,
        collect_digit n (λ u. has choices u && in_every found (pos (suc u))) v h,
      ))

  pub common_no_lem : (m : ℕ) (found : List ℕ) → common_no n choices (m ∷ found) ≡ diff (common_no n choices found) m
  unfolding common_no in_every holds
  common_no_lem m found =
      ext_below n _ _ (collect_lt n _) (diff_lt n _ m (collect_lt n _))
      (λ v h.
      collect_digit n _ v h ∙ digit_less (has choices v) (not (has m v)) (in_every found (negsuc v))
      ∙ omega (
        arith,
        bit_diff (collect n (λ u. has choices u && in_every found (negsuc u))) m v,
        bit_le (collect n (λ u. has choices u && in_every found (negsuc u))) v,
        digit_not (has m v),
        has_digit m v,
        bit_le m v,
        collect_digit n (λ u. has choices u && in_every found (negsuc u)) v h,
      ))

  -- nothing but choices
  common_choices : (found : List ℕ) → Within (common_yes n choices found) choices × Within (common_no n choices found) choices
  common_choices [] =
      let e = common_none in
      (rw (ap (λ (s : LiteralSet). s.yes) e) (within_refl choices), rw (ap (λ (s : LiteralSet). s.no) e) (within_refl choices))
  common_choices (m ∷ found) =
      let w = common_choices found in (
        rw (common_yes_lem m found) (within_trans _ _ _ (inter_in_left (common_yes n choices found) m) w.0),
        rw (common_no_lem m found) (within_trans _ _ _ (diff_in (common_no n choices found) m) w.1),
      )

  -- line 11: what is in both is what is common to one model more
  pub common_more : (m : ℕ) (found : List ℕ) → in_both (common_of n choices found) (over_choices choices m) ≡ common_of n choices (m ∷ found)
  common_more m found =
      let w = common_choices found in
      ap₂ (λ (y : ℕ) (k : ℕ). record { yes = y; no = k })
      (both_yes (common_yes n choices found) m choices w.0 ∙ sym (common_yes_lem m found))
      (both_no (common_no n choices found) m choices w.1 ∙ sym (common_no_lem m found))

  -- line 2: what one model says of the choices
  pub common_one : (m : ℕ) → over_choices choices m ≡ common_of n choices (m ∷ [])
  common_one m =
      let e = common_none in
      ap₂ (λ (y : ℕ) (k : ℕ). record { yes = y; no = k })
      (and_comm m choices ∙ ap (λ (s : LiteralSet). inter s.yes m) (sym e) ∙ sym (common_yes_lem m []))
      (ap (λ (s : LiteralSet). diff s.no m) (sym e) ∙ sym (common_no_lem m []))

  -- after each model, what is kept is what the models found so far have in common
  pub kept_common : (found : List ℕ) → kept_after choices found ≡ common_of n choices found
  unfolding kept_after
  kept_common [] = sym common_none
  kept_common (m ∷ []) = common_one m
  kept_common (m ∷ (k ∷ before)) = ap (λ (s : LiteralSet). in_both s (over_choices choices m)) (kept_common (k ∷ before)) ∙ common_more m (k ∷ before)

-- ---- a filling that denies a literal

-- the rule of line 5, which asks for the opposite of a literal of the set, is obeyed where one is denied
pub denies_obeys : (set : LiteralSet) (f : ℕ) → Denies set f → obeys_masks f set.no set.yes ≡ true
unfolding holds
denies_obeys set f d = go d.literal d.in_set d.denied
  where
    go : (l : Literal) → FilledIn set l → holds f l ≡ false → obeys_masks f set.no set.yes ≡ true
    go (pos zero) i e = absurd i
    go (pos (suc v)) i e = obeys_no f set.no set.yes v i (has_false f v e)
    go (negsuc v) i e = obeys_yes f set.no set.yes v i (has_true f v (not-false (has f v) e))

pub obeys_denies : (set : LiteralSet) (f : ℕ) → obeys_masks f set.no set.yes ≡ true → Denies set f
unfolding holds
obeys_denies set f e =
    let (v, t) = obeys_some f set.no set.yes e in
    ⊎_elim
    (λ d. record { literal = negsuc v; in_set = d.0; denied = ap not (one_has f v d.1) })
    (λ d. record { literal = pos (suc v); in_set = d.0; denied = zero_has f v d.1 }) t.truly

-- a model that denies a literal takes it out
pub takes_one_out : (choices : ℕ) (set : LiteralSet) (m : ℕ) → Denies set m → size (in_both set (over_choices choices m)) < size set
unfolding holds
takes_one_out choices set m d = go d.literal d.in_set d.denied
  where
    yes_within : Within (inter set.yes (inter m choices)) set.yes
    yes_within = inter_in_left set.yes (inter m choices)

    no_within : Within (inter set.no (diff choices m)) set.no
    no_within = inter_in_left set.no (diff choices m)

    go : (l : Literal) → FilledIn set l → holds m l ≡ false → size (in_both set (over_choices choices m)) < size set
    go (pos zero) i e = absurd i
    go (pos (suc v)) i e =
        let out : bit (inter set.yes (inter m choices)) v ≡ 0 =
        omega (arith, bit_inter set.yes (inter m choices) v, bit_inter m choices v, has_false m v e) in
        omega (arith, ones_less _ _ v yes_within i out, ones_within _ _ no_within)
    go (negsuc v) i e =
        let out : bit (inter set.no (diff choices m)) v ≡ 0 =
        omega (arith, bit_inter set.no (diff choices m) v, bit_diff choices m v, bit_le choices v, has_true m v (not-false (has m v) e)) in
        omega (arith, ones_within _ _ yes_within, ones_less _ _ v no_within i out)

-- a filling that denies a literal kept now denies one kept before: the clauses that line 5 made in earlier rounds ask no more than its last one
pub denies_before : (choices : ℕ) (set : LiteralSet) (m f : ℕ) → Denies (in_both set (over_choices choices m)) f → Denies set f
denies_before choices set m f d = record { literal = d.literal; in_set = go d.literal d.in_set; denied = d.denied }
  where
    go : (l : Literal) → FilledIn (in_both set (over_choices choices m)) l → FilledIn set l
    go (pos zero) i = i
    go (pos (suc v)) i = within_bit (inter_in_left set.yes (inter m choices)) v i
    go (negsuc v) i = within_bit (inter_in_left set.no (diff choices m)) v i
