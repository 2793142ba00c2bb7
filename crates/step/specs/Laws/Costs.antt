-- What sets of literals cost, and what known ones weigh in a key. Assumes nothing.
use Rattle.std.specs.Prelude.{◌≡◌, Bool, not, List, length, set, take}
use Rattle.std.proofs.Math.Path.{refl, ap, ap₂}
use Rattle.std.proofs.Common.{sum, sym, ◌∙◌, arith, length-set, get_or-set_same, get_or-set_other}
use Rattle.std.proofs.Math.Logic.{by_cases}
use Rattle.std.proofs.Math.Bool.{true, false}
use Prim.Native.Nat.{ℕ, zero, suc, ◌+◌, ◌*◌, ◌^◌, ◌≤◌, ◌<◌, min, max}
use Rattle.std.proofs.Math.Decide.{ℕ_discrete}
use Rattle.std.proofs.Math.Numerals.{add-one}
use Rattle.std.proofs.Math.Seq.{take-length}
use Rattle.std.proofs.lemmas.List.Sums.{sum_by_more}
use Rattle.sets.specs.Sets.{bit, has, union, inter, insert, count, Within, Apart}
use Rattle.sets.specs.Laws.Bits.{bit_le, bit_union, bit_inter}
use Rattle.sets.specs.Laws.Subset.{has_true, has_false, within_refl, within_insert}
use Rattle.items.specs.Weights.{sum_below, total}
use Rattle.items.specs.Promises.{weight_in}
use Rattle.items.specs.Laws.Sums.{sum_same, sum_add, sum_times, sum_bound, sum_part, digits_sum, digits_count, total_le, total_insert, total_width}
use Rattle.literals.specs.Literal.{literal_of}
use Rattle.records.specs.Limits.{max_choices}
use Rattle.problem.specs.Problem.{cost_of, literal_cost}
use Rattle.step.specs.Meaning.{set_cost}
use Rattle.step.specs.IsStep.{opposite_on, opposite_off}
use Rattle.step.specs.Promises.{known_cost, fact_unit, cost_unit, literal_weight, item_weight, Weighed, sum_of}

-- ---- the cost of a set

-- at one variable: the elements of d among those of a and b
share : (d a b x y : ℕ) → d ≤ 1 → a ≤ 1 → b ≤ 1 → min d a * x + min d b * y ≡ d * (a * x + b * y)
share zero a b x y h l k = let e : min 0 a ≡ 0 = omega arith in let o : min 0 b ≡ 0 = omega arith in rw (e, o) (omega arith)
share (suc zero) a b x y h l k = let e : min 1 a ≡ a = omega arith in let o : min 1 b ≡ b = omega arith in rw (e, o) (omega arith)
share (suc (suc d)) a b x y h l k = absurd (omega arith)

-- reasons cost what their literals cost
pub reasons_cost : (table : List (List ℕ)) (n on off s : ℕ) → set_cost table n (inter s on) (inter s off) ≡ total (known_cost table on off) n s
unfolding set_cost total known_cost
reasons_cost table n on off s =
    sum_same n _ _ (λ u h.
    ap₂ (λ (x : ℕ) (y : ℕ). x * cost_of table u 0 + y * cost_of table u 1) (bit_inter s on u) (bit_inter s off u)
    ∙ share (bit s u) (bit on u) (bit off u) (cost_of table u 0) (cost_of table u 1) (bit_le s u) (bit_le on u) (bit_le off u))

-- the costs of what it says yes of, and of what it says no of
pub cost_parts_lem : (table : List (List ℕ)) (n on off : ℕ)
    → set_cost table n on off ≡ total (λ v. cost_of table v 0) n on + total (λ v. cost_of table v 1) n off
unfolding set_cost total
cost_parts_lem table n on off = sum_add n (λ v. bit on v * cost_of table v 0) (λ v. bit off v * cost_of table v 1)

-- how many variables there are beyond those of a set does not matter to what it costs
pub cost_width : (table : List (List ℕ)) (n m on off : ℕ) → on < 2 ^ n → on < 2 ^ m → off < 2 ^ n → off < 2 ^ m
    → set_cost table n on off ≡ set_cost table m on off
cost_width table n m on off a b c d =
    cost_parts_lem table n on off ∙ ap₂ ◌+◌ (total_width (λ v. cost_of table v 0) n m on a b) (total_width (λ v. cost_of table v 1) n m off c d)
    ∙ sym (cost_parts_lem table m on off)

-- an item more adds at most its weight
total_most : (w : ℕ → ℕ) (n s v : ℕ) → v < n → total w n (insert s v) ≤ total w n s + w v
total_most w n s v h =
    by_cases (ℕ_discrete (bit s v) 0) (λ e. omega (arith, total_insert w n s v h e))
    (λ e. omega (arith, total_le w n (insert s v) s (within_insert s v s (within_refl s) (omega (arith, bit_le s v)))))

-- ---- with the opposite of a literal

module _ (table : List (List ℕ)) (n on off v : ℕ) (h : v < n) where
  -- it adds its cost to a set that says nothing of its variable, and to any set at most its cost
  pub opposite_cost : bit on v ≡ 0 → bit off v ≡ 0 → (says : Bool)
      → set_cost table n (opposite_on says on v) (opposite_off says off v) ≡ literal_cost table (literal_of v (not says)) + set_cost table n on off
  unfolding literal_cost
  opposite_cost p q true =
      omega (arith, cost_parts_lem table n on (insert off v), cost_parts_lem table n on off, total_insert (λ u. cost_of table u 1) n off v h q)
  opposite_cost p q false =
      omega (arith, cost_parts_lem table n (insert on v) off, cost_parts_lem table n on off, total_insert (λ u. cost_of table u 0) n on v h p)

  pub opposite_most : (says : Bool)
      → set_cost table n (opposite_on says on v) (opposite_off says off v) ≤ literal_cost table (literal_of v (not says)) + set_cost table n on off
  unfolding literal_cost
  opposite_most true = omega (arith, cost_parts_lem table n on (insert off v), cost_parts_lem table n on off, total_most (λ u. cost_of table u 1) n off v h)
  opposite_most false = omega (arith, cost_parts_lem table n (insert on v) off, cost_parts_lem table n on off, total_most (λ u. cost_of table u 0) n on v h)

-- at most one of two costs
pub one_cost : (k x y c d : ℕ) → x + y ≤ 1 → c ≤ k → d ≤ k → x * c + y * d ≤ k
one_cost k zero zero c d h l m = omega arith
one_cost k zero (suc zero) c d h l m = omega arith
one_cost k zero (suc (suc y)) c d h l m = absurd (omega arith)
one_cost k (suc zero) zero c d h l m = omega arith
one_cost k (suc zero) (suc y) c d h l m = absurd (omega arith)
one_cost k (suc (suc x)) y c d h l m = absurd (omega arith)

pub set_bound : (table : List (List ℕ)) (n k on off : ℕ) → ((v column : ℕ) → cost_of table v column ≤ k) → Apart on off → set_cost table n on off ≤ n * k
unfolding set_cost
set_bound table n k on off b p =
    sum_bound n k _ (λ v. one_cost k (bit on v) (bit off v) (cost_of table v 0) (cost_of table v 1) (p.avoids v) (b v 0) (b v 1))

-- ---- what known literals weigh: their costs and how many they are, in units, and the set itself

module _ (table : List (List ℕ)) (on off : ℕ) where
  -- one item of a set of known literals
  weigh_one : (d k c p : ℕ) → d ≤ k → k ≤ 1 → d * (c * cost_unit + k * (fact_unit + p)) ≡ d * c * cost_unit + d * fact_unit + d * p
  weigh_one zero k c p h l = omega arith
  weigh_one (suc zero) (suc zero) c p h l = omega arith
  weigh_one (suc zero) zero c p h l = absurd (omega arith)
  weigh_one (suc zero) (suc (suc k)) c p h l = absurd (omega arith)
  weigh_one (suc (suc d)) k c p h l = absurd (omega arith)

  pub weigh_set : (n s : ℕ) → Within s (union on off) → s < 2 ^ n
      → total (item_weight table on off) n s ≡ total (known_cost table on off) n s * cost_unit + count s * fact_unit + s
  unfolding total item_weight
  weigh_set n s h l =
      sum_same n _ _
      (λ v i. weigh_one (bit s v) (bit (union on off) v) (known_cost table on off v) (2 ^ v) (h.keeps v) (bit_le (union on off) v))
      ∙ sum_add n (λ v. bit s v * known_cost table on off v * cost_unit + bit s v * fact_unit) (λ v. bit s v * 2 ^ v)
      ∙ ap₂ ◌+◌ units (digits_sum n s l)
    where
      units : sum_below n (λ v. bit s v * known_cost table on off v * cost_unit + bit s v * fact_unit)
          ≡ sum_below n (λ v. bit s v * known_cost table on off v) * cost_unit + count s * fact_unit
      units =
          sum_add n (λ v. bit s v * known_cost table on off v * cost_unit) (λ v. bit s v * fact_unit)
          ∙ ap₂ ◌+◌ (sum_times n cost_unit (λ v. bit s v * known_cost table on off v))
          (sum_times n fact_unit (λ v. bit s v) ∙ ap (λ (k : ℕ). k * fact_unit) (digits_count n s l))

-- ---- the weights, one by one

-- The first i weights are known.
pub record WeighedTo (table : List (List ℕ)) (on off : ℕ) (ws : List ℕ) (i : ℕ) : Type 0 where
  pub rows : length ws ≡ max_choices
  pub done : i ≤ max_choices
  pub weighs : (v : ℕ) → v < i → weight_in ws v ≡ item_weight table on off v

module _ {table : List (List ℕ)} {on off : ℕ} where
  pub weighed_none : {ws : List ℕ} → length ws ≡ max_choices → WeighedTo table on off ws 0
  weighed_none e = record { rows = e; done = omega arith; weighs = λ v h. absurd (omega arith) }

  pub weighed_more : {ws : List ℕ} {i w : ℕ} → WeighedTo table on off ws i → i < max_choices → w ≡ item_weight table on off i
      → WeighedTo table on off (set ws i w) (i + 1)
  weighed_more {ws} {i} {w} x h e = record { rows = length-set ws i w ∙ x.rows; done = omega arith; weighs = at_all }
    where
      at_all : (v : ℕ) → v < i + 1 → weight_in (set ws i w) v ≡ item_weight table on off v
      at_all v l =
          by_cases (ℕ_discrete v i) (λ p. rw p (get_or-set_same ws i w 0 (omega (arith, x.rows)) ∙ e))
          (λ p. get_or-set_other ws i v w 0 p ∙ x.weighs v (omega arith))

  pub weighed_all : {ws : List ℕ} {i : ℕ} → WeighedTo table on off ws i → max_choices ≤ i → Weighed table on off ws
  weighed_all x h = record { rows = x.rows; weighs = λ v l. x.weighs v (omega (arith, x.done)) }

-- the known literal is one that says yes, or one that says no, or there is none
module _ (table : List (List ℕ)) (on off v : ℕ) where
  weight_at : (a b : ℕ) → bit on v ≡ a → bit off v ≡ b
      → item_weight table on off v ≡ (a * cost_of table v 0 + b * cost_of table v 1) * cost_unit + max a b * (fact_unit + 2 ^ v)
  unfolding item_weight known_cost
  weight_at a b p q = rw (bit_union on off v, p, q) refl

  pub weight_yes : {r : ℕ} {b : Bool} → Apart on off → b ≡ has on v → b ≡ true → r ≡ literal_weight (literal_cost table (literal_of v true)) v
      → r ≡ item_weight table on off v
  unfolding literal_cost
  weight_yes p e t q =
      let one = has_true on v (sym e ∙ t) in
      omega (arith, weight_at 1 0 one (omega (arith, p.avoids v)))

  pub weight_no : {r : ℕ} {b c : Bool} → b ≡ has on v → b ≡ false → c ≡ has off v → c ≡ true
      → r ≡ literal_weight (literal_cost table (literal_of v false)) v → r ≡ item_weight table on off v
  unfolding literal_cost
  weight_no e t d s q = omega (arith, weight_at 0 1 (has_false on v (sym e ∙ t)) (has_true off v (sym d ∙ s)))

  pub weight_none : {b c : Bool} → b ≡ has on v → b ≡ false → c ≡ has off v → c ≡ false → 0 ≡ item_weight table on off v
  weight_none e t d s = omega (arith, weight_at 0 0 (has_false on v (sym e ∙ t)) (has_false off v (sym d ∙ s)))

pub ruleset weighed_laws = (weighed_none, weighed_more, weighed_all)

pub ruleset weight_laws = (weight_yes, weight_no, weight_none)

-- ---- the sum of all weights

sum_taken : (ws : List ℕ) (n : ℕ) → n ≤ length ws → sum_below n (weight_in ws) ≡ sum (take n ws)
unfolding sum_below
sum_taken ws zero h = refl
sum_taken ws (suc n) h =
    ap (λ (k : ℕ). k + weight_in ws n) (sum_taken ws n (omega arith)) ∙ sym (sum_by_more (λ (w : ℕ). w) ws n 0 (omega arith)) ∙ rw add-one refl

-- the sum of the list of them
pub sum_all : (ws : List ℕ) → length ws ≡ max_choices → sum ws ≡ sum_of ws
sum_all ws e =
    sym (ap (λ (n : ℕ). sum_below n (weight_in ws)) (sym e) ∙ sum_taken ws (length ws) (omega arith) ∙ ap sum (take-length ws))

-- ---- the weights summed one by one

-- A sum of the first i weights.
pub record SummedTo (ws : List ℕ) (sum i : ℕ) : Type 0 where
  pub done : i ≤ max_choices
  pub is : sum ≡ sum_below i (weight_in ws)

module _ {ws : List ℕ} where
  pub summed_none : SummedTo ws 0 0
  unfolding sum_below
  summed_none = record { done = omega arith; is = refl }

  pub summed_more : {sum i : ℕ} → SummedTo ws sum i → i < max_choices → SummedTo ws (sum + weight_in ws i) (i + 1)
  unfolding sum_below
  summed_more x h = rw add-one (record { done = omega arith; is = omega (arith, x.is) })

  -- no part of the sum is above it
  pub summed_fits : {sum i : ℕ} → SummedTo ws sum i → i < max_choices → sum + weight_in ws i ≤ sum_of ws
  summed_fits {sum} {i} x h = let y = summed_more x h in omega (arith, y.is, sum_part max_choices (i + 1) (weight_in ws) y.done)

  pub summed_all : {sum i : ℕ} → SummedTo ws sum i → max_choices ≤ i → sum ≡ sum_of ws
  summed_all {sum} {i} x h = let end : i ≡ max_choices = omega (arith, x.done) in x.is ∙ ap (λ (k : ℕ). sum_below k (weight_in ws)) end
