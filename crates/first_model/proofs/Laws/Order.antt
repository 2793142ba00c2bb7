-- The order of fillings: by weights and for every filling it is the same, it is total, and what comes first is one filling. Assumes nothing.
use Rattle.std.specs.Prelude.{◌≡◌, refl, ℕ, zero, suc, ◌+◌, ◌*◌, ◌^◌, ◌≤◌, ◌<◌}
use Rattle.std.proofs.Common.{sym, add-one, arith}
use Rattle.std.proofs.Math.Logic.{by_cases}
use Rattle.std.proofs.Math.Decide.{dec_lt, ℕ_discrete}
use Rattle.sets.specs.Sets.{bit}
use Rattle.sets.specs.Laws.Bits.{bit_le, ext_below}
use Rattle.first_model.specs.Meaning.{weight, Before, First}

-- ---- weights

-- one variable more
pub weight_next : (n f : ℕ) → weight (n + 1) f ≡ 2 * weight n f + bit f n
unfolding weight
weight_next n f = rw (add-one n) refl

-- fillings that agree on the first n variables weigh the same over them
pub agree_weight : (n f g : ℕ) → ((v : ℕ) → v < n → bit f v ≡ bit g v) → weight n f ≡ weight n g
unfolding weight
agree_weight zero f g e = refl
agree_weight (suc n) f g e = omega (arith, agree_weight n f g (λ v h. e v (omega arith)), e n (omega arith))

-- and those that weigh the same agree
pub weight_agree : (n f g : ℕ) → weight n f ≡ weight n g → (v : ℕ) → v < n → bit f v ≡ bit g v
unfolding weight
weight_agree zero f g e v h = absurd (omega arith)
weight_agree (suc n) f g e v h =
    by_cases (ℕ_discrete v n) (λ s. rw s (omega (arith, bit_le f n, bit_le g n)))
    (λ s. weight_agree n f g (omega (arith, bit_le f n, bit_le g n)) v (omega arith))

-- one that comes before weighs less
pub before_weight : (n f g : ℕ) (b : Before f g) → b.variable < n → weight n f < weight n g
unfolding weight
before_weight zero f g b h = absurd (omega arith)
before_weight (suc n) f g b h =
    by_cases (ℕ_discrete b.variable n)
    (λ s. let e = agree_weight n f g (rw s at b.agree) in omega (arith, e, rw s at b.no, rw s at b.yes))
    (λ s. omega (arith, before_weight n f g b (omega arith), bit_le f n, bit_le g n))

-- and one that weighs less comes before
pub weight_before : (n f g : ℕ) → weight n f < weight n g → Before f g
unfolding weight
weight_before zero f g l = absurd (omega arith)
weight_before (suc n) f g l =
    by_cases (dec_lt (weight n f) (weight n g)) (weight_before n f g)
    (λ s. let e : weight n f ≡ weight n g = omega (arith, bit_le f n, bit_le g n) in
    record { variable = n; agree = weight_agree n f g e; no = omega (arith, e, bit_le f n, bit_le g n); yes = omega (arith, e, bit_le f n, bit_le g n) })

-- ---- the first one

-- the filling of least weight that has a property is the first
module _ (n : ℕ) (has : ℕ → Type 0) (below : (g : ℕ) → has g → g < 2 ^ n) where
  pub least_first : (f : ℕ) → has f → ((g : ℕ) → has g → weight n f ≤ weight n g) → First has f
  least_first f h least =
      record {
        among = h;
        before_others = λ g k other. weight_before n f g (by_cases (dec_lt (weight n f) (weight n g)) (λ l. l)
            (λ l. absurd (other (ext_below n g f (below g k) (below f h) (weight_agree n g f (omega (arith, least g k)))))));
      }

-- over the first k variables the first weighs least too, whatever follows them
pub first_weight : {has : ℕ → Type 0} {f : ℕ} → First has f → (k g : ℕ) → has g → weight k f ≤ weight k g
first_weight {has} {f} x k g h = by_cases (ℕ_discrete g f) (λ e. rw e (omega arith)) (λ e. after (x.before_others g h e))
  where
    after : Before f g → weight k f ≤ weight k g
    after b =
        by_cases (dec_lt b.variable k) (λ l. omega (arith, before_weight k f g b l))
        (λ l. omega (arith, agree_weight k f g (λ v m. b.agree v (omega arith))))

-- two fillings do not come before each other
pub before_asymmetric : {f g : ℕ} → Before f g → Before g f → ⊥
before_asymmetric {f} {g} b c =
    by_cases (ℕ_discrete b.variable c.variable) (λ e. omega (arith, b.no, rw (sym e) at c.yes))
    (λ e. by_cases (dec_lt b.variable c.variable) (λ l. omega (arith, b.no, b.yes, c.agree b.variable l))
    (λ l. omega (arith, c.no, c.yes, b.agree c.variable (omega arith))))

-- so that there is one first
pub first_unique : {has : ℕ → Type 0} {f g : ℕ} → First has f → First has g → f ≡ g
first_unique {has} {f} {g} x y =
    by_cases (ℕ_discrete f g) (λ e. e)
    (λ e. absurd (before_asymmetric (x.before_others g y.among (λ s. e (sym s))) (y.before_others f x.among e)))

-- the first that has a property is the first that has another which the same fillings have
pub first_as : {has other : ℕ → Type 0} → ((f : ℕ) → has f → other f) → ((f : ℕ) → other f → has f) → {f : ℕ} → First has f → First other f
first_as there back {f} x = record { among = there f x.among; before_others = λ g k e. x.before_others g (back g k) e }
