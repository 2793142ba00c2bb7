-- Every filling and some filling: the tests and what they say agree, for any number of variables. Assumes nothing.
use Rattle.std.specs.Prelude.{◌≡◌, refl, Bool, true, false, not, ℕ, zero, suc, ◌^◌, ◌<◌}
use Rattle.std.proofs.Common.{sym, ap, ◌∙◌, true≢false, arith}
use Rattle.std.proofs.Math.Logic.{by_cases}
use Rattle.std.proofs.lemmas.Bool.{false≢true, not-true, not-false}
use Rattle.std.proofs.Math.Decide.{ℕ_discrete}
use Rattle.sat.specs.Meaning.{every_under, every_filling, some_filling}

-- ---- every number below k

under_all : (k : ℕ) (t : ℕ → Bool) → every_under k t ≡ true → (f : ℕ) → f < k → t f ≡ true
unfolding every_under
under_all zero t e f h = absurd (omega arith)
under_all (suc k) t e f h = go (t k) refl e (under_all k t)
  where
    go : (b : Bool) → t k ≡ b → elim b [ true ↦ every_under k t | false ↦ false ] ≡ true
        → (every_under k t ≡ true → (g : ℕ) → g < k → t g ≡ true) → t f ≡ true
    go true p r rest = by_cases (ℕ_discrete f k) (λ s. ap t s ∙ p) (λ s. rest r f (omega arith))
    go false p r rest = absurd (false≢true r)

under_every : (k : ℕ) (t : ℕ → Bool) → ((f : ℕ) → f < k → t f ≡ true) → every_under k t ≡ true
unfolding every_under
under_every zero t h = refl
under_every (suc k) t h = rw (h k (omega arith), every_under) (under_every k t (λ f l. h f (omega arith)))

under_fails : (k : ℕ) (t : ℕ → Bool) → every_under k t ≡ false → (f : ℕ) × (f < k) × (t f ≡ false)
unfolding every_under
under_fails zero t e = absurd (true≢false e)
under_fails (suc k) t e = go (t k) refl e (under_fails k t)
  where
    go : (b : Bool) → t k ≡ b → elim b [ true ↦ every_under k t | false ↦ false ] ≡ false
        → (every_under k t ≡ false → (f : ℕ) × (f < k) × (t f ≡ false)) → (f : ℕ) × (f < suc k) × (t f ≡ false)
    go true p r rest = let w = rest r in (w.0, omega (arith, w.1), w.2)
    go false p r rest = (k, omega arith, p)

-- ---- every filling of n variables

pub every_all : (n : ℕ) (t : ℕ → Bool) → every_filling n t ≡ true → (f : ℕ) → f < 2 ^ n → t f ≡ true
unfolding every_filling
every_all n t = under_all (2 ^ n) t

pub all_every : (n : ℕ) (t : ℕ → Bool) → ((f : ℕ) → f < 2 ^ n → t f ≡ true) → every_filling n t ≡ true
unfolding every_filling
all_every n t = under_every (2 ^ n) t

pub every_fails : (n : ℕ) (t : ℕ → Bool) → every_filling n t ≡ false → (f : ℕ) × (f < 2 ^ n) × (t f ≡ false)
unfolding every_filling
every_fails n t = under_fails (2 ^ n) t

pub fails_every : (n : ℕ) (t : ℕ → Bool) (f : ℕ) → f < 2 ^ n → t f ≡ false → every_filling n t ≡ false
fails_every n t f h e = go (every_filling n t) refl
  where
    go : (b : Bool) → every_filling n t ≡ b → every_filling n t ≡ false
    go false r = r
    go true r = absurd (true≢false (sym (every_all n t r f h) ∙ e))

-- ---- some filling of n variables

pub some_witness : (n : ℕ) (t : ℕ → Bool) → some_filling n t ≡ true → (f : ℕ) × (f < 2 ^ n) × (t f ≡ true)
unfolding some_filling
some_witness n t e = let w = every_fails n (λ f. not (t f)) (not-true _ e) in (w.0, w.1, not-false _ w.2)

pub witness_some : (n : ℕ) (t : ℕ → Bool) (f : ℕ) → f < 2 ^ n → t f ≡ true → some_filling n t ≡ true
unfolding some_filling
witness_some n t f h e = ap not (fails_every n (λ g. not (t g)) f h (ap not e))

pub some_none : (n : ℕ) (t : ℕ → Bool) → some_filling n t ≡ false → (f : ℕ) → f < 2 ^ n → t f ≡ false
unfolding some_filling
some_none n t e f h = not-true _ (every_all n (λ g. not (t g)) (not-false _ e) f h)
