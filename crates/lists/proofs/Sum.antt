-- Sums over places: of one place, of two, of a plane's rows and columns in any order; and what a count sums. Assumes nothing.
use mathlib.Core.Path.{◌≡◌, refl, sym, ap, ap₂, ◌∙◌}
use mathlib.Core.Logic.{◌⊎◌, inl, inr}
use mathlib.Core.Bool.{Bool, true, false}
use Prim.Native.Nat.{ℕ, zero, suc, ◌+◌, ◌-◌, ◌*◌, ◌≤◌, ◌<◌}
use native.Mathlib.Nat.{le_refl, not-suc-le-zero, le_of_suc-le-suc, eq-or-lt_of_le, add-zero, add-suc, suc-mul, add-le-add, zero-add, zero-mul}
use native.Mathlib.Omega.{arith}
use Rattle.lists.specs.Sum.{sum, one_if}

pub sum_ext : (n : ℕ) (f g : ℕ → ℕ) → ((k : ℕ) → k < n → f k ≡ g k) → sum n f ≡ sum n g
unfolding sum
sum_ext zero f g h = refl
sum_ext (suc n) f g h = ap₂ (λ (x y : ℕ). x + y) (h n (le_refl (suc n))) (sum_ext n f g (λ k l. h k (omega arith)))

pub sum-le : (n : ℕ) (f g : ℕ → ℕ) → ((k : ℕ) → f k ≤ g k) → sum n f ≤ sum n g
unfolding sum
sum-le zero f g h = le_refl 0
sum-le (suc n) f g h = add-le-add (h n) (sum-le n f g h)

-- one place has no more than the sum
pub sum_term : (n : ℕ) (f : ℕ → ℕ) (k : ℕ) → k < n → f k ≤ sum n f
unfolding sum
sum_term zero f k h = absurd (not-suc-le-zero h)
sum_term (suc n) f k h = go (sum_term n f k) (eq-or-lt_of_le (le_of_suc-le-suc h))
  where
    go : (k < n → f k ≤ sum n f) → (k ≡ n) ⊎ (k < n) → f k ≤ f n + sum n f
    go ih (inl e) = omega (arith, ap f e)
    go ih (inr l) = omega (arith, ih l)

sum-zero : (n : ℕ) (f : ℕ → ℕ) → ((k : ℕ) → k < n → f k ≡ 0) → sum n f ≡ 0
unfolding sum
sum-zero zero f h = refl
sum-zero (suc n) f h = omega (arith, h n (omega arith), sum-zero n f (λ k l. h k (omega arith)))

-- where f is at most b, the sum is at most b for each place below n
pub sum_most : (n b : ℕ) (f : ℕ → ℕ) → ((k : ℕ) → k < n → f k ≤ b) → sum n f ≤ n * b
unfolding sum
sum_most zero b f h = omega arith
sum_most (suc n) b f h = omega (arith, suc-mul n b, h n (omega arith), sum_most n b f (λ k l. h k (omega arith)))

-- two places have no more than the sum
pub sum_two : (n : ℕ) (f : ℕ → ℕ) (p q : ℕ) → p < n → q < n → (p ≡ q → ⊥) → f p + f q ≤ sum n f
unfolding sum
sum_two zero f p q k l d = absurd (omega arith)
sum_two (suc n) f p q k l d = go (sum_two n f p q) (eq-or-lt_of_le (le_of_suc-le-suc k)) (eq-or-lt_of_le (le_of_suc-le-suc l))
  where
    go : (p < n → q < n → (p ≡ q → ⊥) → f p + f q ≤ sum n f) → (p ≡ n) ⊎ (p < n) → (q ≡ n) ⊎ (q < n) → f p + f q ≤ f n + sum n f
    go r (inl e) (inl o) = absurd (d (omega arith))
    go r (inl e) (inr m) = omega (arith, ap f e, sum_term n f q m)
    go r (inr m) (inl e) = omega (arith, ap f e, sum_term n f p m)
    go r (inr m) (inr o) = omega (arith, r m o d)

-- where all other places have 0, the sum is what one place has
pub sum_alone : (n : ℕ) (f : ℕ → ℕ) (q : ℕ) → q < n → ((k : ℕ) → k < n → (k ≡ q → ⊥) → f k ≡ 0) → sum n f ≡ f q
unfolding sum
sum_alone zero f q l h = absurd (omega arith)
sum_alone (suc n) f q l h = go (sum_alone n f q) (eq-or-lt_of_le (le_of_suc-le-suc l))
  where
    go : (q < n → ((k : ℕ) → k < n → (k ≡ q → ⊥) → f k ≡ 0) → sum n f ≡ f q) → (q ≡ n) ⊎ (q < n) → f n + sum n f ≡ f q
    go r (inl e) = omega (arith, ap f e, sum-zero n f (λ k m. h k (omega arith) (λ d. omega arith)))
    go r (inr m) = omega (arith, h n (omega arith) (λ d. omega arith), r m (λ k o. h k (omega arith)))

pub sum_plus : (n : ℕ) (f g : ℕ → ℕ) → sum n (λ k. f k + g k) ≡ sum n f + sum n g
unfolding sum
sum_plus zero f g = refl
sum_plus (suc n) f g = omega (arith, sum_plus n f g)

pub sum_none : (n : ℕ) → sum n (λ k. 0) ≡ 0
unfolding sum
sum_none zero = refl
sum_none (suc n) = omega (arith, sum_none n)

pub sum-add : (n k : ℕ) (f : ℕ → ℕ) → sum (n + k) f ≡ sum k (λ j. f (n + j)) + sum n f
unfolding sum
sum-add n zero f = ap (λ (x : ℕ). sum x f) (add-zero n) ∙ sym (zero-add (sum n f))
sum-add n (suc k) f = ap (λ (x : ℕ). sum x f) (add-suc n k) ∙ omega (arith, sum-add n k f)

pub sum_rows : (m e : ℕ) (f : ℕ → ℕ) → sum (m * e) f ≡ sum m (λ i. sum e (λ j. f (i * e + j)))
unfolding sum
sum_rows zero e f = ap (λ (x : ℕ). sum x f) (zero-mul e)
sum_rows (suc m) e f =
    ap (λ (x : ℕ). sum x f) (suc-mul m e) ∙ sum-add (m * e) e f ∙ ap (λ (x : ℕ). sum e (λ j. f (m * e + j)) + x) (sum_rows m e f)

pub sum_swap : (m n : ℕ) (g : ℕ → ℕ → ℕ) → sum m (λ i. sum n (λ j. g i j)) ≡ sum n (λ j. sum m (λ i. g i j))
unfolding sum
sum_swap zero n g = sym (sum_none n)
sum_swap (suc m) n g =
    ap (λ (x : ℕ). sum n (λ j. g m j) + x) (sum_swap m n g) ∙ sym (sum_plus n (λ j. g m j) (λ j. sum m (λ i. g i j)))

pub sum_first : (n : ℕ) (f : ℕ → ℕ) → sum (suc n) f ≡ f 0 + sum n (λ k. f (suc k))
unfolding sum
sum_first zero f = refl
sum_first (suc n) f = omega (arith, sum_first n f)

pub sum_back : (e : ℕ) (f : ℕ → ℕ) → sum e (λ i. f (e - 1 - i)) ≡ sum e f
unfolding sum
sum_back zero f = refl
sum_back (suc n) f =
    ap₂ (λ (x y : ℕ). f x + y) (omega arith)
    (sum_ext n (λ i. f (suc n - 1 - i)) (λ i. f (suc (n - 1 - i))) (λ i l. ap f (omega arith)) ∙ sum_back n (λ i. f (suc i)))
    ∙ sym (sum_first n f)

-- ---- what a count sums

pub one_if-lt : (t : Bool) → one_if t < 2
one_if-lt true = omega arith
one_if-lt false = omega arith
