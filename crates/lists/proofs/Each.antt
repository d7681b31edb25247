-- Tests of the numbers below n: of every one, and of any. Assumes nothing.
use mathlib.Core.Path.{◌≡◌, refl, sym, ap, ap₂, subst, ◌∙◌}
use mathlib.Core.Logic.{◌⊎◌, inl, inr, ⊎_elim}
use mathlib.Core.Bool.{Bool, true, false, false≢true, ◌&&◌, ◌||◌}
use mathlib.Mathlib.Data.Bool.Basic.{or_inl, or_inr}
use Prim.Native.Nat.{ℕ, zero, suc, ◌+◌, ◌<◌}
use native.Mathlib.Numerals.{add-one}
use native.Mathlib.Nat.{le_refl, not-suc-le-zero, le_of_suc-le-suc, eq-or-lt_of_le}
use native.Mathlib.Omega.{arith}
use Rattle.std.proofs.lemmas.Bool.{cases_eq, or_cases}
use Rattle.std.specs.Cmp.{first_so, second_so}
use Rattle.lists.specs.Each.{each, any}

pub each_at : (n : ℕ) (ok : ℕ → Bool) → each n ok ≡ true → (k : ℕ) → k < n → ok k ≡ true
unfolding each
each_at zero ok e k h = absurd (not-suc-le-zero h)
each_at (suc n) ok e k h = go (each_at n ok (second_so (ok n) (each n ok) e) k) (eq-or-lt_of_le (le_of_suc-le-suc h))
  where
    go : (k < n → ok k ≡ true) → (k ≡ n) ⊎ (k < n) → ok k ≡ true
    go f (inl q) = ap ok q ∙ first_so (ok n) (each n ok) e
    go f (inr m) = f m

pub each_of : (n : ℕ) (ok : ℕ → Bool) → ((k : ℕ) → k < n → ok k ≡ true) → each n ok ≡ true
unfolding each
each_of zero ok h = refl
each_of (suc n) ok h = ap₂ ◌&&◌ (h n (le_refl (suc n))) (each_of n ok (λ k l. h k (omega arith)))

pub each_ext : (n : ℕ) (f g : ℕ → Bool) → ((k : ℕ) → k < n → f k ≡ g k) → each n f ≡ each n g
unfolding each
each_ext zero f g h = refl
each_ext (suc n) f g h = ap₂ ◌&&◌ (h n (le_refl (suc n))) (each_ext n f g (λ k l. h k (omega arith)))

-- one that fails is enough
pub each_fails : (n : ℕ) (ok : ℕ → Bool) (k : ℕ) → k < n → ok k ≡ false → each n ok ≡ false
each_fails n ok k h e = go (each n ok) refl
  where
    go : (t : Bool) → each n ok ≡ t → t ≡ false
    go true q = sym (each_at n ok q k h) ∙ e
    go false q = refl

-- ---- the loop that tests 0, 1, .., n - 1

pub each_none : (ok : ℕ → Bool) → each 0 ok ≡ true
unfolding each
each_none ok = refl

pub each_more : (n : ℕ) (ok : ℕ → Bool) (x r : Bool) → x ≡ ok n → r ≡ each n ok → x && r ≡ each (n + 1) ok
unfolding each
each_more n ok x r p q = ap₂ ◌&&◌ p q ∙ ap (λ (k : ℕ). each k ok) (sym (add-one n))

-- ---- one of the numbers

pub any_found : (k s : ℕ) (test : ℕ → Bool) → s < k → test s ≡ true → any k test ≡ true
unfolding any
any_found zero s test h e = absurd (not-suc-le-zero h)
any_found (suc k) s test h e =
    ⊎_elim
    (λ q. or_inr (any k test) (test k) (subst (λ (x : ℕ). test x ≡ true) q e))
    (λ q. or_inl (any k test) (test k) (any_found k s test (omega arith) e))
    (cases_eq s k)

pub any_from : (k : ℕ) (test : ℕ → Bool) → any k test ≡ true → (s : ℕ) × (s < k) × (test s ≡ true)
unfolding any
any_from zero test e = absurd (false≢true e)
any_from (suc k) test e =
    ⊎_elim
    (λ a. let q = any_from k test a in (q.0, omega (arith, q.1), q.2))
    (λ a. (k, omega arith, a))
    (or_cases (any k test) (test k) e)

pub any_ext : (n : ℕ) (f g : ℕ → Bool) → ((k : ℕ) → k < n → f k ≡ g k) → any n f ≡ any n g
unfolding any
any_ext zero f g h = refl
any_ext (suc n) f g h = ap₂ ◌||◌ (any_ext n f g (λ k l. h k (omega arith))) (h n (le_refl (suc n)))
