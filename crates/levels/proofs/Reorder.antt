-- A map that keeps every sum over the indexes below n takes them to each other, and takes each. Assumes nothing.
use mathlib.Core.Path.{◌≡◌, refl, ap, ◌∙◌}
use mathlib.Core.Bool.{Bool, true, false}
use Prim.Native.Nat.{ℕ, zero, suc, ◌≤◌, ◌<◌}
use native.Mathlib.Nat.{le_refl, not-suc-le-zero}
use native.Mathlib.Omega.{arith}
use borrow.Author.Tests.{lt-leb, eq-eqb, eqb-true, leb-false}
use lib.Dec.{leb, eqb}
use Rattle.lists.specs.Sum.{sum, one_if}
use Rattle.lists.proofs.Sum.{sum_ext, sum_term, sum_none}

-- σ takes the indexes below n to each other, each once: no sum over them changes
abbrev pub Reorders : ℕ → (ℕ → ℕ) → Type 0
Reorders n σ = (f : ℕ → ℕ) → sum n (λ k. f (σ k)) ≡ sum n f

record Some (n : ℕ) (f : ℕ → ℕ) : Type 0 where
  pub k : ℕ
  pub below : k < n
  pub counts : 0 < f k

sum_some : (n : ℕ) (f : ℕ → ℕ) → 0 < sum n f → Some n f
unfolding sum
sum_some zero f h = absurd (not-suc-le-zero h)
sum_some (suc n) f h = go (f n) refl (sum_some n f)
  where
    go : (v : ℕ) → f n ≡ v → (0 < sum n f → Some n f) → Some (suc n) f
    go zero e ih = let s = ih (omega arith) in record { k = s.k; below = omega (arith, s.below); counts = s.counts }
    go (suc v) e ih = record { k = n; below = le_refl (suc n); counts = omega arith }

one_if_pos : (t : Bool) → 0 < one_if t → t ≡ true
one_if_pos true h = refl
one_if_pos false h = absurd (not-suc-le-zero h)

-- σ takes an index below n to j
pub record Source (n : ℕ) (σ : ℕ → ℕ) (j : ℕ) : Type 0 where
  pub k : ℕ
  pub below : k < n
  pub to : σ k ≡ j

module _ (n : ℕ) (σ : ℕ → ℕ) (keeps : Reorders n σ) where
  -- no index is taken out of the range
  pub reorders_lt : (k : ℕ) → k < n → σ k < n
  reorders_lt k h =
      let none : sum n (λ j. one_if (leb n j)) ≡ 0 = sum_ext n (λ j. one_if (leb n j)) (λ j. 0) (λ j l. ap one_if (lt-leb n j l)) ∙ sum_none n in
      go (leb n (σ k)) refl (omega (arith, sum_term n (λ j. one_if (leb n (σ j))) k h, keeps (λ j. one_if (leb n j))))
    where
      go : (t : Bool) → leb n (σ k) ≡ t → one_if (leb n (σ k)) ≤ 0 → σ k < n
      go true e z = let y : one_if (leb n (σ k)) ≡ 1 = ap one_if e in let no : ⊥ = omega arith in absurd no
      go false e z = leb-false n (σ k) e

  -- each index is taken
  pub reorders_onto : (j : ℕ) → j < n → Source n σ j
  reorders_onto j h =
      let one : one_if (eqb j j) ≡ 1 = ap one_if (eq-eqb j j refl) in
      let s = sum_some n (λ k. one_if (eqb (σ k) j)) (omega (arith, sum_term n (λ k. one_if (eqb k j)) j h, keeps (λ k. one_if (eqb k j)))) in
      record { k = s.k; below = s.below; to = eqb-true (σ s.k) j (one_if_pos (eqb (σ s.k) j) s.counts) }
