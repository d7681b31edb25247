-- A word that differs from a code in fewer bits than the threshold has a one and a zero in the square, if the code has at least as
-- many ones and zeros as the threshold. Assumes nothing.
use mathlib.Core.Path.{◌≡◌, refl, sym, ap, ◌∙◌}
use mathlib.Core.Bool.{Bool, true, false, ◌&&◌}
use Prim.Native.Nat.{ℕ, zero, suc, ◌+◌, ◌-◌, ◌≤◌, ◌<◌}
use native.Mathlib.Nat.{le_refl, not-suc-le-zero, le_of_suc-le-suc}
use native.Mathlib.Omega.{arith}
use borrow.Author.Tests.{eqb-true, eqb-false}
use lib.Bits.{differ}
use lib.Dec.{eqb}
use Rattle.lists.specs.Each.{each}
use Rattle.lists.specs.Sum.{sum}
use Rattle.lists.proofs.Each.{each_at}
use Rattle.lists.proofs.Sum.{sum_ext, sum_plus}
use Rattle.word.specs.Word.{bit, differing_in}
use Rattle.std.proofs.lemmas.Nat.Bits.{bit_at-lt}

-- a place where a test fails
pub record Fails (n : ℕ) (ok : ℕ → Bool) : Type 0 where
  pub at : ℕ
  pub below : at < n
  pub fails : ok at ≡ false

Fails-at : (n : ℕ) (ok : ℕ → Bool) → each n ok ≡ false → Fails n ok
unfolding each
Fails-at zero ok e = absurd (true_false e)
  where
    true_false : true ≡ false → ⊥
    true_false e = mathlib.Core.Bool.true≢false e
Fails-at (suc n) ok e = go (Fails-at n ok) (ok n) refl e
  where
    go : (each n ok ≡ false → Fails n ok) → (t : Bool) → ok n ≡ t → t && each n ok ≡ false → Fails (suc n) ok
    go rest false p q = record { at = n; below = le_refl (suc n); fails = p }
    go rest true p q = let f = rest q in record { at = f.at; below = omega (arith, f.below); fails = f.fails }

-- a place of the n low ones at which w has the bit x
pub record Has (n w x : ℕ) : Type 0 where
  pub place : ℕ
  pub inside : place < n
  pub is : bit w place ≡ x

other : (b : ℕ) → b < 2 → (b ≡ 0 → ⊥) → b ≡ 1
other zero h ne = absurd (ne refl)
other (suc zero) h ne = refl
other (suc (suc b)) h ne = absurd (not-suc-le-zero (le_of_suc-le-suc (le_of_suc-le-suc h)))

none_other : (b : ℕ) → b < 2 → (b ≡ 1 → ⊥) → b ≡ 0
none_other zero h ne = refl
none_other (suc zero) h ne = absurd (ne refl)
none_other (suc (suc b)) h ne = absurd (not-suc-le-zero (le_of_suc-le-suc (le_of_suc-le-suc h)))

one_less : (b : ℕ) → b < 2 → differ 1 b + b ≡ 1
one_less zero h = refl
one_less (suc zero) h = refl
one_less (suc (suc b)) h = absurd (not-suc-le-zero (le_of_suc-le-suc (le_of_suc-le-suc h)))

each_one : (n : ℕ) → sum n (λ k. 1) ≡ n
unfolding sum
each_one zero = refl
each_one (suc n) = omega (arith, each_one n)

module _ (n w code t : ℕ) (near : differing_in n w code < t) where
  -- no bit of w is a one: it differs from the code at each of the code's ones
  all_zero : ((k : ℕ) → k < n → bit w k ≡ 0) → differing_in n w code ≡ sum n (bit code)
  unfolding differing_in
  all_zero z = sum_ext n (λ k. differ (bit w k) (bit code k)) (bit code) (λ k l. ap (λ (x : ℕ). differ x (bit code k)) (z k l))

  -- every bit of w is a one: it differs from the code at each of the code's zeros
  all_one : ((k : ℕ) → k < n → bit w k ≡ 1) → differing_in n w code + sum n (bit code) ≡ n
  unfolding differing_in
  all_one o =
      sym (sum_plus n (λ k. differ (bit w k) (bit code k)) (bit code))
      ∙ sum_ext n (λ k. differ (bit w k) (bit code k) + bit code k) (λ k. 1) (λ k l. ap (λ (x : ℕ). differ x (bit code k) + bit code k) (o k l) ∙ one_less (bit code k) (bit_at-lt code k))
      ∙ each_one n

  pub Has-one : t ≤ sum n (bit code) → Has n w 1
  Has-one h = go (each n (λ k. eqb (bit w k) 0)) refl
    where
      go : (b : Bool) → each n (λ k. eqb (bit w k) 0) ≡ b → Has n w 1
      go true e = absurd (omega (arith, all_zero (λ k l. eqb-true (bit w k) 0 (each_at n (λ k. eqb (bit w k) 0) e k l))))
      go false e =
          let f = Fails-at n (λ k. eqb (bit w k) 0) e in
          record { place = f.at; inside = f.below; is = other (bit w f.at) (bit_at-lt w f.at) (eqb-false (bit w f.at) 0 f.fails) }

  pub Has-zero : t ≤ n - sum n (bit code) → Has n w 0
  Has-zero h = go (each n (λ k. eqb (bit w k) 1)) refl
    where
      go : (b : Bool) → each n (λ k. eqb (bit w k) 1) ≡ b → Has n w 0
      go true e = absurd (omega (arith, all_one (λ k l. eqb-true (bit w k) 1 (each_at n (λ k. eqb (bit w k) 1) e k l))))
      go false e =
          let f = Fails-at n (λ k. eqb (bit w k) 1) e in
          record { place = f.at; inside = f.below; is = none_other (bit w f.at) (bit_at-lt w f.at) (eqb-false (bit w f.at) 1 f.fails) }
