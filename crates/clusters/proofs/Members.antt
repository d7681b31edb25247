-- Sums over lists of places and over sets. Assumes nothing.
use mathlib.Core.Path.{◌≡◌, refl, ap, ◌∙◌}
use mathlib.Core.Logic.{⊎_elim}
use mathlib.Core.Bool.{Bool, true, false, cond}
use mathlib.Core.List.{List, [], ◌∷◌, ◌++◌}
use Prim.Native.Nat.{ℕ, zero, suc, ◌+◌, ◌*◌, ◌≤◌, ◌<◌}
use native.Mathlib.Nat.{not-suc-le-zero}
use native.Mathlib.Omega.{arith}
use lib.ListN.{length}
use Rattle.lists.specs.Sum.{sum}
use Rattle.std.proofs.lemmas.Bool.{cases_eq}
use Rattle.lists.proofs.Sum.{sum_ext, sum_most, sum_none}

-- the sum of f over the places of a list
unfoldable pub list_sum : (ℕ → ℕ) → List ℕ → ℕ
list_sum f [] = 0
list_sum f (x ∷ l) = f x + list_sum f l

pub list_sum_more : (f : ℕ → ℕ) (l : List ℕ) (p : ℕ) → list_sum f (l ++ (p ∷ [])) ≡ list_sum f l + f p
unfolding list_sum
list_sum_more f [] p = omega arith
list_sum_more f (x ∷ l) p = omega (arith, list_sum_more f l p)

pub list_sum_ones : (l : List ℕ) → list_sum (λ _. 1) l ≡ length l
unfolding list_sum
list_sum_ones [] = refl
list_sum_ones (x ∷ l) = omega (arith, list_sum_ones l)

-- the sum of f over the members of a set that are below n
abbrev pub set_sum : (ℕ → Bool) → (ℕ → ℕ) → ℕ → ℕ
set_sum m f n = sum n (λ i. cond (m i) (f i) 0)

-- an empty set has no sum
pub set_sum_none : (m : ℕ → Bool) (f : ℕ → ℕ) (n : ℕ) → ((i : ℕ) → m i ≡ false) → set_sum m f n ≡ 0
set_sum_none m f n h = sum_ext n (λ i. cond (m i) (f i) 0) (λ i. 0) (λ i l. ap (λ (t : Bool). cond t (f i) 0) (h i)) ∙ sum_none n

-- two sets with the same members have the same sum
pub set_sum_same : (m m' : ℕ → Bool) (f : ℕ → ℕ) (n : ℕ) → ((i : ℕ) → m i ≡ m' i) → set_sum m f n ≡ set_sum m' f n
set_sum_same m m' f n h = ap (λ (k : ℕ → Bool). set_sum k f n) (λ j i. h i j)

-- where f is at most b, the sum is at most b for each place below n
pub set_sum-le : (m : ℕ → Bool) (f : ℕ → ℕ) (b n : ℕ) → ((i : ℕ) → i < n → f i ≤ b) → set_sum m f n ≤ n * b
set_sum-le m f b n h = sum_most n b (λ i. cond (m i) (f i) 0) (λ i l. part_le (m i) (f i) (h i l))
  where
    part_le : (t : Bool) (x : ℕ) → x ≤ b → cond t x 0 ≤ b
    part_le true x h = h
    part_le false x h = omega arith

module _ (m m' : ℕ → Bool) (f : ℕ → ℕ) (p : ℕ) (out : m p ≡ false) (into : m' p ≡ true) (others : (i : ℕ) → (i ≡ p → ⊥) → m' i ≡ m i) where
  same_before : (n : ℕ) → n ≤ p → set_sum m' f n ≡ set_sum m f n
  same_before n h = sum_ext n (λ i. cond (m' i) (f i) 0) (λ i. cond (m i) (f i) 0) (λ i l. ap (λ (t : Bool). cond t (f i) 0) (others i (λ q. omega arith)))

  others_more : (n : ℕ) → (n ≡ p → ⊥) → set_sum m' f n ≡ set_sum m f n + f p → set_sum m' f (suc n) ≡ set_sum m f (suc n) + f p
  unfolding sum
  others_more n e t = simp (others n e, t) (omega arith)

  -- one more member adds its own part
  pub set_sum_more : (n : ℕ) → p < n → set_sum m' f n ≡ set_sum m f n + f p
  unfolding sum
  set_sum_more zero h = absurd (not-suc-le-zero h)
  set_sum_more (suc n) h =
      ⊎_elim
      (λ e. simp (e, out, into, same_before p (omega arith)) (omega arith))
      (λ e. others_more n e (set_sum_more n (omega arith)))
      (cases_eq n p)
