-- The least level is one of the levels and at most each of them, the greatest one of them and at least each. Assumes nothing.
use mathlib.Core.Path.{◌≡◌, refl, sym, ◌∙◌, subst}
use mathlib.Core.Logic.{◌⊎◌, inl, inr}
use mathlib.Core.List.{List, [], ◌∷◌, foldl}
use Prim.Native.Nat.{ℕ, zero, suc, ◌≤◌, ◌<◌, min, max, suc-le-suc}
use native.Mathlib.Nat.{le_refl, le_trans, zero-lt-suc, not-suc-le-zero, le_of_suc-le-suc, min-le_left, min-le_right, le-max_left, le-max_right}
use native.Mathlib.Decide.{dec_le}
use native.Mathlib.Omega.{arith}
use lib.ListN.{length, get_or}
use Rattle.levels.specs.Levels.{over_all, least_of, greatest_of}

-- v is one of the levels
pub record Level (l : List ℕ) (v : ℕ) : Type 0 where
  pub k : ℕ
  pub within : k < length l
  pub is : get_or l k 0 ≡ v

-- what f takes of the levels is one of them, and lies to each of them as R says
pub record Taken (f : ℕ → ℕ → ℕ) (R : ℕ → ℕ → Type 0) : Type 0 where
  pub each : (l : List ℕ) (k : ℕ) → k < length l → R (over_all f l) (get_or l k 0)
  pub level : (l : List ℕ) → 0 < length l → Level l (over_all f l)

-- so it is where f does so with two numbers
module _ (f : ℕ → ℕ → ℕ) (R : ℕ → ℕ → Type 0)
    (same : (a : ℕ) → R a a) (chain : (a b c : ℕ) → R a b → R b c → R a c)
    (left : (a b : ℕ) → R (f a b) a) (right : (a b : ℕ) → R (f a b) b) (one : (a b : ℕ) → (f a b ≡ a) ⊎ (f a b ≡ b)) where
  fold_first : (m : ℕ) (l : List ℕ) → R (foldl f m l) m
  fold_first m [] = same m
  fold_first m (v ∷ vs) = chain _ _ _ (fold_first (f m v) vs) (left m v)

  fold_each : (m : ℕ) (l : List ℕ) (k : ℕ) → k < length l → R (foldl f m l) (get_or l k 0)
  fold_each m [] k h = absurd (not-suc-le-zero h)
  fold_each m (v ∷ vs) zero h = chain _ _ _ (fold_first (f m v) vs) (right m v)
  fold_each m (v ∷ vs) (suc k) h = fold_each (f m v) vs k (le_of_suc-le-suc h)

  fold_level : (m : ℕ) (l : List ℕ) → Level (m ∷ l) (foldl f m l)
  fold_level m [] = record { k = 0; within = zero-lt-suc 0; is = refl }
  fold_level m (v ∷ vs) = go (fold_level (f m v) vs).k (fold_level (f m v) vs).within (fold_level (f m v) vs).is (one m v)
    where
      go : (k : ℕ) → k < length (f m v ∷ vs) → get_or (f m v ∷ vs) k 0 ≡ foldl f (f m v) vs → (f m v ≡ m) ⊎ (f m v ≡ v) → Level (m ∷ v ∷ vs) (foldl f (f m v) vs)
      go zero w e (inl p) = record { k = 0; within = zero-lt-suc (length (v ∷ vs)); is = sym p ∙ e }
      go zero w e (inr p) = record { k = 1; within = suc-le-suc (zero-lt-suc (length vs)); is = sym p ∙ e }
      go (suc k) w e p = record { k = suc (suc k); within = suc-le-suc w; is = e }

  taken : Taken f R
  unfolding over_all
  taken = record { each = each; level = level }
    where
      each : (l : List ℕ) (k : ℕ) → k < length l → R (over_all f l) (get_or l k 0)
      each [] k h = absurd (not-suc-le-zero h)
      each (v ∷ vs) zero h = fold_first v vs
      each (v ∷ vs) (suc k) h = fold_each v vs k (le_of_suc-le-suc h)

      level : (l : List ℕ) → 0 < length l → Level l (over_all f l)
      level [] h = absurd (not-suc-le-zero h)
      level (v ∷ vs) h = fold_level v vs

min_one : (a b : ℕ) → (min a b ≡ a) ⊎ (min a b ≡ b)
min_one a b = elim (dec_le a b) [ yes h ↦ inl (omega arith) | no h ↦ inr (omega arith) ]

max_one : (a b : ℕ) → (max a b ≡ a) ⊎ (max a b ≡ b)
max_one a b = elim (dec_le a b) [ yes h ↦ inr (omega arith) | no h ↦ inl (omega arith) ]

pub least : Taken min (λ a b. a ≤ b)
least = taken min (λ a b. a ≤ b) le_refl (λ a b c p q. le_trans p q) min-le_left min-le_right min_one

pub greatest : Taken max (λ a b. b ≤ a)
greatest = taken max (λ a b. b ≤ a) le_refl (λ a b c p q. le_trans q p) le-max_left le-max_right max_one

pub least_le_greatest : (l : List ℕ) → 0 < length l → least_of l ≤ greatest_of l
least_le_greatest l h = le_trans (least.each l 0 h) (greatest.each l 0 h)

-- where each level of b is one of a, what is taken of a lies to what is taken of b as R says
pub part : {f : ℕ → ℕ → ℕ} {R : ℕ → ℕ → Type 0} → Taken f R → (a b : List ℕ) → 0 < length b → ((k : ℕ) → k < length b → Level a (get_or b k 0)) → R (over_all f a) (over_all f b)
part {f} {R} t a b some each =
    let v = t.level b some in
    let u = each v.k v.within in
    subst (R (over_all f a)) (u.is ∙ v.is) (t.each a u.k u.within)

pub over_none : (f : ℕ → ℕ → ℕ) (l : List ℕ) → length l ≡ 0 → over_all f l ≡ 0
unfolding over_all
over_none f [] e = refl
over_none f (v ∷ vs) e = let no : ⊥ = omega arith in absurd no

-- all levels lie from low to high
module _ (l : List ℕ) (low high : ℕ) (inside : (k : ℕ) → k < length l → (low ≤ get_or l k 0) × (get_or l k 0 ≤ high)) where
  pub range_within : 0 < length l → (low ≤ least_of l) × (greatest_of l ≤ high)
  range_within some =
      let u = least.level l some in
      let v = greatest.level l some in
      (omega (arith, u.is, (inside u.k u.within).0), omega (arith, v.is, (inside v.k v.within).1))

  pub range_is : Level l low → Level l high → (least_of l ≡ low) × (greatest_of l ≡ high)
  range_is u v =
      let w = range_within (omega (arith, u.within)) in
      (omega (arith, w.0, least.each l u.k u.within, u.is), omega (arith, w.1, greatest.each l v.k v.within, v.is))
