-- A whole number as a difference a − b of natural numbers: an equation of sums and products of whole numbers becomes one of
-- natural numbers, which omega proves. Assumes nothing.
use mathlib.Core.Path.{◌≡◌, refl, ap}
use mathlib.Core.Bool.{Bool, true, false, cond}
use Prim.Native.Nat.{ℕ, zero, suc, ◌+◌, ◌-◌, ◌*◌, ◌<◌, ◌≤◌}
use native.Mathlib.Omega.{arith}
use borrow.Author.Tests.{ltb-true, ltb-false}
use lib.Dec.{ltb}
use lib.IntN.{ℤ, pos, negsuc, neg_ℤ, sub_ℕ, ◌+ℤ◌, ◌-ℤ◌, ◌*ℤ◌, nat_abs}

-- z is a − b
abbrev Is : ℤ → ℕ → ℕ → Type 0
Is (pos n) a b = a ≡ b + n
Is (negsuc n) a b = b ≡ a + suc n

pub record Diff (z : ℤ) (a b : ℕ) : Type 0 where
  is : Is z a b

pub Diff-pos : (n : ℕ) → Diff (pos n) n 0
Diff-pos n = record { is = omega arith }

-- every whole number is such a difference
abbrev pub above : ℤ → ℕ
above (pos n) = n
above (negsuc n) = 0

abbrev pub below : ℤ → ℕ
below (pos n) = 0
below (negsuc n) = suc n

pub diff : (z : ℤ) → Diff z (above z) (below z)
diff (pos n) = record { is = omega arith }
diff (negsuc n) = record { is = omega arith }

-- ---- sums and products

Is-sub : (p q a b : ℕ) → a + q ≡ b + p → Is (sub_ℕ p q) a b
Is-sub p q a b e = go (ltb p q) refl
  where
    go : (t : Bool) → ltb p q ≡ t → Is (cond t (negsuc (q - suc p)) (pos (p - q))) a b
    go true f = let h = ltb-true p q f in omega arith
    go false f = let h = ltb-false p q f in omega arith

Is-plus : (x y : ℤ) (a b c d : ℕ) → Is x a b → Is y c d → Is (x +ℤ y) (a + c) (b + d)
Is-plus (pos n) (pos m) a b c d p q = omega arith
Is-plus (pos n) (negsuc m) a b c d p q = Is-sub n (suc m) (a + c) (b + d) (omega arith)
Is-plus (negsuc n) (pos m) a b c d p q = Is-sub m (suc n) (a + c) (b + d) (omega arith)
Is-plus (negsuc n) (negsuc m) a b c d p q = omega arith

Is-neg : (x : ℤ) (a b : ℕ) → Is x a b → Is (neg_ℤ x) b a
Is-neg (pos zero) a b p = omega arith
Is-neg (pos (suc n)) a b p = p
Is-neg (negsuc n) a b p = p

Is-times : (x y : ℤ) (a b c d : ℕ) → Is x a b → Is y c d → Is (x *ℤ y) (a * c + b * d) (a * d + b * c)
Is-times (pos n) (pos m) a b c d p q = rw (p, q) (omega arith)
Is-times (pos n) (negsuc m) a b c d p q = Is-neg (pos (n * suc m)) (a * d + b * c) (a * c + b * d) (rw (p, q) (omega arith))
Is-times (negsuc n) (pos m) a b c d p q = Is-neg (pos (suc n * m)) (a * d + b * c) (a * c + b * d) (rw (p, q) (omega arith))
Is-times (negsuc n) (negsuc m) a b c d p q = rw (p, q) (omega arith)

pub Diff-neg : {x : ℤ} {a b : ℕ} → Diff x a b → Diff (neg_ℤ x) b a
Diff-neg {x} {a} {b} p = record { is = Is-neg x a b p.is }

module _ {x y : ℤ} {a b c d : ℕ} (p : Diff x a b) (q : Diff y c d) where
  pub Diff-plus : Diff (x +ℤ y) (a + c) (b + d)
  Diff-plus = record { is = Is-plus x y a b c d p.is q.is }

  pub Diff-minus : Diff (x -ℤ y) (a + d) (b + c)
  Diff-minus = record { is = Is-plus x (neg_ℤ y) a b d c p.is (Is-neg y c d q.is) }

  pub Diff-times : Diff (x *ℤ y) (a * c + b * d) (a * d + b * c)
  Diff-times = record { is = Is-times x y a b c d p.is q.is }

-- ---- what they say

Is-same : (x y : ℤ) (a b c d : ℕ) → Is x a b → Is y c d → a + d ≡ c + b → x ≡ y
Is-same (pos n) (pos m) a b c d p q e = let f : n ≡ m = omega arith in ap pos f
Is-same (pos n) (negsuc m) a b c d p q e = absurd (omega arith)
Is-same (negsuc n) (pos m) a b c d p q e = absurd (omega arith)
Is-same (negsuc n) (negsuc m) a b c d p q e = let f : n ≡ m = omega arith in ap negsuc f

-- two differences that are the same
pub Diff-same : {x y : ℤ} {a b c d : ℕ} → Diff x a b → Diff y c d → a + d ≡ c + b → x ≡ y
Diff-same {x} {y} {a} {b} {c} {d} p q e = Is-same x y a b c d p.is q.is e

Is-abs : (x : ℤ) (n a b : ℕ) → Is x a b → a ≤ b + n → b ≤ a + n → nat_abs x ≤ n
Is-abs (pos m) n a b p h k = omega arith
Is-abs (negsuc m) n a b p h k = omega arith

-- how large it is
pub Diff-abs : {x : ℤ} {a b : ℕ} (n : ℕ) → Diff x a b → a ≤ b + n → b ≤ a + n → nat_abs x ≤ n
Diff-abs {x} {a} {b} n p h k = Is-abs x n a b p.is h k

Is-near : (x : ℤ) (n a b : ℕ) → Is x a b → nat_abs x < n → (a < b + n) × (b < a + n)
Is-near (pos m) n a b p h = omega arith
Is-near (negsuc m) n a b p h = omega arith

-- it is small, so its two numbers are near each other
pub Diff-near : {x : ℤ} {a b n : ℕ} → Diff x a b → nat_abs x < n → (a < b + n) × (b < a + n)
Diff-near {x} {a} {b} {n} p h = Is-near x n a b p.is h

Is-abs_two : (x y : ℤ) (n a b c d : ℕ) → Is x a b → Is y c d → a + c ≤ b + d + n → b + d ≤ a + c + n → a + d ≤ b + c + n → b + c ≤ a + d + n
    → nat_abs x + nat_abs y ≤ n
Is-abs_two (pos k) (pos l) n a b c d p q e f g h = omega arith
Is-abs_two (pos k) (negsuc l) n a b c d p q e f g h = omega arith
Is-abs_two (negsuc k) (pos l) n a b c d p q e f g h = omega arith
Is-abs_two (negsuc k) (negsuc l) n a b c d p q e f g h = omega arith

-- how large two are together: at most n where their sum and their difference are
pub Diff-abs_two : {x y : ℤ} {a b c d : ℕ} (n : ℕ) → Diff x a b → Diff y c d → a + c ≤ b + d + n → b + d ≤ a + c + n → a + d ≤ b + c + n → b + c ≤ a + d + n
    → nat_abs x + nat_abs y ≤ n
Diff-abs_two {x} {y} {a} {b} {c} {d} n p q e f g h = Is-abs_two x y n a b c d p.is q.is e f g h
