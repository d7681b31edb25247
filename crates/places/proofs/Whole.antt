-- Whole numbers with a sign, as an i64 holds them. The magnitude of a product is the library's `unsigned_abs-mul`. Assumes nothing.
use mathlib.Core.Path.{◌≡◌, refl, sym, ap, ap₂, ◌∙◌, subst}
use mathlib.Core.Bool.{Bool, true, false, cond}
use Prim.Native.Nat.{ℕ, zero, suc, ◌+◌, ◌-◌, ◌*◌, ◌^◌, ◌<◌, ◌≤◌}
use native.Mathlib.Nat.{mul-le-mul}
use native.Mathlib.Omega.{arith}
use lib.Dec.{ltb}
use borrow.Author.Tests.{ltb-true}
use lib.IntN.{ℤ, pos, negsuc, neg_ℤ, sub_ℕ, ◌+ℤ◌, ◌-ℤ◌, ◌*ℤ◌, nat_abs}
use mir.Syntax.{w64}
use mir.Val.{SFits, to_z, of_z}
use mir.ValLaws.{to_z_pos, to_z-of_z}
use Rattle.std.proofs.lemmas.Int.{unsigned_abs-mul, fits_signed_from_abs}

-- ---- magnitudes

pub abs_neg : (z : ℤ) → nat_abs (neg_ℤ z) ≡ nat_abs z
abs_neg (pos zero) = refl
abs_neg (pos (suc n)) = refl
abs_neg (negsuc n) = refl

abs_sub : (a b : ℕ) → nat_abs (sub_ℕ a b) ≤ a + b
abs_sub a b = go (ltb a b) refl
  where
    go : (t : Bool) → ltb a b ≡ t → nat_abs (cond t (negsuc (b - suc a)) (pos (a - b))) ≤ a + b
    go true e = let h = ltb-true a b e in omega arith
    go false e = omega arith

pub abs_plus : (x y : ℤ) → nat_abs (x +ℤ y) ≤ nat_abs x + nat_abs y
abs_plus (pos a) (pos b) = omega arith
abs_plus (pos a) (negsuc b) = abs_sub a (suc b)
abs_plus (negsuc a) (pos b) = omega (arith, abs_sub b (suc a))
abs_plus (negsuc a) (negsuc b) = omega arith

-- ---- what an i64 holds

-- the bits v are the number z, of magnitude n at most
pub record Held (v : ℕ) (z : ℤ) (n : ℕ) : Type 0 where
  pub is : to_z w64 v ≡ z
  pub within : nat_abs z ≤ n

pub number : (r z : ℤ) (n : ℕ) → r ≡ z → n < 2 ^ 63 → nat_abs z ≤ n → Held (of_z w64 r) z n
number r z n e l h = record { is = ap (λ (x : ℤ). to_z w64 (of_z w64 x)) e ∙ to_z-of_z w64 z (fits_signed_from_abs w64 z (omega arith)); within = h }

pub natural : (k n : ℕ) → n < 2 ^ 63 → k ≤ n → Held k (pos k) n
natural k n l h = record { is = to_z_pos w64 k (omega arith); within = h }

-- an operation on two such numbers: the result fits, and its bits are the number z, of magnitude n at most
abbrev pub Made : (ℤ → ℤ → ℤ) → ℕ → ℕ → ℤ → ℕ → Type 0
Made op v u z n = SFits w64 (op (to_z w64 v) (to_z w64 u)) × Held (of_z w64 (op (to_z w64 v) (to_z w64 u))) z n

module _ {v u n m : ℕ} {x y : ℤ} (p : Held v x n) (q : Held u y m) where
  made : (op : ℤ → ℤ → ℤ) (k : ℕ) → nat_abs (op x y) ≤ k → k < 2 ^ 63 → Made op v u (op x y) k
  made op k h l =
      let e : op (to_z w64 v) (to_z w64 u) ≡ op x y = ap₂ op p.is q.is in
      let f : SFits w64 (op (to_z w64 v) (to_z w64 u)) = subst (SFits w64) (sym e) (fits_signed_from_abs w64 (op x y) (omega arith)) in
      (f, record { is = to_z-of_z w64 (op (to_z w64 v) (to_z w64 u)) f ∙ e; within = h })

  pub plus : n + m < 2 ^ 63 → Made ◌+ℤ◌ v u (x +ℤ y) (n + m)
  plus = made ◌+ℤ◌ (n + m) (omega (arith, abs_plus x y, p.within, q.within))

  pub minus : n + m < 2 ^ 63 → Made ◌-ℤ◌ v u (x -ℤ y) (n + m)
  minus = made ◌-ℤ◌ (n + m) (omega (arith, abs_plus x (neg_ℤ y), abs_neg y, p.within, q.within))

  pub times : n * m < 2 ^ 63 → Made ◌*ℤ◌ v u (x *ℤ y) (n * m)
  times = made ◌*ℤ◌ (n * m) (omega (arith, unsigned_abs-mul x y, mul-le-mul p.within q.within))
