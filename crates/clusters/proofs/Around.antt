-- The neighbours of sample p that the walk claims, where they lie in the plane: each is a neighbour, and each neighbour is one of them.
-- Assumes nothing.
use mathlib.Core.Path.{◌≡◌, sym, ap, ◌∙◌, refl, subst}
use mathlib.Core.Bool.{true}
use Prim.Native.Nat.{ℕ, ◌+◌, ◌-◌, ◌%◌, ◌≤◌, ◌<◌}
use native.Mathlib.Nat.{mod-le}
use native.Mathlib.Omega.{arith}
use lib.Dec.{ltb, leb}
use borrow.Author.Tests.{ltb-true, leb-true, lt-ltb, le-leb}
use Rattle.clusters.proofs.Neighbours.{Beside, to_right, to_left, down, up, next_column, not_last}

module _ (w p : ℕ) (pos : 0 < w) where
  -- ---- each is a neighbour

  pub is_left : ltb 0 (p % w) ≡ true → Beside w p (p - 1)
  is_left b =
      let x : 0 < p % w = ltb-true 0 (p % w) b in
      let e : p ≡ p - 1 + 1 = omega (arith, mod-le p w) in
      to_left (not_last (p - 1) w pos (subst (λ (k : ℕ). 0 < k % w) e x)) e

  pub is_right : ltb (p % w + 1) w ≡ true → Beside w p (p + 1)
  is_right b = to_right (ltb-true (p % w + 1) w b) refl

  pub is_above : leb w p ≡ true → Beside w p (p - w)
  is_above b = let l : w ≤ p = leb-true w p b in up (omega arith)

  -- ---- each neighbour is one of the four

  pub one_of_four : (n : ℕ) (P : ℕ → Type 0) → (ltb 0 (p % w) ≡ true → P (p - 1)) → (ltb (p % w + 1) w ≡ true → P (p + 1)) → (leb w p ≡ true → P (p - w)) → (ltb (p + w) n ≡ true → P (p + w))
      → (i : ℕ) → i < n → Beside w p i → P i
  one_of_four n P l r a u i h (to_right b e) = subst P (sym e) (r (lt-ltb (p % w + 1) w b))
  one_of_four n P l r a u i h (to_left b e) =
      let x : p % w ≡ i % w + 1 = ap (λ (k : ℕ). k % w) e ∙ next_column i w b in
      let q : p - 1 ≡ i = omega arith in
      subst P q (l (lt-ltb 0 (p % w) (omega arith)))
  one_of_four n P l r a u i h (down e) = subst P (sym e) (u (lt-ltb (p + w) n (omega arith)))
  one_of_four n P l r a u i h (up e) =
      let q : p - w ≡ i = omega arith in
      subst P q (a (le-leb w p (omega arith)))
