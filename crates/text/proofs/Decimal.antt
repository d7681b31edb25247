-- A number of one or two digits in decimal. Assumes nothing.
use mathlib.Core.Path.{◌≡◌, ap}
use mathlib.Core.List.{[], ◌∷◌}
use Prim.Native.Nat.{ℕ, zero, suc, ◌+◌, ◌/◌, ◌%◌, ◌≤◌, ◌<◌}
use native.Mathlib.Nat.{not-suc-le-zero}
use native.Mathlib.Decide.{dec_lt}
use native.Mathlib.Omega.{arith}
use borrow.Author.Tests.{lt-ltb, le-ltb}
use lib.ListN.{length}
use Rattle.text.specs.Text.{decimal_within, decimal}

-- however many digits there is room for before it
one_within : (more n : ℕ) → n < 10 → decimal_within more n ≡ (48 + n) ∷ []
unfolding decimal_within
one_within zero n h = ap (λ (d : ℕ). (48 + d) ∷ []) (omega arith)
one_within (suc more) n h = simp (lt-ltb n 10 h)

pub one_digit : (n : ℕ) → n < 10 → decimal n ≡ (48 + n) ∷ []
one_digit n h = one_within n n h

pub two_digits : (n : ℕ) → 10 ≤ n → n < 100 → decimal n ≡ (48 + n / 10) ∷ (48 + n % 10) ∷ []
unfolding decimal_within
two_digits zero l h = absurd (not-suc-le-zero l)
two_digits (suc m) l h = simp (le-ltb (suc m) 10 l, one_within m (suc m / 10) (omega arith))

-- how long that is
pub one_long : (n : ℕ) → n < 10 → length (decimal n) ≡ 1
one_long n h = ap length (one_digit n h)

pub two_long : (n : ℕ) → 10 ≤ n → n < 100 → length (decimal n) ≡ 2
two_long n l h = ap length (two_digits n l h)

pub decimal-length : (n : ℕ) → n < 100 → length (decimal n) ≤ 2
decimal-length n h = elim (dec_lt n 10) [
  | yes l ↦ omega (arith, one_long n l)
  | no g ↦ omega (arith, two_long n (omega arith) h)
]

pub decimal_some : (n : ℕ) → n < 100 → 0 < length (decimal n)
decimal_some n h = elim (dec_lt n 10) [
  | yes l ↦ omega (arith, one_long n l)
  | no g ↦ omega (arith, two_long n (omega arith) h)
]
