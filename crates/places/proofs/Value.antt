-- The definitions of a float's rounding depend on its value alone, in whatever fraction it is written. Assumes nothing.
use mathlib.Core.Path.{◌≡◌, refl, sym, ap, ap₂, ◌∙◌}
use mathlib.Core.Bool.{Bool, true, false, true≢false}
use Prim.Native.Nat.{ℕ, zero, suc, ◌+◌, ◌*◌, ◌/◌, ◌<◌, ◌≤◌}
use native.Mathlib.Nat.{div-eq_of_lt, mul-div-mul_right, mul-le-mul_right, mul-lt-mul_of_pos_right, le_of_mul-le-mul_right, lt_of_mul-lt-mul_right}
use native.Mathlib.Omega.{arith}
use borrow.Author.Tests.{leb-true, leb-false, le-leb, lt-leb}
use lib.Dec.{leb, lit<}
use lib.IntN.{ℤ, pos, negsuc, nat_abs}
use lib.Signed.{lt_z}
use lib.Ieee.{Float, nan, inf, fin, up, down}
use lib.Ieee.Exact.{HasValue}
use lib.Ieee.Nearest.{div_same}
use lib.Ieee.Fits.{down_pos}
use Rattle.places.specs.Rounding.{nearest, signed, bad_coordinate, to_pixel, pixel_of, in_1024ths, nearest_times}

-- k × a / c and k × b / d, where a / c and b / d are the same
pub nearest_same : (k a c b d : ℕ) → 0 < c → 0 < d → a * d ≡ b * c → nearest (k * a) c ≡ nearest (k * b) d
nearest_same k a c b d C D e =
    let e' : k * (a * d) ≡ k * (b * c) = ap (λ (n : ℕ). k * n) e in
    div_same (2 * (k * a) + c) (2 * c) (2 * (k * b) + d) (2 * d) (omega arith) (omega arith) (omega arith)

nearest_once : (a c b d : ℕ) → 0 < c → 0 < d → a * d ≡ b * c → nearest a c ≡ nearest b d
nearest_once a c b d C D e = div_same (2 * a + c) (2 * c) (2 * b + d) (2 * d) (omega arith) (omega arith) (omega arith)

-- a common factor may be left out
pub nearest_factor : (n d u : ℕ) → 0 < u → nearest (n * u) (d * u) ≡ nearest n d
nearest_factor n d u U =
    let e : 2 * (n * u) + d * u ≡ (2 * n + d) * u = omega arith in
    let f : 2 * (d * u) ≡ 2 * d * u = omega arith in
    ap₂ (λ (x y : ℕ). x / y) e f ∙ mul-div-mul_right (2 * n + d) (2 * d) U

-- an even divisor: its half is added before the division
pub nearest_even : (n h : ℕ) → nearest n (2 * h) ≡ (n + h) / (2 * h)
nearest_even n h =
    let e : 2 * n + 2 * h ≡ (n + h) * 2 = omega arith in
    let f : 2 * (2 * h) ≡ 2 * h * 2 = omega arith in
    ap₂ (λ (x y : ℕ). x / y) e f ∙ mul-div-mul_right (n + h) (2 * h) (lit< tt)

-- less than a half
pub nearest_small : (n d : ℕ) → 2 * n < d → nearest n d ≡ 0
nearest_small n d h = div-eq_of_lt (omega arith)

pub pixel_negative : (n d : ℕ) → 0 < d → to_pixel (signed true n) d ≡ 0
pixel_negative zero d D = nearest_small 0 d D
pixel_negative (suc n) d D = refl

-- a fraction whose dividend is not negative, with an even divisor
pub not_below_pixel : (z : ℤ) (h : ℕ) → lt_z z (pos 0) ≡ false → (nat_abs z + h) / (2 * h) ≡ to_pixel z (2 * h)
not_below_pixel (pos n) h e = sym (nearest_even n h)
not_below_pixel (negsuc n) h e = absurd (true≢false e)

leb_same : (a b a' b' : ℕ) → (a ≤ b → a' ≤ b') → (b < a → b' < a') → leb a b ≡ leb a' b'
leb_same a b a' b' f g = go (leb a b) refl
  where
    go : (t : Bool) → leb a b ≡ t → t ≡ leb a' b'
    go true e = sym (le-leb a' b' (f (leb-true a b e)))
    go false e = sym (lt-leb a' b' (g (leb-false a b e)))

-- a / c and b / d are the same: if one is k or more, or less, so is the other
module _ (k a c b d : ℕ) (e : a * d ≡ b * c) where
  no_less : 0 < c → k * c ≤ a → k * d ≤ b
  no_less C l = let h : k * d * c ≤ b * c = omega (arith, mul-le-mul_right d l) in le_of_mul-le-mul_right h C

  less : 0 < d → a < k * c → b < k * d
  less D l = let h : b * c < k * d * c = omega (arith, mul-lt-mul_of_pos_right l D) in lt_of_mul-lt-mul_right c h

pub nearest_value : (k : ℕ) (x : Float) (s : Bool) (a c : ℕ) → 0 < c → HasValue x s a c → nearest_times k x ≡ nearest (k * a) c
unfolding nearest_times
nearest_value k nan s a c C h = absurd h
nearest_value k (inf t) s a c C h = absurd h
nearest_value k (fin t m e) s a c C h = nearest_same k (m * up e) (down e) a c (down_pos e) C h.1

pub value_1024ths : (x : Float) (s : Bool) (a c : ℕ) → 0 < c → HasValue x s a c → in_1024ths x ≡ signed s (nearest (1024 * a) c)
unfolding in_1024ths
value_1024ths nan s a c C h = absurd h
value_1024ths (inf t) s a c C h = absurd h
value_1024ths (fin t m e) s a c C h = ap₂ signed h.0 (nearest_same 1024 (m * up e) (down e) a c (down_pos e) C h.1)

pub value_pixel : (x : Float) (s : Bool) (a c : ℕ) → 0 < c → HasValue x s a c → pixel_of x ≡ to_pixel (signed s a) c
unfolding pixel_of
value_pixel nan s a c C h = absurd h
value_pixel (inf t) s a c C h = absurd h
value_pixel (fin t m e) s a c C h = ap (λ (b : Bool). to_pixel (signed b (m * up e)) (down e)) h.0 ∙ go s
  where
    go : (b : Bool) → to_pixel (signed b (m * up e)) (down e) ≡ to_pixel (signed b a) c
    go true = pixel_negative (m * up e) (down e) (down_pos e) ∙ sym (pixel_negative a c C)
    go false = nearest_once (m * up e) (down e) a c (down_pos e) C h.1

pub value_bad : (x : Float) (s : Bool) (a c : ℕ) → 0 < c → HasValue x s a c → bad_coordinate x ≡ leb (16384 * c) a
unfolding bad_coordinate
value_bad nan s a c C h = absurd h
value_bad (inf t) s a c C h = absurd h
value_bad (fin t m e) s a c C h =
    leb_same (16384 * down e) (m * up e) (16384 * c) a
    (no_less 16384 (m * up e) (down e) a c h.1 (down_pos e))
    (less 16384 (m * up e) (down e) a c h.1 C)
