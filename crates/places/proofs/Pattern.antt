-- The same from the fields of a bit pattern: a sign, an exponent's field x and the digits t. A float is a number of
-- smallest values, of which 2^149 make 1. Assumes nothing.
use mathlib.Core.Path.{◌≡◌, refl, sym, ap, ap₂, ◌∙◌, subst}
use mathlib.Core.Bool.{Bool, true, false, not, cond, true≢false}
use Prim.Native.Nat.{ℕ, zero, suc, ◌+◌, ◌*◌, ◌/◌, ◌%◌, ◌^◌, ◌≤◌, ◌<◌}
use native.Mathlib.Nat.{lt_of_lt_of_le, mul-le-mul, one-mul}
use native.Mathlib.Omega.{arith}
use borrow.Author.Tests.{leb-true, leb-false, le-leb, lt-leb, ne_eqb}
use lib.Dec.{T, leb, eqb, lit≤}
use lib.Pow.{pow-add, pow_pos, pow_mono, shl_lt}
use lib.Ieee.{Float, nan, inf, fin, binary32, odd, of_fields, of_bits, to_bits, fits, is_nan}
use lib.Ieee.Bits.{of_bits-to_bits}
use lib.Ieee.Exact.{HasValue, odd_sign}
use Rattle.places.specs.Rounding.{nearest, signed, bad_coordinate, to_pixel, pixel_of, in_1024ths, nearest_times}
use Rattle.places.proofs.Value.{nearest_factor, nearest_small, nearest_value, pixel_negative, value_1024ths, value_pixel, value_bad}

-- ---- 2^g times q × 2^k smallest values

regroup : (g q k : ℕ) → 2 ^ g * (q * 2 ^ k) ≡ q * 2 ^ (g + k)
regroup g q k = go (2 ^ g) (2 ^ k) ∙ ap (λ (n : ℕ). q * n) (sym (pow-add 2 g k))
  where
    go : (x y : ℕ) → x * (q * y) ≡ q * (x * y)
    go x y = omega arith

twice_below : (n h d : ℕ) → n < h → 2 * h ≤ d → 2 * n < d
twice_below n h d l m = omega arith

tiny : (g q k : ℕ) → q < 2 ^ 24 → g + k ≤ 118 → nearest (2 ^ g * (q * 2 ^ k)) (2 ^ 149) ≡ 0
tiny g q k Q h =
    let l : q * 2 ^ (g + k) < 2 ^ 148 = lt_of_lt_of_le (shl_lt 24 (g + k) Q) (pow_mono {j = 148} (omega arith)) in
    ap (λ (n : ℕ). nearest n (2 ^ 149)) (regroup g q k) ∙ nearest_small (q * 2 ^ (g + k)) (2 ^ 149) (twice_below (q * 2 ^ (g + k)) (2 ^ 148) (2 ^ 149) l (lit≤ tt))

-- q / 2^d
quotient : (g q k d : ℕ) → g + k + d ≡ 149 → nearest (2 ^ g * (q * 2 ^ k)) (2 ^ 149) ≡ (2 * q + 2 ^ d) / 2 ^ (d + 1)
quotient g q k d e =
    let e₁ : d + (g + k) ≡ 149 = omega arith in
    let f : 2 ^ 149 ≡ 2 ^ d * 2 ^ (g + k) = ap (λ (n : ℕ). 2 ^ n) (sym e₁) ∙ pow-add 2 d (g + k) in
    let w : 2 * 2 ^ d ≡ 2 ^ (d + 1) = twice (2 ^ d) ∙ sym (pow-add 2 d 1) in
    ap₂ nearest (regroup g q k) f ∙ nearest_factor q (2 ^ d) (2 ^ (g + k)) (pow_pos (g + k)) ∙ ap (λ (n : ℕ). (2 * q + 2 ^ d) / n) w
  where
    twice : (n : ℕ) → 2 * n ≡ n * 2
    twice n = omega arith

-- ---- fields

-- how many smallest values
abbrev amount : ℕ → ℕ → ℕ
amount zero t = t * 2 ^ 0
amount (suc k) t = (2 ^ 23 + t) * 2 ^ k

-- below 16384
amount-lt : (x t : ℕ) → x ≤ 140 → t < 2 ^ 23 → amount x t < 16384 * 2 ^ 149
amount-lt zero t h l = lt_of_lt_of_le (shl_lt 24 0 (omega arith)) (lit≤ tt)
amount-lt (suc k) t h l =
    let q : 2 ^ 23 + t < 2 ^ 24 = omega arith in
    lt_of_lt_of_le (lt_of_lt_of_le (shl_lt 24 k q) (pow_mono {j = 163} (omega arith))) (lit≤ tt)

-- the code's two answers: the exponent's field x leaves d places to be cut
module _ (g d t : ℕ) (g_le : g ≤ 10) (t_lt : t < 2 ^ 23) where
  none : (x : ℕ) → g + x + d ≡ 150 → 30 < d → nearest (2 ^ g * amount x t) (2 ^ 149) ≡ 0
  none zero e l = tiny g t 0 (omega arith) (omega arith)
  none (suc k) e l = tiny g (2 ^ 23 + t) k (omega arith) (omega arith)

  some : (x : ℕ) → g + x + d ≡ 150 → d ≤ 30 → nearest (2 ^ g * amount x t) (2 ^ 149) ≡ (2 * (2 ^ 23 + t) + 2 ^ d) / 2 ^ (d + 1)
  some zero e l = absurd (omega arith)
  some (suc k) e l = quotient g (2 ^ 23 + t) k d (omega arith)

module _ (s : Bool) (t : ℕ) (t_lt : t < 2 ^ 23) where
  fields : (x : ℕ) → x < 255 → HasValue (of_fields binary32 s x t) s (amount x t) (2 ^ 149)
  unfolding of_fields
  fields zero h = odd_sign 24 s t 0 149
  fields (suc k) h =
      subst (λ (b : Bool). HasValue (cond b (cond (eqb t 0) (inf s) nan) (odd 24 s (2 ^ 23 + t) k 149)) s (amount (suc k) t) (2 ^ 149))
      (sym (ne_eqb (suc k) 255 (λ e. omega arith))) (odd_sign 24 s (2 ^ 23 + t) k 149)

  top_bad : bad_coordinate (of_fields binary32 s 255 t) ≡ true
  unfolding of_fields bad_coordinate
  top_bad = go (eqb t 0)
    where
      go : (b : Bool) → bad_coordinate (cond b (inf s) nan) ≡ true
      go true = refl
      go false = refl

  -- 2^14 or more
  large_bad : (x : ℕ) → 141 ≤ x → x < 256 → bad_coordinate (of_fields binary32 s x t) ≡ true
  large_bad zero h l = absurd (omega arith)
  large_bad (suc k) h l = go (leb 254 k) refl
    where
      go : (b : Bool) → leb 254 k ≡ b → bad_coordinate (of_fields binary32 s (suc k) t) ≡ true
      go true e =
          let h₁ = leb-true 254 k e in
          let f : suc k ≡ 255 = omega arith in
          ap (λ (x : ℕ). bad_coordinate (of_fields binary32 s x t)) f ∙ top_bad
      go false e =
          let h₁ = leb-false 254 k e in
          let m : 2 ^ 23 ≤ 2 ^ 23 + t = omega arith in
          value_bad (of_fields binary32 s (suc k) t) s ((2 ^ 23 + t) * 2 ^ k) (2 ^ 149) (pow_pos 149) (fields (suc k) (omega arith))
          ∙ le-leb (16384 * 2 ^ 149) ((2 ^ 23 + t) * 2 ^ k) (mul-le-mul m (pow_mono {i = 140} (omega arith)))

  exponent : (x : ℕ) → x < 256 → bad_coordinate (of_fields binary32 s x t) ≡ false → x ≤ 140
  exponent x l e = go (leb x 140) refl
    where
      go : (b : Bool) → leb x 140 ≡ b → x ≤ 140
      go true f = leb-true x 140 f
      go false f = absurd (true≢false (sym (large_bad x (leb-false x 140 f) l) ∙ e))

-- ---- a whole pattern

module _ (b : ℕ) where
  abbrev pub sign : Bool
  sign = leb 2147483648 b

  abbrev pub field : ℕ
  field = b % 2147483648 / 8388608

  of_bits_lem : of_bits binary32 b ≡ of_fields binary32 sign field (b % 8388608)
  unfolding of_bits
  of_bits_lem = refl

  -- what refusal 8 lets through has an exponent's field of 140 or less
  pattern_exponent : bad_coordinate (of_bits binary32 b) ≡ false → field ≤ 140
  pattern_exponent e = exponent sign (b % 8388608) (omega arith) field (omega arith) (sym (ap bad_coordinate of_bits_lem) ∙ e)

  module _ (near : field ≤ 140) where
    value : HasValue (of_bits binary32 b) sign (amount field (b % 8388608)) (2 ^ 149)
    value =
        subst (λ (x : Float). HasValue x sign (amount field (b % 8388608)) (2 ^ 149)) (sym of_bits_lem)
        (fields sign (b % 8388608) (omega arith) field (omega arith))

    pattern_good : bad_coordinate (of_bits binary32 b) ≡ false
    pattern_good =
        value_bad (of_bits binary32 b) sign (amount field (b % 8388608)) (2 ^ 149) (pow_pos 149) value
        ∙ lt-leb (16384 * 2 ^ 149) (amount field (b % 8388608)) (amount-lt field (b % 8388608) near (omega arith))

    nearest_is : (k : ℕ) → nearest_times k (of_bits binary32 b) ≡ nearest (k * amount field (b % 8388608)) (2 ^ 149)
    nearest_is k = nearest_value k (of_bits binary32 b) sign (amount field (b % 8388608)) (2 ^ 149) (pow_pos 149) value

    pub pattern_none : (g d : ℕ) → g ≤ 10 → g + field + d ≡ 150 → 30 < d → nearest_times (2 ^ g) (of_bits binary32 b) ≡ 0
    pattern_none g d h e l = nearest_is (2 ^ g) ∙ none g d (b % 8388608) h (omega arith) field e l

    pub pattern_some : (g d : ℕ) → g ≤ 10 → g + field + d ≡ 150 → d ≤ 30
        → nearest_times (2 ^ g) (of_bits binary32 b) ≡ (2 * (2 ^ 23 + b % 8388608) + 2 ^ d) / 2 ^ (d + 1)
    pattern_some g d h e l = nearest_is (2 ^ g) ∙ some g d (b % 8388608) h (omega arith) field e l

    pattern_1024ths : in_1024ths (of_bits binary32 b) ≡ signed sign (nearest_times 1024 (of_bits binary32 b))
    pattern_1024ths =
        value_1024ths (of_bits binary32 b) sign (amount field (b % 8388608)) (2 ^ 149) (pow_pos 149) value
        ∙ ap (signed sign) (sym (nearest_is 1024))

    pixel_is : pixel_of (of_bits binary32 b) ≡ to_pixel (signed sign (amount field (b % 8388608))) (2 ^ 149)
    pixel_is = value_pixel (of_bits binary32 b) sign (amount field (b % 8388608)) (2 ^ 149) (pow_pos 149) value

    pattern_negative : 2147483648 ≤ b → pixel_of (of_bits binary32 b) ≡ 0
    pattern_negative h =
        pixel_is ∙ ap (λ (s : Bool). to_pixel (signed s (amount field (b % 8388608))) (2 ^ 149)) (le-leb 2147483648 b h)
        ∙ pixel_negative (amount field (b % 8388608)) (2 ^ 149) (pow_pos 149)

    pattern_positive : b < 2147483648 → pixel_of (of_bits binary32 b) ≡ nearest_times 1 (of_bits binary32 b)
    pattern_positive h =
        pixel_is ∙ ap (λ (s : Bool). to_pixel (signed s (amount field (b % 8388608))) (2 ^ 149)) (lt-leb 2147483648 b h)
        ∙ ap (λ (n : ℕ). nearest n (2 ^ 149)) (sym (one-mul (amount field (b % 8388608)))) ∙ sym (nearest_is 1)

-- refusal 8 by the exponent's field
pub pattern_bad : (b : ℕ) → bad_coordinate (of_bits binary32 b) ≡ leb 141 (field b)
pattern_bad b = go (leb 141 (field b)) refl
  where
    go : (large : Bool) → leb 141 (field b) ≡ large → bad_coordinate (of_bits binary32 b) ≡ large
    go true e = ap bad_coordinate (of_bits_lem b) ∙ large_bad (sign b) (b % 8388608) (omega arith) (field b) (leb-true 141 (field b) e) (omega arith)
    go false e = pattern_good b (omega (arith, leb-false 141 (field b) e))

-- ---- a float that refusal 8 lets through

pub not_nan : (x : Float) → bad_coordinate x ≡ false → T (not (is_nan x))
unfolding is_nan bad_coordinate
not_nan nan h = absurd (true≢false h)
not_nan (inf s) h = tt
not_nan (fin s m e) h = tt

module _ (x : Float) (held : T (fits binary32 x)) (good : bad_coordinate x ≡ false) where
  abbrev bits : ℕ
  bits = to_bits binary32 x

  back : of_bits binary32 bits ≡ x
  back = of_bits-to_bits binary32 x held

  pub near : field bits ≤ 140
  near = pattern_exponent bits (ap bad_coordinate back ∙ good)

  pub float_1024ths : signed (sign bits) (nearest_times 1024 (of_bits binary32 bits)) ≡ in_1024ths x
  float_1024ths = sym (pattern_1024ths bits near) ∙ ap in_1024ths back

  pub float_negative : 2147483648 ≤ bits → 0 ≡ pixel_of x
  float_negative h = sym (pattern_negative bits near h) ∙ ap pixel_of back

  pub float_positive : bits < 2147483648 → nearest_times 1 (of_bits binary32 bits) ≡ pixel_of x
  float_positive h = sym (pattern_positive bits near h) ∙ ap pixel_of back
