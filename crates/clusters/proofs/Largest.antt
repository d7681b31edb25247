-- An f32 is finite exactly where it lies between the largest negated and the largest, and none is above the largest but infinity. Assumes nothing.
use mathlib.Core.Path.{◌≡◌, refl, sym, ap, ◌∙◌, subst}
use mathlib.Core.Bool.{Bool, true, false, ◌&&◌, false≢true}
use Prim.Native.Nat.{ℕ, zero, suc, zero-le, ◌+◌, ◌-◌, ◌*◌, ◌%◌, ◌^◌, ◌≤◌, ◌<◌}
use native.Mathlib.Nat.{mul-le-mul, mul-le-mul_right, mul_assoc, mul-one, zero-mul, lt_of_mul-lt-mul_right}
use native.Mathlib.Decide.{dec_le}
use native.Mathlib.Omega.{arith}
use lib.IntN.{ℤ, pos, negsuc}
use lib.Dec.{ltb, leb, eqb}
use lib.Pow.{pow_pos, pow_mono, pow-add}
use lib.Ieee.{Float, nan, inf, fin, binary32, fits, of_bits, lt, up, down}
use lib.Ieee.Scale.{finite}
use borrow.Author.Tests.{ltb-true, le-ltb}
use Rattle.std.proofs.lemmas.Bool.{and_parts}
use Rattle.clusters.specs.Clusters.{max_f32}

-- the largest f32 is m × 2^104, m being the greatest number of 24 binary digits
abbrev m : ℕ
m = 16777215

-- a number of 24 digits, doubled k times, that stays below 2^24 × 2^j
below_limit : (n k j : ℕ) → n ≤ m → n * 2 ^ k < 16777216 * 2 ^ j → n * 2 ^ k ≤ m * 2 ^ j
below_limit n k j h l =
    elim (dec_le k j) [
      | yes a ↦ mul-le-mul h (pow_mono a)
      | no a ↦
          let e : k ≡ k - j + j = omega arith in
          let q : n * 2 ^ k ≡ n * 2 ^ (k - j) * 2 ^ j = ap (λ (x : ℕ). n * 2 ^ x) e ∙ ap (λ (x : ℕ). n * x) (pow-add 2 (k - j) j) ∙ sym (mul_assoc n (2 ^ (k - j)) (2 ^ j)) in
          let r : n * 2 ^ (k - j) < 16777216 = lt_of_mul-lt-mul_right (2 ^ j) (subst (λ (x : ℕ). x < 16777216 * 2 ^ j) q l) in
          subst (λ (x : ℕ). x ≤ m * 2 ^ j) (sym q) (mul-le-mul_right (2 ^ j) (omega arith))
    ]

parts : (s : Bool) (n : ℕ) (d : ℤ) → fits binary32 (fin s (suc n) d) ≡ true → (suc n < 16777216) × (suc n * up d < 2 ^ 128 * down d)
unfolding fits
parts s n d h =
    let odd : Bool = eqb (suc n % 2) 1 in
    let digits : Bool = ltb (suc n) (2 ^ 24) in
    let fine : Bool = leb (down d) (2 ^ 149) in
    let limit : Bool = ltb (suc n * up d) (2 ^ 128 * down d) in
    let q = and_parts (odd && digits && fine) limit h in
    let r = and_parts (odd && digits) fine q.0 in
    (ltb-true (suc n) (2 ^ 24) (and_parts odd digits r.0).1, ltb-true (suc n * up d) (2 ^ 128 * down d) q.1)

magnitude : (s : Bool) (n : ℕ) (d : ℤ) → fits binary32 (fin s n d) ≡ true → n * up d ≤ m * 2 ^ 104 * down d
magnitude s zero d h = subst (λ (x : ℕ). x ≤ m * 2 ^ 104 * down d) (sym (zero-mul (up d))) zero-le
magnitude s (suc n) (pos k) h =
    let q = parts s n (pos k) h in
    rw (mul-one (m * 2 ^ 104)) (below_limit (suc n) k 104 (omega (arith, q.0)) q.1)
magnitude s (suc n) (negsuc k) h =
    let q = parts s n (negsuc k) h in
    let digits : suc n ≤ m = omega (arith, q.0) in
    let few : suc n ≤ m * 2 ^ 104 = rw mul-one at (mul-le-mul digits (pow_pos 104)) in
    mul-le-mul few (pow_pos (suc k))

-- no finite f32 is above the largest
pub none_above : (t : Float) → fits binary32 t ≡ true → finite t ≡ true → lt max_f32 t ≡ false
unfolding lt of_bits
none_above nan h f = absurd (false≢true f)
none_above (inf s) h f = absurd (false≢true f)
none_above (fin false n d) h f = le-ltb (m * 2 ^ 104 * down d) (n * up d * 1) (rw (mul-one (n * up d)) (magnitude false n d h))
none_above (fin true n d) h f = refl
