-- Refusal 8 by two comparisons of floats. Assumes nothing.
use mathlib.Core.Path.{◌≡◌, refl, sym, ap, ◌∙◌}
use mathlib.Core.Bool.{Bool, true, false, not, ◌&&◌, and-true}
use Prim.Native.Nat.{ℕ, ◌+◌, ◌*◌, ◌<◌}
use native.Mathlib.Omega.{arith}
use borrow.Author.Tests.{ltb-true, ltb-false, lt-ltb, le-leb, lt-leb}
use lib.Dec.{ltb, leb}
use lib.Ieee.{Float, nan, inf, fin, binary32, up, down, of_bits, neg, lt}
use lib.Ieee.Fits.{down_pos}
use Rattle.places.specs.Rounding.{bad_coordinate}

-- 16384.0
abbrev pub limit : Float
limit = of_bits binary32 0x4680_0000

module _ (a d : ℕ) (d_pos : 0 < d) where
  -- −16384 is below what is not negative, and what is negative is below 16384
  above : ltb 0 (16384 * d + a * 1) ≡ true
  above = lt-ltb 0 (16384 * d + a * 1) (omega arith)

  below : ltb 0 (a * 1 + 16384 * d) ≡ true
  below = lt-ltb 0 (a * 1 + 16384 * d) (omega arith)

  within : not (ltb (a * 1) (16384 * d)) ≡ leb (16384 * d) a
  within = go (ltb (a * 1) (16384 * d)) refl
    where
      go : (t : Bool) → ltb (a * 1) (16384 * d) ≡ t → not t ≡ leb (16384 * d) a
      go true e = let h = ltb-true (a * 1) (16384 * d) e in sym (lt-leb (16384 * d) a (omega arith))
      go false e = let h = ltb-false (a * 1) (16384 * d) e in sym (le-leb (16384 * d) a (omega arith))

pub by_tests : (x : Float) → not (lt (neg limit) x && lt x limit) ≡ bad_coordinate x
unfolding lt neg bad_coordinate of_bits
by_tests nan = refl
by_tests (inf true) = refl
by_tests (inf false) = refl
by_tests (fin false m e) =
    ap (λ (t : Bool). not (t && ltb (m * up e * 1) (16384 * down e))) (above (m * up e) (down e) (down_pos e)) ∙ within (m * up e) (down e) (down_pos e)
by_tests (fin true m e) =
    ap (λ (t : Bool). not (ltb (m * up e * 1) (16384 * down e) && t)) (below (m * up e) (down e) (down_pos e))
    ∙ ap not (and-true (ltb (m * up e * 1) (16384 * down e))) ∙ within (m * up e) (down e) (down_pos e)
