-- What a plane that refusal 1 lets through is like. Assumes nothing.
use mathlib.Core.Path.{◌≡◌, refl}
use mathlib.Core.Bool.{false, not, ◌||◌}
use Prim.Native.Nat.{ℕ, zero, suc, ◌*◌, ◌<◌, ◌≤◌}
use native.Mathlib.Nat.{mul-le-mul, zero-lt-suc}
use native.Mathlib.Omega.{arith}
use borrow.Author.Tests.{eqb-true, eqb-false, ltb-false, not-false}
use lib.Dec.{ltb, eqb}
use Rattle.std.proofs.lemmas.Bool.{or_parts}
use Rattle.refusals.specs.Plane.{bad_sides, bad_plane}

pub record Sides (width height : ℕ) : Type 0 where
  pub wide : 0 < width
  pub high : 0 < height
  pub width_le : width ≤ 4096
  pub height_le : height ≤ 4096

pub record Plane (len width height : ℕ) : Type 0 where
  pub sides : Sides width height
  pub whole : len ≡ width * height
  pub few : len ≤ 16777216

positive : (n : ℕ) → eqb n 0 ≡ false → 0 < n
positive zero e = absurd (eqb-false 0 0 e refl)
positive (suc n) e = zero-lt-suc n

pub good_sides : {width height : ℕ} → bad_sides width height ≡ false → Sides width height
unfolding bad_sides
good_sides {width} {height} e =
    let w = (or_parts (eqb width 0 || ltb 4096 width) (eqb height 0 || ltb 4096 height) e).0 in
    let h = (or_parts (eqb width 0 || ltb 4096 width) (eqb height 0 || ltb 4096 height) e).1 in
    record {
      wide = positive width (or_parts (eqb width 0) (ltb 4096 width) w).0;
      high = positive height (or_parts (eqb height 0) (ltb 4096 height) h).0;
      width_le = ltb-false 4096 width (or_parts (eqb width 0) (ltb 4096 width) w).1;
      height_le = ltb-false 4096 height (or_parts (eqb height 0) (ltb 4096 height) h).1;
    }

pub few_samples : {width height : ℕ} → Sides width height → width * height ≤ 16777216
few_samples s = mul-le-mul s.width_le s.height_le

pub good_plane : {len width height : ℕ} → bad_plane len width height ≡ false → Plane len width height
unfolding bad_plane
good_plane {len} {width} {height} e =
    let s = good_sides (or_parts (bad_sides width height) (not (eqb len (width * height))) e).0 in
    let w = eqb-true len (width * height) (not-false (eqb len (width * height)) (or_parts (bad_sides width height) (not (eqb len (width * height))) e).1) in
    record { sides = s; whole = w; few = omega (arith, few_samples s) }
