-- The pixels of an 8-bit plane that refusal 1 lets through, and the bytes that they are. Assumes nothing.
use mathlib.Core.Path.{◌≡◌, ap}
use mathlib.Core.Bool.{false, not, ◌||◌}
use Prim.Native.Nat.{ℕ, ◌+◌, ◌-◌, ◌*◌, ◌<◌, ◌≤◌}
use native.Mathlib.Nat.{div-lt_iff_lt-mul, mul_comm, mul-le-mul_right, div-add-mod'}
use native.Mathlib.Omega.{arith}
use borrow.Author.Tests.{eqb-true, ltb-false, not-false}
use lib.Dec.{ltb, eqb}
use Rattle.std.proofs.lemmas.Bool.{or_parts}
use Rattle.std.proofs.lemmas.Nat.{div-mul-add, mod-mul-add}
use Rattle.lists.proofs.Grid.{next_row}
use Rattle.refusals.specs.Pixels.{bad_pitch, bytes_of, bad_frame, place_of, column_of, line_of}
use Rattle.refusals.specs.Plane.{bad_sides}
use Rattle.refusals.specs.declared.Frame.{Frame}
use Rattle.refusals.proofs.Plane.{Sides, good_sides}

module _ (frame : Frame) where
  -- a pixel's column and row, from its byte
  pub place_column : (x y : ℕ) → x < frame.pitch → column_of frame (place_of frame x y) ≡ x
  place_column x y h = mod-mul-add y frame.pitch x h

  pub place_row : (x y : ℕ) → x < frame.pitch → line_of frame (place_of frame x y) ≡ y
  place_row x y h = div-mul-add y frame.pitch x h

  -- and back
  pub byte_place : (k : ℕ) → place_of frame (column_of frame k) (line_of frame k) ≡ k
  byte_place k = div-add-mod' k frame.pitch

  -- pixels of one row stand side by side
  pub place_beside : (x y n : ℕ) → place_of frame (x + n) y ≡ place_of frame x y + n
  place_beside x y n = omega arith

-- ---- planes that refusal 1 lets through

pub record Pitched (width pitch : ℕ) : Type 0 where
  pub at_least : width ≤ pitch
  pub at_most : pitch ≤ 8192

pub good_pitch : (width pitch : ℕ) → bad_pitch width pitch ≡ false → Pitched width pitch
good_pitch width pitch e = record {
  at_least = ltb-false pitch width (or_parts (ltb pitch width) (ltb 8192 pitch) e).0;
  at_most = ltb-false 8192 pitch (or_parts (ltb pitch width) (ltb 8192 pitch) e).1;
}

-- a plane of len bytes
pub record Framed (len : ℕ) (frame : Frame) : Type 0 where
  pub sides : Sides frame.width frame.height
  pub pitched : Pitched frame.width frame.pitch
  -- n pixels of line y, from (x, y) on, are bytes of the plane
  pub run_inside : (x y n : ℕ) → x + n ≤ frame.width → y < frame.height → place_of frame x y + n ≤ len
  -- and each of its bytes stands in a line of the picture
  pub row_lt : (k : ℕ) → k < len → line_of frame k < frame.height

framed : {len : ℕ} {frame : Frame} → Sides frame.width frame.height → Pitched frame.width frame.pitch → len ≡ bytes_of frame → Framed len frame
framed {len} {frame} sides pitched whole =
    let p = frame.pitch in
    let last = frame.height - 1 in
    let turned = mul_comm p last in
    let lines : last + 1 ≡ frame.height = omega (arith, sides.high) in
    record {
      sides = sides;
      pitched = pitched;
      run_inside = λ x y n fits h. let le : y ≤ last = omega arith in omega (arith, whole, pitched.at_least, mul-le-mul_right p le, turned);
      row_lt = λ k h.
          (div-lt_iff_lt-mul {k = p} (omega (arith, sides.wide, pitched.at_least))).1
          (omega (arith, whole, pitched.at_least, turned, next_row p last, ap (λ (n : ℕ). n * p) lines));
    }

pub good_frame : {len : ℕ} {frame : Frame} → bad_frame len frame ≡ false → Framed len frame
unfolding bad_frame
good_frame {len} {frame} e =
    let sides = bad_sides frame.width frame.height in
    let pitch = bad_pitch frame.width frame.pitch in
    let whole = eqb len (bytes_of frame) in
    let r = (or_parts sides (pitch || not whole) e).1 in
    framed (good_sides (or_parts sides (pitch || not whole) e).0) (good_pitch frame.width frame.pitch (or_parts pitch (not whole) r).0)
    (eqb-true len (bytes_of frame) (not-false whole (or_parts pitch (not whole) r).1))

-- a pixel of the picture is a byte of the plane
pub pixel_inside : {len : ℕ} {frame : Frame} → Framed len frame → (x y : ℕ) → x < frame.width → y < frame.height → place_of frame x y < len
pixel_inside f x y hx hy = omega (arith, f.run_inside x y 1 (omega arith) hy)
