-- A quad that starts one corner later: its places are the first quad's, turned once. Module (i, j) of it lies where module
-- (j, side − 1 − i) of the first lies, since S stays, A becomes −B and B becomes A. Assumes nothing.
use mathlib.Core.Path.{◌≡◌, sym, ap, ap₂, ◌∙◌}
use Prim.Native.Nat.{ℕ, ◌+◌, ◌-◌, ◌*◌, ◌/◌, ◌%◌, ◌<◌}
use native.Mathlib.Omega.{arith}
use lib.IntN.{ℤ, pos, neg_ℤ, ◌+ℤ◌, ◌-ℤ◌, ◌*ℤ◌}
use Rattle.std.proofs.lemmas.Nat.{div-mul-add, mod-mul-add}
use Rattle.lists.proofs.Grid.{square_row}
use Rattle.points.specs.declared.Quad.{Quad}
use Rattle.points.specs.Turned.{turned_once, turned_left}
use Rattle.points.proofs.Any.{any_turned}
use Rattle.tables.specs.Table.{side_of}
use Rattle.places.specs.declared.Axis.{Axis}
use Rattle.places.specs.Rounding.{to_pixel, in_1024ths}
use Rattle.places.specs.Corners.{bad_corner, bad_corners, corner_outside, corners_outside}
use Rattle.places.specs.Place.{axis_of, axes_of, from_middle, module_place, module_pixel, sample_pixel}
use Rattle.places.proofs.Diff.{diff, Diff-neg, Diff-plus, Diff-minus, Diff-times, Diff-same}
use Rattle.places.proofs.Small.{middle}

-- ---- refusals 8 and 9 do not depend on the start

pub bad_turned : (s : ℕ) (q : Quad) → bad_corners (turned_left s q) ≡ bad_corners q
bad_turned s q = any_turned bad_corner s q

pub outside_turned : (width height s : ℕ) (q : Quad) → corners_outside width height (turned_left s q) ≡ corners_outside width height q
outside_turned width height s q = any_turned (corner_outside width height) s q

-- ---- places

negated_factor : (x y : ℤ) → x *ℤ neg_ℤ y ≡ neg_ℤ x *ℤ y
negated_factor x y = Diff-same (Diff-times (diff x) (Diff-neg (diff y))) (Diff-times (Diff-neg (diff x)) (diff y)) (omega arith)

swapped : (x y z : ℤ) → x +ℤ y +ℤ z ≡ x +ℤ z +ℤ y
swapped x y z = Diff-same (Diff-plus (Diff-plus (diff x) (diff y)) (diff z)) (Diff-plus (Diff-plus (diff x) (diff z)) (diff y)) (omega arith)

-- counted from the other end
middle_back : (side i : ℕ) → i < side → from_middle side (side - 1 - i) ≡ neg_ℤ (from_middle side i)
middle_back side i h = Diff-same (middle side (side - 1 - i)) (Diff-neg (middle side i)) (omega arith)

-- S stays, A becomes −B, B becomes A
module _ (q0 q1 q2 q3 : ℤ) where
  s_same : q1 +ℤ q2 +ℤ q3 +ℤ q0 ≡ q0 +ℤ q1 +ℤ q2 +ℤ q3
  s_same =
      Diff-same (Diff-plus (Diff-plus (Diff-plus (diff q1) (diff q2)) (diff q3)) (diff q0))
      (Diff-plus (Diff-plus (Diff-plus (diff q0) (diff q1)) (diff q2)) (diff q3)) (omega arith)

  a_turned : q3 +ℤ q0 -ℤ q1 -ℤ q2 ≡ neg_ℤ (q1 +ℤ q2 -ℤ q0 -ℤ q3)
  a_turned =
      Diff-same (Diff-minus (Diff-minus (Diff-plus (diff q3) (diff q0)) (diff q1)) (diff q2))
      (Diff-neg (Diff-minus (Diff-minus (Diff-plus (diff q1) (diff q2)) (diff q0)) (diff q3))) (omega arith)

  b_turned : q2 +ℤ q3 -ℤ q1 -ℤ q0 ≡ q2 +ℤ q3 -ℤ q0 -ℤ q1
  b_turned =
      Diff-same (Diff-minus (Diff-minus (Diff-plus (diff q2) (diff q3)) (diff q1)) (diff q0))
      (Diff-minus (Diff-minus (Diff-plus (diff q2) (diff q3)) (diff q0)) (diff q1)) (omega arith)

  abbrev first : Axis
  first = axis_of q0 q1 q2 q3

  later : axis_of q1 q2 q3 q0 ≡ record { s = first.s; a = neg_ℤ first.b; b = first.a }
  later = λ i. record { s = s_same i; a = a_turned i; b = b_turned i }

  pub place_turned : (side i j : ℕ) → i < side → module_place (axis_of q1 q2 q3 q0) side i j ≡ module_place first side j (side - 1 - i)
  place_turned side i j h =
      ap (λ (x : Axis). module_place x side i j) later
      ∙ ap (λ (z : ℤ). first.s *ℤ pos side +ℤ z +ℤ from_middle side j *ℤ first.a) (negated_factor (from_middle side i) first.b ∙ ap (λ (z : ℤ). z *ℤ first.b) (sym (middle_back side i h)))
      ∙ swapped (first.s *ℤ pos side) (from_middle side (side - 1 - i) *ℤ first.b) (from_middle side j *ℤ first.a)

  pub sample_turned : (edge border k : ℕ) → k < edge * edge
      → sample_pixel (axis_of q1 q2 q3 q0) edge border k ≡ sample_pixel first edge border (k % edge * edge + (edge - 1 - k / edge))
  sample_turned edge border k h =
      let r = square_row edge k h in
      let c : edge - 1 - k / edge < edge = omega arith in
      let i : border + k / edge < side_of edge border = omega arith in
      let e : side_of edge border - 1 - (border + k / edge) ≡ border + (edge - 1 - k / edge) = omega arith in
      ap (λ (z : ℤ). to_pixel z (4096 * side_of edge border)) (place_turned (side_of edge border) (border + k / edge) (border + k % edge) i)
      ∙ ap₂ (λ (x y : ℕ). module_pixel first (side_of edge border) (border + x) y) (sym (div-mul-add (k % edge) edge (edge - 1 - k / edge) c))
      (e ∙ ap (λ (n : ℕ). border + n) (sym (mod-mul-add (k % edge) edge (edge - 1 - k / edge) c)))

-- sample k of the quad that starts one corner later is the sample of the first quad from which one turn of a word takes place k
module _ (q : Quad) (edge border k : ℕ) (h : k < edge * edge) where
  pub sample_turned_x : sample_pixel (axes_of (turned_once q)).x edge border k ≡ sample_pixel (axes_of q).x edge border (k % edge * edge + (edge - 1 - k / edge))
  sample_turned_x = sample_turned (in_1024ths q.q0.x) (in_1024ths q.q1.x) (in_1024ths q.q2.x) (in_1024ths q.q3.x) edge border k h

  pub sample_turned_y : sample_pixel (axes_of (turned_once q)).y edge border k ≡ sample_pixel (axes_of q).y edge border (k % edge * edge + (edge - 1 - k / edge))
  sample_turned_y = sample_turned (in_1024ths q.q0.y) (in_1024ths q.q1.y) (in_1024ths q.q2.y) (in_1024ths q.q3.y) edge border k h
