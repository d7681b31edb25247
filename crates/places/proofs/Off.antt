-- A quad whose corners are a little off: how far its places move, and that a place that stays near the middle of its cell rounds to a
-- pixel of that cell. Assumes nothing.
use mathlib.Core.Path.{◌≡◌, ap, ◌∙◌}
use Prim.Native.Nat.{ℕ, zero, suc, ◌+◌, ◌-◌, ◌*◌, ◌/◌, ◌%◌, ◌<◌, ◌≤◌, max}
use native.Mathlib.Nat.{le_of_eq, le_trans, mul-le-mul_left, mul-le-mul_right, le-div_iff_mul-le, div-lt_iff_lt-mul}
use native.Mathlib.Omega.{arith}
use lib.IntN.{ℤ, pos, negsuc, ◌+ℤ◌, ◌-ℤ◌, ◌*ℤ◌, nat_abs}
use Rattle.lists.proofs.Grid.{square_row, square_column}
use Rattle.tables.specs.Table.{side_of}
use Rattle.places.specs.Rounding.{to_pixel}
use Rattle.places.specs.Place.{axis_of, from_middle, module_place, sample_pixel}
use Rattle.std.proofs.lemmas.Int.{unsigned_abs-mul}
use Rattle.places.proofs.Whole.{abs_plus}
use Rattle.places.proofs.Diff.{above, below, diff, Diff-pos, Diff-plus, Diff-minus, Diff-times, Diff-same, Diff-abs, Diff-abs_two, Diff-near}
use Rattle.places.proofs.Small.{middle}

-- ---- how much each corner counts: side − U − V, side − U + V, side + U + V and side + U − V, for U = 2i − side + 1 and V = 2j − side + 1

abs_parts : (z : ℤ) → nat_abs z ≡ above z + below z
abs_parts (pos n) = omega arith
abs_parts (negsuc n) = omega arith

-- two opposite corners, t = U + V or U − V
opposite : (side : ℕ) (t : ℤ) → nat_abs (pos side -ℤ t) + nat_abs (pos side +ℤ t) ≤ 2 * max side (nat_abs t)
opposite side t =
    let p = abs_parts t in
    let s = Diff-pos side in
    Diff-abs_two (2 * max side (nat_abs t)) (Diff-minus s (diff t)) (Diff-plus s (diff t)) (omega arith) (omega arith) (omega arith) (omega arith)

-- U + V and U − V together
sum_and_difference : (u v : ℤ) (m : ℕ) → nat_abs u ≤ m → nat_abs v ≤ m → nat_abs (u +ℤ v) + nat_abs (u -ℤ v) ≤ 2 * m
sum_and_difference u v m hu hv =
    let p = abs_parts u in
    let q = abs_parts v in
    Diff-abs_two (2 * m) (Diff-plus (diff u) (diff v)) (Diff-minus (diff u) (diff v)) (omega arith) (omega arith) (omega arith) (omega arith)

-- U + V and U − V are not both larger than the side
one_large : (side m a b : ℕ) → m ≤ side → a + b ≤ 2 * m → 2 * max side a + 2 * max side b ≤ max (4 * side) (2 * side + 4 * m)
one_large side m a b h l = omega arith

-- what the four count together, where U and V are at most m
all_four : (side m : ℕ) (u v : ℤ) → m ≤ side → nat_abs u ≤ m → nat_abs v ≤ m
    → nat_abs (pos side -ℤ (u +ℤ v)) + nat_abs (pos side -ℤ (u -ℤ v)) + nat_abs (pos side +ℤ (u +ℤ v)) + nat_abs (pos side +ℤ (u -ℤ v)) ≤ max (4 * side) (2 * side + 4 * m)
all_four side m u v h hu hv =
    let a = opposite side (u +ℤ v) in
    let b = opposite side (u -ℤ v) in
    let c = one_large side m (nat_abs (u +ℤ v)) (nat_abs (u -ℤ v)) h (sum_and_difference u v m hu hv) in
    omega arith

-- ---- how far a place moves

module _ (side i j : ℕ) where
  abbrev u : ℤ
  u = from_middle side i

  abbrev v : ℤ
  v = from_middle side j

  -- a place is the sum of the corners, each times what it counts
  weighed : (q0 q1 q2 q3 : ℤ)
      → module_place (axis_of q0 q1 q2 q3) side i j ≡ q0 *ℤ (pos side -ℤ (u +ℤ v)) +ℤ q1 *ℤ (pos side -ℤ (u -ℤ v)) +ℤ q2 *ℤ (pos side +ℤ (u +ℤ v)) +ℤ q3 *ℤ (pos side +ℤ (u -ℤ v))
  weighed q0 q1 q2 q3 =
      let s = Diff-pos side in
      let a = Diff-plus (middle side i) (middle side j) in
      let b = Diff-minus (middle side i) (middle side j) in
      Diff-same
      (Diff-plus
      (Diff-plus (Diff-times (Diff-plus (Diff-plus (Diff-plus (diff q0) (diff q1)) (diff q2)) (diff q3)) s)
      (Diff-times (middle side i) (Diff-minus (Diff-minus (Diff-plus (diff q2) (diff q3)) (diff q0)) (diff q1))))
      (Diff-times (middle side j) (Diff-minus (Diff-minus (Diff-plus (diff q1) (diff q2)) (diff q0)) (diff q3))))
      (Diff-plus
      (Diff-plus (Diff-plus (Diff-times (diff q0) (Diff-minus s a)) (Diff-times (diff q1) (Diff-minus s b))) (Diff-times (diff q2) (Diff-plus s a)))
      (Diff-times (diff q3) (Diff-plus s b)))
      (omega arith)

times_minus : (p q x : ℤ) → p *ℤ x -ℤ q *ℤ x ≡ (p -ℤ q) *ℤ x
times_minus p q x =
    Diff-same (Diff-minus (Diff-times (diff p) (diff x)) (Diff-times (diff q) (diff x))) (Diff-times (Diff-minus (diff p) (diff q)) (diff x)) (omega arith)

four_minus : (a b c d a' b' c' d' : ℤ) → (a +ℤ b +ℤ c +ℤ d) -ℤ (a' +ℤ b' +ℤ c' +ℤ d') ≡ (a -ℤ a') +ℤ (b -ℤ b') +ℤ (c -ℤ c') +ℤ (d -ℤ d')
four_minus a b c d a' b' c' d' =
    Diff-same
    (Diff-minus (Diff-plus (Diff-plus (Diff-plus (diff a) (diff b)) (diff c)) (diff d)) (Diff-plus (Diff-plus (Diff-plus (diff a') (diff b')) (diff c')) (diff d')))
    (Diff-plus (Diff-plus (Diff-plus (Diff-minus (diff a) (diff a')) (Diff-minus (diff b) (diff b'))) (Diff-minus (diff c) (diff c'))) (Diff-minus (diff d) (diff d')))
    (omega arith)

abs_four : (a b c d : ℤ) → nat_abs (a +ℤ b +ℤ c +ℤ d) ≤ nat_abs a + nat_abs b + nat_abs c + nat_abs d
abs_four a b c d = omega (arith, abs_plus a b, abs_plus (a +ℤ b) c, abs_plus (a +ℤ b +ℤ c) d)

-- corners p, each at most e off corners q
module _ (e : ℕ) (q0 q1 q2 q3 p0 p1 p2 p3 : ℤ) (n0 : nat_abs (p0 -ℤ q0) ≤ e) (n1 : nat_abs (p1 -ℤ q1) ≤ e) (n2 : nat_abs (p2 -ℤ q2) ≤ e) (n3 : nat_abs (p3 -ℤ q3) ≤ e) where
  one_moves : (p q x : ℤ) → nat_abs (p -ℤ q) ≤ e → nat_abs (p *ℤ x -ℤ q *ℤ x) ≤ e * nat_abs x
  one_moves p q x h = le_trans (le_of_eq (ap nat_abs (times_minus p q x) ∙ unsigned_abs-mul (p -ℤ q) x)) (mul-le-mul_right (nat_abs x) h)

  four_move : (x y z w : ℤ) (n : ℕ) → nat_abs x + nat_abs y + nat_abs z + nat_abs w ≤ n
      → nat_abs ((p0 *ℤ x +ℤ p1 *ℤ y +ℤ p2 *ℤ z +ℤ p3 *ℤ w) -ℤ (q0 *ℤ x +ℤ q1 *ℤ y +ℤ q2 *ℤ z +ℤ q3 *ℤ w)) ≤ e * n
  four_move x y z w n h =
      rw (four_minus (p0 *ℤ x) (p1 *ℤ y) (p2 *ℤ z) (p3 *ℤ w) (q0 *ℤ x) (q1 *ℤ y) (q2 *ℤ z) (q3 *ℤ w)) (le_trans
      (abs_four (p0 *ℤ x -ℤ q0 *ℤ x) (p1 *ℤ y -ℤ q1 *ℤ y) (p2 *ℤ z -ℤ q2 *ℤ z) (p3 *ℤ w -ℤ q3 *ℤ w))
      (omega (arith, one_moves p0 q0 x n0, one_moves p1 q1 y n1, one_moves p2 q2 z n2, one_moves p3 q3 w n3, mul-le-mul_left e h)))

  -- module (i, j) moves by at most e times what the corners count there together
  pub place_off : (side m i j : ℕ) → m ≤ side → nat_abs (from_middle side i) ≤ m → nat_abs (from_middle side j) ≤ m
      → nat_abs (module_place (axis_of p0 p1 p2 p3) side i j -ℤ module_place (axis_of q0 q1 q2 q3) side i j) ≤ e * max (4 * side) (2 * side + 4 * m)
  place_off side m i j h hi hj =
      rw (weighed side i j p0 p1 p2 p3, weighed side i j q0 q1 q2 q3)
      (four_move _ _ _ _ (max (4 * side) (2 * side + 4 * m)) (all_four side m (from_middle side i) (from_middle side j) h hi hj))

-- ---- a place that is off the middle of a cell by less than half the cell: it rounds to one of the cell's c pixels, of which x is the first

near_middle : (side b x : ℕ) (z : ℤ) → 0 < side → let m = 2048 * side * (2 * x + b) in
    (above z + 0 < below z + m + 2048 * side * suc b) × (below z + m < above z + 0 + 2048 * side * suc b) → (x ≤ to_pixel z (4096 * side)) × (to_pixel z (4096 * side) < x + suc b)
near_middle side b x (pos n) S h = let D : 0 < 2 * (4096 * side) = omega arith in ((le-div_iff_mul-le D).1 (omega arith), (div-lt_iff_lt-mul D).1 (omega arith))
near_middle side b zero (negsuc n) S h = omega arith
near_middle side b (suc y) (negsuc n) S h = absurd (omega arith)

pub pixel_stays : (side c x : ℕ) (z : ℤ) → 0 < side → 0 < c → nat_abs (z -ℤ pos (2048 * side * (2 * x + (c - 1)))) < 2048 * side * c
    → (x ≤ to_pixel z (4096 * side)) × (to_pixel z (4096 * side) < x + c)
pixel_stays side zero x z S C h = absurd (omega arith)
pixel_stays side (suc b) x z S C h =
    let e : suc b - 1 ≡ b = omega arith in
    let l : nat_abs (z -ℤ pos (2048 * side * (2 * x + b))) < 2048 * side * suc b = rw e at h in
    near_middle side b x z S (Diff-near (Diff-minus (diff z) (Diff-pos (2048 * side * (2 * x + b)))) l)

-- ---- a sample that corners q put in the middle of its cell, put by corners p that are each at most e off: it stays in that cell

-- U and V of the modules inside the border
middle_inside : (edge border n : ℕ) → n < edge → nat_abs (from_middle (side_of edge border) (border + n)) ≤ edge - 1
middle_inside edge border n h = Diff-abs (edge - 1) (middle (side_of edge border) (border + n)) (omega arith) (omega arith)

module _ (e : ℕ) (q0 q1 q2 q3 p0 p1 p2 p3 : ℤ) (n0 : nat_abs (p0 -ℤ q0) ≤ e) (n1 : nat_abs (p1 -ℤ q1) ≤ e) (n2 : nat_abs (p2 -ℤ q2) ≤ e) (n3 : nat_abs (p3 -ℤ q3) ≤ e) where
  pub sample_stays : (edge border c x k : ℕ) → k < edge * edge → 0 < c
      → let side = side_of edge border in e * max (4 * side) (2 * side + 4 * (edge - 1)) < 2048 * side * c
      → module_place (axis_of q0 q1 q2 q3) side (border + k / edge) (border + k % edge) ≡ pos (2048 * side * (2 * x + (c - 1)))
      → let pixel = sample_pixel (axis_of p0 p1 p2 p3) edge border k in (x ≤ pixel) × (pixel < x + c)
  sample_stays edge border c x k h C small place =
      let side = side_of edge border in
      let r = square_row edge k h in
      let off = place_off e q0 q1 q2 q3 p0 p1 p2 p3 n0 n1 n2 n3 side (edge - 1) (border + k / edge) (border + k % edge) (omega arith)
      (middle_inside edge border (k / edge) r) (middle_inside edge border (k % edge) (square_column edge k h)) in
      let z = module_place (axis_of p0 p1 p2 p3) side (border + k / edge) (border + k % edge) in
      let near : nat_abs (z -ℤ module_place (axis_of q0 q1 q2 q3) side (border + k / edge) (border + k % edge)) < 2048 * side * c = omega arith in
      pixel_stays side c x z (omega arith) C (rw place at near)
