-- How large the numbers of a quad get that refusal 8 lets through. Assumes nothing.
use mathlib.Core.Path.{◌≡◌, refl}
use mathlib.Core.Bool.{Bool, true, false, true≢false}
use Prim.Native.Nat.{ℕ, ◌+◌, ◌*◌, ◌^◌, ◌<◌, ◌≤◌}
use native.Mathlib.Nat.{le_of_eq, le_trans, mul-le-mul, div-lt_iff_lt-mul}
use native.Mathlib.Omega.{arith}
use borrow.Author.Tests.{leb-false}
use lib.IntN.{ℤ, pos, neg_ℤ, ◌+ℤ◌, ◌*ℤ◌, nat_abs}
use lib.Ieee.{Float, nan, inf, fin, up, down}
use lib.Ieee.Fits.{down_pos}
use Rattle.std.proofs.lemmas.Bool.{or_parts}
use Rattle.points.specs.declared.Point.{Point}
use Rattle.points.specs.declared.Quad.{Quad}
use Rattle.points.proofs.Any.{no_corner}
use Rattle.places.specs.declared.Axis.{Axis}
use Rattle.places.specs.Rounding.{nearest, signed, bad_coordinate, in_1024ths}
use Rattle.places.specs.Corners.{bad_corner, bad_corners}
use Rattle.places.specs.Place.{axis_of, axes_of, from_middle, module_place}
use Rattle.places.specs.Bounds.{SmallAxis, Module}
use Rattle.std.proofs.lemmas.Int.{unsigned_abs-mul}
use Rattle.places.proofs.Whole.{abs_neg, abs_plus}
use Rattle.places.proofs.Diff.{Diff, Diff-pos, Diff-plus, Diff-minus, Diff-abs}

abs_signed : (s : Bool) (n : ℕ) → nat_abs (signed s n) ≡ n
abs_signed false n = refl
abs_signed true n = abs_neg (pos n)

-- a coordinate in 1024ths
pub coordinate_small : (x : Float) → bad_coordinate x ≡ false → nat_abs (in_1024ths x) ≤ 2 ^ 24
unfolding bad_coordinate in_1024ths
coordinate_small nan e = absurd (true≢false e)
coordinate_small (inf s) e = absurd (true≢false e)
coordinate_small (fin s m e) f =
    le_trans (le_of_eq (abs_signed s (nearest (1024 * (m * up e)) (down e)))) (go (m * up e) (down e) (down_pos e) (leb-false (16384 * down e) (m * up e) f))
  where
    go : (a d : ℕ) → 0 < d → a < 16384 * d → nearest (1024 * a) d ≤ 2 ^ 24
    go a d D h =
        let D₂ : 0 < 2 * d = omega arith in
        let l : nearest (1024 * a) d < 2 ^ 24 + 1 = (div-lt_iff_lt-mul D₂).1 (omega arith) in
        omega arith

-- S, A and B of four of them
pub axis_small : (q0 q1 q2 q3 : ℤ) → nat_abs q0 ≤ 2 ^ 24 → nat_abs q1 ≤ 2 ^ 24 → nat_abs q2 ≤ 2 ^ 24 → nat_abs q3 ≤ 2 ^ 24 → SmallAxis (axis_of q0 q1 q2 q3)
axis_small q0 q1 q2 q3 h0 h1 h2 h3 =
    record {
      s_small = four q0 q1 q2 q3 h0 h1 h2 h3;
      a_small = four q2 q3 (neg_ℤ q0) (neg_ℤ q1) h2 h3 (neg q0 h0) (neg q1 h1);
      b_small = four q1 q2 (neg_ℤ q0) (neg_ℤ q3) h1 h2 (neg q0 h0) (neg q3 h3);
    }
  where
    neg : (x : ℤ) → nat_abs x ≤ 2 ^ 24 → nat_abs (neg_ℤ x) ≤ 2 ^ 24
    neg x h = le_trans (le_of_eq (abs_neg x)) h

    four : (x y z w : ℤ) → nat_abs x ≤ 2 ^ 24 → nat_abs y ≤ 2 ^ 24 → nat_abs z ≤ 2 ^ 24 → nat_abs w ≤ 2 ^ 24 → nat_abs (x +ℤ y +ℤ z +ℤ w) ≤ 2 ^ 26
    four x y z w hx hy hz hw = omega (arith, abs_plus x y, abs_plus (x +ℤ y) z, abs_plus (x +ℤ y +ℤ z) w)

-- those of a quad that refusal 8 lets through
pub x_good : (p : Point) → bad_corner p ≡ false → bad_coordinate p.x ≡ false
x_good p e = (or_parts (bad_coordinate p.x) (bad_coordinate p.y) e).0

pub y_good : (p : Point) → bad_corner p ≡ false → bad_coordinate p.y ≡ false
y_good p e = (or_parts (bad_coordinate p.x) (bad_coordinate p.y) e).1

pub axes_small : (q : Quad) → bad_corners q ≡ false → SmallAxis (axes_of q).x × SmallAxis (axes_of q).y
axes_small q good =
    let n = no_corner bad_corner q good in (
      axis_small (in_1024ths q.q0.x) (in_1024ths q.q1.x) (in_1024ths q.q2.x) (in_1024ths q.q3.x)
          (small_x q.q0 n.at0) (small_x q.q1 n.at1) (small_x q.q2 n.at2) (small_x q.q3 n.at3),
      axis_small (in_1024ths q.q0.y) (in_1024ths q.q1.y) (in_1024ths q.q2.y) (in_1024ths q.q3.y)
          (small_y q.q0 n.at0) (small_y q.q1 n.at1) (small_y q.q2 n.at2) (small_y q.q3 n.at3),
    )
  where
    small_x : (p : Point) → bad_corner p ≡ false → nat_abs (in_1024ths p.x) ≤ 2 ^ 24
    small_x p e = coordinate_small p.x (x_good p e)

    small_y : (p : Point) → bad_corner p ≡ false → nat_abs (in_1024ths p.y) ≤ 2 ^ 24
    small_y p e = coordinate_small p.y (y_good p e)

-- 2i − side + 1
pub middle : (side i : ℕ) → Diff (from_middle side i) (2 * i + 0 + 1) (0 + side + 0)
middle side i = Diff-plus (Diff-minus (Diff-pos (2 * i)) (Diff-pos side)) (Diff-pos 1)

pub middle_small : (side i : ℕ) → side ≤ 16 → i < side → nat_abs (from_middle side i) ≤ 16
middle_small side i h l = Diff-abs 16 (middle side i) (omega arith) (omega arith)

term_small : (side i : ℕ) (z : ℤ) → side ≤ 16 → i < side → nat_abs z ≤ 2 ^ 26 → nat_abs (from_middle side i *ℤ z) ≤ 16 * 2 ^ 26
term_small side i z h l k = le_trans (le_of_eq (unsigned_abs-mul (from_middle side i) z)) (mul-le-mul (middle_small side i h l) k)

-- so the dividend of a place fits 32 bits
pub place_small : (axis : Axis) (side i j : ℕ) → Module axis side i j → nat_abs (module_place axis side i j) ≤ 3 * 2 ^ 30
place_small axis side i j m =
    let s : nat_abs (axis.s *ℤ pos side) ≤ 2 ^ 26 * 16 = le_trans (le_of_eq (unsigned_abs-mul axis.s (pos side))) (mul-le-mul m.small.s_small m.side_le) in
    omega (
      arith,
      s,
      term_small side i axis.a m.side_le m.row m.small.a_small,
      term_small side j axis.b m.side_le m.column m.small.b_small,
      abs_plus (axis.s *ℤ pos side) (from_middle side i *ℤ axis.a),
      abs_plus (axis.s *ℤ pos side +ℤ from_middle side i *ℤ axis.a) (from_middle side j *ℤ axis.b),
    )
