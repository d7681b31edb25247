-- The painted tag's quad: "The quad is the outer corners, half a pixel before the first and after the last dark pixel, clockwise from the
-- print's first." Assumes nothing.
use Rattle.std.specs.Prelude.{ℕ, zero, suc, ◌+◌, ◌*◌, true, false, negsuc, Float}
use Rattle.std.specs.Float.{fin}
use Rattle.points.specs.declared.Point.{Point}
use Rattle.points.specs.declared.Quad.{Quad}
use Rattle.points.specs.Turned.{turned_left}
use Rattle.painter.specs.Tag.{size_of}
use Rattle.painter.specs.declared.Print.{Print}

-- half a pixel before pixel n, which is half a pixel after pixel n − 1: exactly n − 1/2, that is −1 × 2^−1 for n = 0 and else (2n − 1) × 2^−1
abbrev pub half_before : ℕ → Float
half_before zero = fin true 1 (negsuc 0)
half_before (suc n) = fin false (2 * n + 1) (negsuc 0)

abbrev pub point_at : Float → Float → Point
point_at x y = record { x = x; y = y }

-- four corners clockwise from the upper left one
abbrev pub quad_of : (left top right bottom : Float) → Quad
quad_of left top right bottom =
    record { q0 = point_at left top; q1 = point_at right top; q2 = point_at right bottom; q3 = point_at left bottom }

-- the tag's outer corners clockwise from the upper left one
abbrev pub outer_corners : (edge border : ℕ) → Print → Quad
outer_corners edge border print =
    quad_of
    (half_before print.x)
    (half_before print.y)
    (half_before (print.x + size_of edge border print))
    (half_before (print.y + size_of edge border print))

-- clockwise from the print's first: at turn 0, 1, 2, 3 that is the upper left, upper right, lower right, lower left corner
abbrev pub print_quad : (edge border : ℕ) → Print → Quad
print_quad edge border print = turned_left print.turn (outer_corners edge border print)
