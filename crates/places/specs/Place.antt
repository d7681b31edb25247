-- Where the modules of a quad lie, "for x and y each". Assumes nothing.
use Rattle.std.specs.Prelude.{ℕ, ◌+◌, ◌*◌, ◌/◌, ◌%◌, ℤ, pos, ◌+ℤ◌, ◌-ℤ◌, ◌*ℤ◌}
use Rattle.points.specs.declared.Quad.{Quad}
use Rattle.tables.specs.Table.{side_of}
use Rattle.places.specs.Rounding.{to_pixel, in_1024ths}
use Rattle.places.specs.declared.Axis.{Axis}
use Rattle.places.specs.declared.Axes.{Axes}

-- "S the sum of the four, A = q2 + q3 − q0 − q1, B = q1 + q2 − q0 − q3"
abbrev pub axis_of : ℤ → ℤ → ℤ → ℤ → Axis
axis_of q0 q1 q2 q3 =
    record { s = q0 +ℤ q1 +ℤ q2 +ℤ q3; a = q2 +ℤ q3 -ℤ q0 -ℤ q1; b = q1 +ℤ q2 -ℤ q0 -ℤ q3 }

-- "Sampling first takes each coordinate to the nearest 1/1024 pixel": S, A and B in 1024ths, for x and y each
abbrev pub axes_of : Quad → Axes
axes_of q =
    record {
      x = axis_of (in_1024ths q.q0.x) (in_1024ths q.q1.x) (in_1024ths q.q2.x) (in_1024ths q.q3.x);
      y = axis_of (in_1024ths q.q0.y) (in_1024ths q.q1.y) (in_1024ths q.q2.y) (in_1024ths q.q3.y);
    }

-- 2i − side + 1
abbrev pub from_middle : ℕ → ℕ → ℤ
from_middle side i = pos (2 * i) -ℤ pos side +ℤ pos 1

-- "Module (i, j) lies at (S × side + (2i − side + 1) × A + (2j − side + 1) × B) ÷ (4 × side), exactly."
-- This is the dividend; in 1024ths the divisor is 4096 × side.
abbrev pub module_place : Axis → ℕ → ℕ → ℕ → ℤ
module_place axis side i j = axis.s *ℤ pos side +ℤ from_middle side i *ℤ axis.a +ℤ from_middle side j *ℤ axis.b

abbrev pub module_pixel : Axis → ℕ → ℕ → ℕ → ℕ
module_pixel axis side i j = to_pixel (module_place axis side i j) (4096 * side)

-- sample k of edge²: "Samples run i outer, j inner, each from border to border + edge − 1."
abbrev pub sample_pixel : Axis → ℕ → ℕ → ℕ → ℕ
sample_pixel axis edge border k = module_pixel axis (side_of edge border) (border + k / edge) (border + k % edge)
