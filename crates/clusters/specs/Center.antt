-- Centres, from document 01: "A centre is sum divided by count in f32; it is given only for sums and a count below 2^24 with
-- a count of 1 or more, else 15." Assumes nothing.
use Rattle.std.specs.Prelude.{ℕ, ◌^◌, Bool, ◌||◌, leb, eqb, pos, Float}
use Rattle.std.specs.Float.{binary32}
use Rattle.std.specs.Float.Ieee.{of_int, div}
use Rattle.points.specs.declared.Point.{Point}

-- "a sum or count of 2^24 or more, or a count of 0"
unfoldable pub bad_center : ℕ → ℕ → ℕ → Bool
bad_center sum_x sum_y count = leb (2 ^ 24) sum_x || leb (2 ^ 24) sum_y || leb (2 ^ 24) count || eqb count 0

abbrev pub quotient : ℕ → ℕ → Float
quotient sum count = div binary32 (of_int binary32 (pos sum)) (of_int binary32 (pos count))

abbrev pub center : ℕ → ℕ → ℕ → Point
center sum_x sum_y count = record { x = quotient sum_x count; y = quotient sum_y count }
