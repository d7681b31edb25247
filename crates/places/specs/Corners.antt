-- Refusals 8 and 9 of a quad, each over all four corners. Assumes nothing.
use Rattle.std.specs.Prelude.{ℕ, Bool, ◌||◌, leb}
use Rattle.points.specs.declared.Point.{Point}
use Rattle.points.specs.declared.Quad.{Quad}
use Rattle.points.specs.Turned.{any_corner}
use Rattle.places.specs.Rounding.{bad_coordinate, pixel_of}

-- refusal 8: "a corner coordinate is NaN or of magnitude 16,384 or more"
abbrev pub bad_corner : Point → Bool
bad_corner p = bad_coordinate p.x || bad_coordinate p.y

abbrev pub bad_corners : Quad → Bool
bad_corners q = any_corner bad_corner q

-- refusal 9: "a corner rounds outside the picture"
abbrev pub corner_outside : ℕ → ℕ → Point → Bool
corner_outside width height p = leb width (pixel_of p.x) || leb height (pixel_of p.y)

abbrev pub corners_outside : ℕ → ℕ → Quad → Bool
corners_outside width height q = any_corner (corner_outside width height) q
