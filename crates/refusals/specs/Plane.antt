-- Refusal 1: "a plane side is 0 or above 4,096, or a plane's length is not width × height". For 8-bit planes
-- see Pixels.antt. Assumes nothing.
use Rattle.std.specs.Prelude.{ℕ, ◌*◌, Bool, not, ◌||◌, ltb, eqb}

unfoldable pub bad_sides : ℕ → ℕ → Bool
bad_sides width height = (eqb width 0 || ltb 4096 width) || (eqb height 0 || ltb 4096 height)

-- a plane of len floats
unfoldable pub bad_plane : ℕ → ℕ → ℕ → Bool
unfolding bad_sides
bad_plane len width height = bad_sides width height || not (eqb len (width * height))
