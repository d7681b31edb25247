-- How an 8-bit plane is laid out: line after line from the top, behind each but the last its filler. Pixel (x, y) stands in column x of
-- line y, each counted from 0. Assumes nothing.
use Rattle.std.specs.Prelude.{ℕ, ◌+◌, ◌-◌, ◌*◌, ◌/◌, ◌%◌, ◌≤◌, Bool, not, ◌||◌, List, ltb, eqb, get_or}
use Rattle.refusals.specs.Plane.{bad_sides}
use Rattle.refusals.specs.declared.Frame.{Frame}

-- a plane without filler
abbrev pub packed_frame : (width height : ℕ) → Frame
packed_frame width height = record { width = width; height = height; pitch = width }

-- the same width and height at another pitch
abbrev pub at_pitch : Frame → ℕ → Frame
at_pitch frame pitch = record { width = frame.width; height = frame.height; pitch = pitch }

-- "a pitch, at least the width and at most 8,192"
abbrev pub bad_pitch : (width pitch : ℕ) → Bool
bad_pitch width pitch = ltb pitch width || ltb 8192 pitch

-- "the slice has pitch × (height − 1) + width bytes"
abbrev pub bytes_of : Frame → ℕ
bytes_of frame = frame.pitch * (frame.height - 1) + frame.width

-- "1 now measures this length and a bad pitch": refusal 1 for an 8-bit plane of len bytes
unfoldable pub bad_frame : ℕ → Frame → Bool
unfolding bad_sides
bad_frame len frame =
    bad_sides frame.width frame.height || (bad_pitch frame.width frame.pitch || not (eqb len (bytes_of frame)))

-- pixel (x, y) is this byte of the plane
abbrev pub place_of : Frame → ℕ → ℕ → ℕ
place_of frame x y = y * frame.pitch + x

-- byte k of the plane stands in this column of this line
abbrev pub column_of : Frame → ℕ → ℕ
column_of frame k = k % frame.pitch

abbrev pub line_of : Frame → ℕ → ℕ
line_of frame k = k / frame.pitch

-- byte k is a pixel; else it is filler
abbrev pub is_pixel : Frame → ℕ → Bool
is_pixel frame k = ltb (column_of frame k) frame.width

-- the level at pixel (x, y)
abbrev pub level_at : List ℕ → Frame → ℕ → ℕ → ℕ
level_at plane frame x y = get_or plane (place_of frame x y) 0

-- the numbers of a frame are small enough to work out a place
abbrev pub SmallFrame : Frame → Type 0
SmallFrame frame = frame.pitch ≤ 8192
