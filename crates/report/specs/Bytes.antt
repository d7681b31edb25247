-- The bytes of a reading, from 02's ticket 7. Assumes nothing.
use Rattle.std.specs.Prelude.{ℕ, zero, suc, ◌+◌, ◌*◌, ◌/◌, ◌%◌, Float, length}
use mathlib.Core.List.{List, [], ◌∷◌, ◌++◌, flat_map}
use Rattle.std.specs.Float.{binary32}
use Rattle.std.specs.Float.Ieee.{to_bits}
use Rattle.refusals.specs.Outcome.{Outcome, accepted, refused}
use Rattle.points.specs.Numbers.{numbers_of}
use Rattle.reader.specs.Reading.{Tag}

-- a number in so many bytes, "low byte first"
unfoldable pub low_first : ℕ → ℕ → List ℕ
low_first zero n = []
low_first (suc bytes) n = n % 256 ∷ low_first bytes (n / 256)

-- "Turn and differing modules are left out when 0": the byte of such a field, and 1 where there is one
abbrev pub unless_zero : ℕ → List ℕ
unless_zero zero = []
unless_zero (suc n) = suc n ∷ []

abbrev pub one_unless_zero : ℕ → ℕ
one_unless_zero zero = 0
one_unless_zero (suc n) = 1

-- "Each row begins with a map byte whose bits are id 1, turn 2, differing modules 4, corners 8, refusal 16."
abbrev pub tag_map : (turn differing : ℕ) → ℕ
tag_map turn differing = 1 + 2 * one_unless_zero turn + 4 * one_unless_zero differing + 8

abbrev pub map_of : Outcome Tag → ℕ
map_of (accepted tag) = tag_map tag.turn tag.differing
map_of (refused n) = 16

-- "corners as eight f32 of four bytes low first"
abbrev pub float_bytes : Float → List ℕ
float_bytes x = low_first 4 (to_bits binary32 x)

-- "Only fields whose bit is set follow, in that order: id two bytes low first, the others one byte", then the corners
abbrev pub field_bytes : Outcome Tag → List ℕ
field_bytes (accepted tag) = low_first 2 tag.id ++ (unless_zero tag.turn ++ (unless_zero tag.differing ++ flat_map float_bytes (numbers_of tag.corners)))
field_bytes (refused n) = n ∷ []

abbrev pub row_bytes : Outcome Tag → List ℕ
row_bytes row = map_of row ∷ field_bytes row

-- "First come two bytes with the number of rows, low byte first", then the rows: the report of a reading
unfoldable pub report_of : List (Outcome Tag) → List ℕ
unfolding low_first flat_map
report_of said = low_first 2 (length said) ++ flat_map row_bytes said
