-- Which bytes are a report, and of which reading. Assumes nothing.
use Rattle.std.specs.Prelude.{ℕ, zero, suc, ◌+◌, ◌*◌, ◌/◌, ◌%◌, Bool, ◌&&◌, cond, eqb, Float, length, get_or, take, drop}
use mathlib.Core.List.{List, [], ◌∷◌, flat_map}
use Rattle.std.specs.Float.{binary32}
use Rattle.std.specs.Float.Ieee.{of_bits}
use Rattle.refusals.specs.Outcome.{Outcome, accepted, refused}
use Rattle.points.specs.declared.Point.{Point}
use Rattle.points.specs.declared.Quad.{Quad}
use Rattle.reader.specs.Reading.{Tag}
use Rattle.report.specs.Reading.{is_reading}
use Rattle.report.specs.Bytes.{low_first, row_bytes, report_of}
use Rattle.report.specs.Rows.{same}

-- the number of some bytes, low byte first, and of those from a place on
unfoldable pub number_of : List ℕ → ℕ
number_of [] = 0
number_of (byte ∷ bytes) = byte + 256 * number_of bytes

abbrev pub number_at : ℕ → ℕ → List ℕ → ℕ
number_at bytes at report = number_of (take bytes (drop at report))

-- the corners at a place
abbrev pub float_in : ℕ → List ℕ → Float
float_in at bytes = of_bits binary32 (number_at 4 at bytes)

abbrev pub point_in : ℕ → List ℕ → Point
point_in at bytes = record { x = float_in at bytes; y = float_in (at + 4) bytes }

abbrev pub quad_in : ℕ → List ℕ → Quad
quad_in at bytes = record { q0 = point_in at bytes; q1 = point_in (at + 8) bytes; q2 = point_in (at + 16) bytes; q3 = point_in (at + 24) bytes }

-- a field that may be left out: its byte where there is one, else 0
abbrev pub field_in : ℕ → ℕ → List ℕ → ℕ
field_in zero at bytes = 0
field_in (suc n) at bytes = get_or bytes at 0

-- the tag at the front of some bytes, where a turn and differing modules follow (1) or not (0)
abbrev pub tag_in : ℕ → ℕ → List ℕ → Tag
tag_in turn differing bytes =
    record { id = number_at 2 1 bytes; turn = field_in turn 3 bytes; differing = field_in differing (3 + turn) bytes; corners = quad_in (3 + turn + differing) bytes }

-- whether the map has the bit of the turn, and that of the differing modules: 1 or 0
abbrev pub has_turn : ℕ → ℕ
has_turn m = m / 2 % 2

abbrev pub has_differing : ℕ → ℕ
has_differing m = m / 4 % 2

-- what the row at the front of some bytes says by its map
unfoldable pub row_in : List ℕ → Outcome Tag
unfolding number_of
row_in bytes =
    let m = get_or bytes 0 0 in
    cond (eqb m 16) (refused (get_or bytes 1 0)) (accepted (tag_in (has_turn m) (has_differing m) bytes))

-- what the first n rows say
unfoldable pub rows_in : ℕ → List ℕ → List (Outcome Tag)
unfolding row_in low_first flat_map
rows_in zero bytes = []
rows_in (suc n) bytes = row_in bytes ∷ rows_in n (drop (length (row_bytes (row_in bytes))) bytes)

-- the number of rows of a report "by its first two bytes"
unfoldable pub count_in : List ℕ → ℕ
unfolding number_of
count_in report = number_at 2 0 report

-- what a report says
unfoldable pub report_says : List ℕ → List (Outcome Tag)
unfolding count_in rows_in
report_says report = rows_in (count_in report) (drop 2 report)

-- "20, .. or bytes that none writes, spare bytes included": all others say a reading, and are its report, byte for byte
unfoldable pub is_report : List ℕ → Bool
unfolding report_says is_reading report_of same
is_report report = let said = report_says report in is_reading said && same (report_of said) report
