-- What only the steps of the report's writer need: a tag's row by its fields, and corners without a bit. Assumes nothing.
use Rattle.std.specs.Prelude.{ℕ, Bool, ◌&&◌, eqb, Float}
use Rattle.std.specs.Float.{binary32}
use Rattle.std.specs.Float.Ieee.{to_bits}
use Rattle.refusals.specs.Outcome.{Outcome, accepted}
use Rattle.points.specs.declared.Point.{Point}
use Rattle.points.specs.declared.Quad.{Quad}
use Rattle.reader.specs.Reading.{Tag}

-- the row of a tag with these fields
abbrev pub tag_row : ℕ → ℕ → ℕ → Quad → Outcome Tag
tag_row id turn differing corners = accepted (record { id = id; turn = turn; differing = differing; corners = corners })

-- every bit is zero, of a number, of a corner and of a quad
abbrev pub no_bits : Float → Bool
no_bits x = eqb (to_bits binary32 x) 0

abbrev pub no_corner : Point → Bool
no_corner p = no_bits p.x && no_bits p.y

abbrev pub no_corners : Quad → Bool
no_corners q = no_corner q.q0 && (no_corner q.q1 && (no_corner q.q2 && no_corner q.q3))
