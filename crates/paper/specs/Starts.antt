-- A reading from another start of the quad. Assumes nothing.
use Rattle.std.specs.Prelude.{ℕ}
use Rattle.refusals.specs.Outcome.{Outcome, accepted, refused}
use Rattle.likeness.specs.Start.{turn_less}
use Rattle.reader.specs.Reading.{Tag}

-- "if one start is refused, all four are, under one number; else all give one id and the same corners, and start s the turn of
-- start 0 less s, modulo 4", and all one number of differing modules: what start s reads, from what start 0 reads
abbrev pub from_start : ℕ → Outcome Tag → Outcome Tag
from_start s (accepted tag) = accepted (record { id = tag.id; turn = turn_less s tag.turn; differing = tag.differing; corners = tag.corners })
from_start s (refused n) = refused n
