-- Each corner is one that refusal 8 lets through. Assumes nothing.
use native.Mathlib.Omega.{arith}
use Rattle.points.proofs.Any.{NoCorner, no_corner}
use Rattle.places.specs.Corners.{bad_corner}
use Rattle.report.specs.Report.{quad_in}
use Rattle.report_reader.proofs.quad_at.Goals.{Start}
use Rattle.report_reader.proofs.quad_at.Goals as goal

each : (s : Start) → NoCorner bad_corner (quad_in s.args.at s.args.bytes.now)
each s = no_corner bad_corner (quad_in s.args.at s.args.bytes.now) s.requires.1

pub point_at-requires : goal.point_at-requires
point_at-requires c = (omega (arith, c.requires.0), (each (goal.at.point_at-requires c).Start).at0)

pub point_at-requires-2 : goal.point_at-requires-2
point_at-requires-2 c = (omega (arith, c.requires.0), (each (goal.at.point_at-requires-2 c).Start).at1)

pub point_at-requires-3 : goal.point_at-requires-3
point_at-requires-3 c = (omega (arith, c.requires.0), (each (goal.at.point_at-requires-3 c).Start).at2)

pub point_at-requires-4 : goal.point_at-requires-4
point_at-requires-4 c = (omega (arith, c.requires.0), (each (goal.at.point_at-requires-4 c).Start).at3)
