-- The four corners one after another, none of which refusal 8 refuses.
use Rattle.std.proofs.Common.{refl}
use mathlib.Core.List.{flat_map}
use native.Mathlib.Omega.{arith}
use Rattle.points.proofs.Any.{NoCorner, no_corner}
use Rattle.places.specs.Corners.{bad_corner}
use Rattle.report.specs.Bytes.{low_first}
use Rattle.text.proofs.Join.{put_more}
use Rattle.report_writer.proofs.put_corners.Goals.{Start}
use Rattle.report_writer.proofs.put_corners.Goals as goal

good : (s : Start) → NoCorner bad_corner s.args.quad
good s = no_corner bad_corner s.args.quad s.requires.0

pub put_point-requires : goal.put_point-requires
put_point-requires c = ((good (goal.at.put_point-requires c).Start).at0, omega arith)

pub put_point-requires-2 : goal.put_point-requires-2
unfolding low_first
put_point-requires-2 c = ((good (goal.at.put_point-requires-2 c).Start).at1, omega arith)

pub put_point-requires-3 : goal.put_point-requires-3
unfolding low_first
put_point-requires-3 c = ((good (goal.at.put_point-requires-3 c).Start).at2, omega arith)

pub put_point-requires-4 : goal.put_point-requires-4
unfolding low_first
put_point-requires-4 c = ((good (goal.at.put_point-requires-4 c).Start).at3, omega arith)

pub returns : goal.returns
unfolding low_first flat_map
returns c =
    put_more refl (omega arith)
    (put_more refl (omega arith) (put_more refl (omega arith) c.put_point.ensures c.put_point-2.ensures) c.put_point-3.ensures)
    c.put_point-4.ensures
