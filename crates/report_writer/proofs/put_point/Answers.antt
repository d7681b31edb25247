-- x, then y.
use Rattle.std.proofs.Common.{refl}
use native.Mathlib.Omega.{arith}
use Rattle.std.proofs.lemmas.Bool.{or_parts}
use Rattle.places.specs.Rounding.{bad_coordinate}
use Rattle.report.specs.Bytes.{low_first}
use Rattle.text.proofs.Join.{put_more}
use Rattle.report_writer.proofs.put_point.Goals as goal

pub put_float-requires : goal.put_float-requires
put_float-requires c =
    let p = c.args.p in
    ((or_parts (bad_coordinate p.x) (bad_coordinate p.y) c.requires.0).0, omega arith)

pub put_float-requires-2 : goal.put_float-requires-2
unfolding low_first
put_float-requires-2 c =
    let p = c.args.p in
    ((or_parts (bad_coordinate p.x) (bad_coordinate p.y) c.requires.0).1, omega arith)

pub returns : goal.returns
unfolding low_first
returns c = put_more refl (omega arith) c.put_float.ensures c.put_float-2.ensures
