-- Each coordinate is one that refusal 8 lets through. Assumes nothing.
use native.Mathlib.Omega.{arith}
use Rattle.places.proofs.Small.{x_good, y_good}
use Rattle.report.specs.Report.{point_in}
use Rattle.report_reader.proofs.point_at.Goals as goal

pub float_at-requires : goal.float_at-requires
float_at-requires c = (omega (arith, c.requires.0), x_good (point_in c.args.at c.args.bytes.now) c.requires.1)

pub float_at-requires-2 : goal.float_at-requires-2
float_at-requires-2 c = (omega (arith, c.requires.0), y_good (point_in c.args.at c.args.bytes.now) c.requires.1)
