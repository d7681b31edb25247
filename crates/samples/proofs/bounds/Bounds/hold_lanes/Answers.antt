use Rattle.std.proofs.Common.{arith}
use Rattle.samples.proofs.LaneTests.{all_sixteen}
use Rattle.samples.proofs.bounds.Bounds.hold_lanes.Goals as goal

pub returns : goal.returns
returns c = all_sixteen c.args.self.low c.args.self.high c.args.lanes 16 c.fits-lanes.0 (omega arith)
