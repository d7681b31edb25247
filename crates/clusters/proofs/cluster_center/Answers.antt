-- A whole number below 2^24 is an f32 without loss, so each cast is exact.
use native.Mathlib.Omega.{arith}
use lib.Dec.{le→leb}
use lib.Ieee.{in_float}
use Rattle.clusters.proofs.Center.{Small, good_center}
use Rattle.clusters.proofs.cluster_center.Goals.{Start}
use Rattle.clusters.proofs.cluster_center.Goals as goal

small : (c : Start) → Small c.args.sum_x c.args.sum_y c.args.count
small c = good_center c.args.sum_x c.args.sum_y c.args.count c.requires

pub int_to_float-n : goal.int_to_float-n
unfolding in_float
int_to_float-n c = omega (arith, le→leb, (small (goal.at.int_to_float-n c).Start).n)

pub int_to_float-result : goal.int_to_float-result
unfolding in_float
int_to_float-result c = omega (arith, le→leb, (small (goal.at.int_to_float-result c).Start).x)

pub int_to_float-result-2 : goal.int_to_float-result-2
unfolding in_float
int_to_float-result-2 c = omega (arith, le→leb, (small (goal.at.int_to_float-result-2 c).Start).y)
