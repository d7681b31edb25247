-- The outcome of `cluster_center` for all inputs: "a centre 15". Assumes nothing.
use Rattle.std.specs.Prelude.{ℕ, cond}
use Rattle.points.specs.declared.Point.{Point}
use Rattle.refusals.specs.Outcome.{Outcome, accepted, refused}
use Rattle.clusters.specs.Center.{bad_center, center}

unfoldable pub cluster_center : ℕ → ℕ → ℕ → Outcome Point
cluster_center sum_x sum_y count = cond (bad_center sum_x sum_y count) (refused 15) (accepted (center sum_x sum_y count))
