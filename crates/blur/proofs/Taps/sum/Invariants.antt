-- The loop keeps: each sum is that of the first k weights.
use Rattle.std.proofs.Common.{◌≡◌}
use Rattle.blur.specs.Steps.{apart, sums}
use Rattle.blur.proofs.Taps.sum.Given as goal

abbrev pub invariant-loop-k : goal.invariant-loop-k
invariant-loop-k l = l.row ≡ sums l.self.weights.now (apart l.self.img.now l.self.start l.self.step) l.n l.k
