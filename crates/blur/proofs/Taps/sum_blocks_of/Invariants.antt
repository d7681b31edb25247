-- The loop keeps: the sums of the blocks so far are made.
use Rattle.std.proofs.Common.{ℕ, length}
use Rattle.std.specs.Prelude.{min}
use lib.Ieee.{Float}
use Rattle.lists.proofs.Rows.{Filled}
use Rattle.blur.specs.Blur.{weighted}
use Rattle.blur.specs.Steps.{apart}
use Rattle.blur.specs.declared.Taps.{Taps}
use Rattle.blur.proofs.Taps.sum_blocks_of.Given as goal

-- the sum at place x
abbrev pub at : Taps → ℕ → Float
at t x = weighted t.weights.now (apart t.img.now t.start t.step x) (length t.weights.now)

abbrev pub invariant-loop-next : goal.invariant-loop-next
invariant-loop-next g l = Filled (at l.self) l.n (min l.next l.n) l.row
