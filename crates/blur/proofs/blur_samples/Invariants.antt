-- The loop keeps: the samples before i are blurred.
use Rattle.std.proofs.Common.{List, ℕ, ◌+◌, length, get_or}
use lib.Ieee.{Float, nan}
use Rattle.lists.proofs.Rows.{Filled}
use Rattle.blur.specs.Blur.{along}
use Rattle.blur.proofs.blur_samples.Given as goal

-- sample i of the part, blurred
abbrev pub at : List Float → List Float → ℕ → ℕ → Float
at samples weights first i = along weights (length samples) (λ x. get_or samples x nan) (first + i)

abbrev pub invariant-loop-i : goal.invariant-loop-i
invariant-loop-i l = Filled (at l.samples l.weights l.first) (length l.initial.part) l.i l.part
