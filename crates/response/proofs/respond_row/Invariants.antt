-- The loop keeps: the samples before x are written.
use Rattle.std.proofs.Common.{List, ℕ, length}
use lib.Ieee.{Float}
use Rattle.lists.proofs.Rows.{Filled}
use Rattle.response.specs.Steps.{row_response}
use Rattle.response.proofs.respond_row.Given as goal

-- the row to be written
abbrev pub f : List Float → List Float → List Float → ℕ → Float
f above here below = row_response above here below (length above)

abbrev pub invariant-loop-x : goal.invariant-loop-x
invariant-loop-x l = Filled (f l.above l.here l.below) (length l.above) l.x l.row
