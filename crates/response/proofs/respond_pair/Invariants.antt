-- The loop keeps: the places before x of both rows are written.
use Rattle.std.proofs.Common.{length}
use Rattle.response.specs.Steps.{row_response}
use Rattle.response.proofs.Pairs.{Pair}
use Rattle.response.proofs.respond_pair.Given as goal

abbrev pub invariant-loop-x : goal.invariant-loop-x
invariant-loop-x l = Pair (row_response l.above l.upper l.lower (length l.above)) (row_response l.upper l.lower l.below (length l.above)) (length l.above) l.x l.pair
