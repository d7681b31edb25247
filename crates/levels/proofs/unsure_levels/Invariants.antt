-- The count so far is that of the levels so far.
use Rattle.std.proofs.Common.{◌≡◌}
use Rattle.levels.proofs.Loops.{first_unsure}
use Rattle.levels.proofs.unsure_levels.Given as goal

abbrev pub invariant-loop-level : goal.invariant-loop-level
invariant-loop-level l = l.unsure ≡ first_unsure l.middle l.band l.levels l.level-index
