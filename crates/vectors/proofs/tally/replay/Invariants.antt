use Rattle.std.proofs.Common.{◌≡◌, true, Ok}
use Rattle.vectors.proofs.tally.replay.Given as goal

abbrev pub invariant-loop-frame : goal.invariant-loop-frame
invariant-loop-frame g l =
    ((frame : _) (answer : _) → goal.F-post g l.is_alike frame answer → answer ≡ Ok true) → l.tally.other ≡ 0
