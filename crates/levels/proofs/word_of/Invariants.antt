-- The word so far is that of the levels so far.
use Rattle.std.proofs.Common.{◌≡◌}
use Rattle.levels.proofs.Loops.{first_word}
use Rattle.levels.proofs.word_of.Given as goal

abbrev pub invariant-loop-level : goal.invariant-loop-level
invariant-loop-level l = l.bits ≡ first_word l.middle l.levels l.level-index
