-- After row i and column j of the square, the first i * edge + j samples lie in the picture and are written.
use Rattle.std.proofs.Common.{◌+◌, ◌*◌}
use Rattle.reader.proofs.Samples.{SoFar}
use Rattle.reader.proofs.sample_levels.Given as goal

abbrev pub invariant-loop-i : goal.invariant-loop-i
invariant-loop-i l = SoFar l.picture.bytes.now l.picture.frame l.family l.axes (l.i * l.edge) l.levels

abbrev pub invariant-loop-j : goal.invariant-loop-j
invariant-loop-j l = SoFar l.picture.bytes.now l.picture.frame l.family l.axes (l.i * l.edge + l.j) l.levels
