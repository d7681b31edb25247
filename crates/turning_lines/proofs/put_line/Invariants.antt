-- Before place k, what stands before it has been put. Assumes nothing.
use Rattle.text.specs.Put.{Put}
use Rattle.turning_lines.proofs.Spaced.{front}
use Rattle.turning_lines.proofs.put_line.Given as goal

abbrev pub invariant-loop-k : goal.invariant-loop-k
invariant-loop-k l = Put (front l.edge l.k) l.fn.output l.output
