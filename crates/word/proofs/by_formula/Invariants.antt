-- At row i and column j of the turned square, `b` is the turned word without its i * edge + j low places. Assumes nothing.
use mathlib.Core.Path.{◌≡◌}
use Prim.Native.Nat.{◌+◌, ◌*◌, ◌/◌, ◌^◌}
use Rattle.word.specs.Word.{turn}
use Rattle.word.proofs.by_formula.Given as goal

abbrev pub invariant-loop-j : goal.invariant-loop-j
invariant-loop-j l = l.b ≡ turn l.e l.bits / 2 ^ (l.i * l.e + l.j)

abbrev pub invariant-loop-i : goal.invariant-loop-i
invariant-loop-i l = l.b ≡ turn l.e l.bits / 2 ^ (l.i * l.e)
