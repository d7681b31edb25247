-- The ones of `a ^ b` are the places where a and b differ. Assumes nothing.
use native.Mathlib.Omega.{arith}
use Rattle.word.proofs.Differing.{ones-differing}
use Rattle.word.proofs.differing_bits.Goals as goal

pub returns : goal.returns
returns c = ones-differing 64 c.args.a c.args.b (omega arith) (omega arith)
