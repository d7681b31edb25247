-- The shifted bit and the word have no place in common. Assumes nothing.
use mathlib.Core.Path.{ap, ◌∙◌}
use lib.Bits.{bit_or, or_shifted_r}
use lib.Pow.{shl_exact}
use native.Mathlib.Omega.{arith}
use Rattle.word.proofs.with_bit.Goals as goal

pub returns : goal.returns
returns c =
    let a = c.args in
    ap (bit_or a.b) (shl_exact 1 a.k 64 c.requires.2 (omega arith)) ∙ or_shifted_r a.x a.k a.b c.requires.1
