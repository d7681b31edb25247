-- The ones are the bits in which the code differs from 0. Assumes nothing.
use mathlib.Core.Path.{◌∙◌}
use native.Mathlib.Omega.{arith}
use borrow.Author.Tests.{lt-leb}
use Rattle.likeness.proofs.Tested.{ones-le, too_few_ones, enough_ones}
use Rattle.likeness.proofs.is_mixed.Goals as goal

pub overflow_sub-result : goal.overflow_sub-result
overflow_sub-result c = let a = c.args in omega (arith, c.differing_bits-ones.ensures, ones-le a.edge a.code c.requires.0 c.requires.1)

pub returns-then-t-ones : goal.returns-then-t-ones
returns-then-t-ones c = let a = c.args in enough_ones a.edge a.code c.requires.0 c.requires.1 a.t c.differing_bits-ones.result c.differing_bits-ones.ensures c.if-t-ones.true

pub returns-else-t-ones : goal.returns-else-t-ones
returns-else-t-ones c =
    let a = c.args in
    lt-leb a.t c.differing_bits-ones.result c.if-t-ones.false
    ∙ too_few_ones a.edge a.code c.requires.0 c.requires.1 a.t c.differing_bits-ones.result c.differing_bits-ones.ensures c.if-t-ones.false
