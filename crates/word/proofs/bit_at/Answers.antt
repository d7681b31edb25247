-- Assumes nothing.
use lib.Bits.{and_mask}
use Rattle.word.proofs.bit_at.Goals as goal

pub returns : goal.returns
returns c = and_mask _ 1
