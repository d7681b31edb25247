-- The axes of a quad that refusal 8 lets through are small. Assumes nothing.
use borrow.Author.Rules.{rules}
use Rattle.reader.proofs.Samples.{small_axes}
use Rattle.lit_reading.proofs.quad_levels.Goals as goal

pub sample_levels-requires-clause-small : goal.sample_levels-requires-clause-small
sample_levels-requires-clause-small c = small_axes c.args.quad c.axes-axes.result c.requires.small (search rules)
