use Rattle.clusters.proofs.Search.{block_any}
use Rattle.clusters.proofs.block_below.Goals as goal

pub returns : goal.returns
returns c = block_any c.args.threshold c.args.mat.now c.args.from c.requires
