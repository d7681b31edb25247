-- The difference is exact (`half_before_lem`). Assumes nothing.
use native.Mathlib.Omega.{arith}
use Rattle.painter.proofs.Half.{half_before_lem}
use Rattle.painter.proofs.tag.half_before.Goals as goal

pub returns : goal.returns
returns c = half_before_lem c.args.n (omega arith)
