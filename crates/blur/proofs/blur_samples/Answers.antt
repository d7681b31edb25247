-- One more sample is blurred.
use Rattle.std.proofs.Common.{refl, length, arith}
use Rattle.lists.proofs.Rows.{Filled-none, Filled-one, Filled-all}
use Rattle.blur.proofs.blur_samples.Invariants.{at}
use Rattle.blur.proofs.blur_samples.Goals as goal

pub loop-i-init : goal.loop-i-init
loop-i-init c = Filled-none (at c.args.samples.now c.args.weights.now c.args.first) (length c.args.part.now) c.args.part.now refl

pub loop-i-preserved : goal.loop-i-preserved
loop-i-preserved c =
    let l = c.loop-i in
    Filled-one (at c.args.samples.now c.args.weights.now c.args.first) (length c.args.part.now) l.i l.part c.blur_sample.result (omega arith) c.blur_sample.ensures l.invariant

pub returns : goal.returns
returns c =
    let l = c.loop-i in
    Filled-all (at c.args.samples.now c.args.weights.now c.args.first) (length c.args.part.now) l.i l.part (omega arith) l.invariant
