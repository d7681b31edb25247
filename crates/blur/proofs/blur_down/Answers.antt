-- One more row is blurred.
use Rattle.std.proofs.Common.{◌∙◌, ◌<◌, arith}
use Rattle.lists.proofs.Rows.{rows_none, rows_more, rows_all}
use Rattle.blur.specs.Blur.{down_at}
use Rattle.blur.proofs.Lines.{down_row}
use Rattle.blur.proofs.blur_down.Goals as goal

pub loop-y-init : goal.loop-y-init
loop-y-init c =
    let p = c.args.img.now in
    rows_none (down_at p.samples.now p.shape.width p.shape.height c.args.weights.now) p.shape.width p.shape.height c.args.out.now (c.requires ∙ p.whole)

pub loop-y-preserved : goal.loop-y-preserved
loop-y-preserved c =
    let p = c.args.img.now in
    let w = p.shape.width in
    let h = p.shape.height in
    let l = c.loop-y in
    let some : 0 < w = p.wide in
    rows_more (down_at p.samples.now w h c.args.weights.now) w h l.y l.out c.blur_row_down.new.row c.loop-y-test.true
    (c.blur_row_down.ensures ∙ down_row p.samples.now c.args.weights.now w l.y some h)
    l.invariant

pub returns : goal.returns
returns c =
    let p = c.args.img.now in
    let l = c.loop-y in
    rows_all (down_at p.samples.now p.shape.width p.shape.height c.args.weights.now) p.shape.width p.shape.height l.y l.out (omega arith) l.invariant
