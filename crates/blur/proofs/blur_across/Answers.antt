-- One more row is blurred.
use Rattle.std.proofs.Common.{refl, sym, ap, ◌∙◌, List, ◌+◌, ◌-◌, ◌*◌, ◌<◌, length, get_or, take, drop, arith}
use lib.Ieee.{Float, nan}
use Rattle.lists.specs.Tab.{tabulate}
use Rattle.lists.proofs.Rows.{rows_none, rows_more, rows_all, row_fits, row_span, row_length}
use Rattle.blur.specs.Blur.{along, across_at}
use Rattle.blur.proofs.Lines.{across_row}
use Rattle.blur.proofs.blur_across.Goals as goal

pub loop-y-init : goal.loop-y-init
loop-y-init c =
    let p = c.args.img.now in
    rows_none (across_at p.samples.now p.shape.width c.args.weights.now) p.shape.width p.shape.height c.args.temp.now (c.requires ∙ p.whole)

pub blur_row-requires : goal.blur_row-requires
blur_row-requires c =
    let p = c.args.img.now in
    let w = p.shape.width in
    let l = c.loop-y in
    let fits = row_fits w p.shape.height l.y c.loop-y-test.true in
    let a = ap length c.row.ensures ∙ row_length p.samples.now w l.y w refl (omega (arith, fits, p.whole)) in
    let b = row_length l.temp w l.y _ (row_span w l.y) (omega (arith, fits, l.invariant.whole)) in
    (a ∙ sym b, omega (arith, a, p.wide))

pub loop-y-preserved : goal.loop-y-preserved
loop-y-preserved c =
    let p = c.args.img.now in
    let w = p.shape.width in
    let l = c.loop-y in
    let weights = c.args.weights.now in
    let k = length (take (l.y * w + w - l.y * w) (drop (l.y * w) l.temp)) in
    let some : 0 < w = p.wide in
    let b = row_length l.temp w l.y _ (row_span w l.y) (omega (arith, row_fits w p.shape.height l.y c.loop-y-test.true, l.invariant.whole)) in
    rows_more (across_at p.samples.now w c.args.weights.now) w p.shape.height l.y l.temp c.blur_row.new.row c.loop-y-test.true
    (c.blur_row.ensures
    ∙ ap (λ (s : List Float). tabulate k (along weights k (λ x. get_or s x nan))) c.row.ensures
    ∙ across_row p.samples.now weights w l.y some k w b refl)
    l.invariant

pub returns : goal.returns
returns c =
    let p = c.args.img.now in
    let l = c.loop-y in
    rows_all (across_at p.samples.now p.shape.width c.args.weights.now) p.shape.width p.shape.height l.y l.temp (omega arith) l.invariant
