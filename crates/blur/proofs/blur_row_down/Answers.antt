-- In blocks where the row has all its taps in the plane.
use Rattle.std.proofs.Common.{ap, ℕ, ◌∙◌, ◌+◌, ◌-◌, ◌*◌, length, arith}
use native.Mathlib.Nat.{add-mul}
use Rattle.lists.proofs.Rows.{row_fits}
use Rattle.blur.specs.Blur.{radius}
use Rattle.blur.specs.Steps.{apart, sums}
use Rattle.blur.proofs.Lines.{down_inner}
use Rattle.blur.proofs.blur_row_down.Goals as goal

pub sum_blocks-requires : goal.sum_blocks-requires
sum_blocks-requires c =
    let p = c.args.img.now in
    let w = p.shape.width in
    let k = length c.args.weights.now - 1 in
    let y = c.args.y - radius c.args.weights.now in
    let b = row_fits w p.shape.height (k + y) (omega (arith, c.if-r-y.true, c.if-r-img.true)) in
    omega (arith, b, add-mul k y w, p.whole, c.requires.0)

pub returns-then-r-img : goal.returns-then-r-img
returns-then-r-img c =
    let a = c.args in
    let p = a.img.now in
    let w = p.shape.width in
    let r = radius a.weights.now in
    c.sum_blocks.ensures
    ∙ ap (λ (n : ℕ). sums a.weights.now (apart p.samples.now ((a.y - r) * w) w) n (length a.weights.now)) c.requires.0
    ∙ down_inner p.samples.now a.weights.now w p.shape.height a.y c.if-r-y.true (omega (arith, c.if-r-y.true, c.if-r-img.true))
