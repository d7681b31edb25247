-- The sums with one more tap each are those of one more weight.
use Rattle.std.proofs.Common.{◌≡◌, rules, refl, ap, ◌∙◌, List, ℕ, ◌+◌, ◌*◌, ◌<◌, length, get_or, take, drop, arith}
use lib.Ieee.{Float, nan}
use Rattle.lists.proofs.Rows.{row_fits, row_length, row_read}
use Rattle.blur.specs.Blur.{radius}
use Rattle.blur.specs.Steps.{added, sums}
use Rattle.samples.proofs.Laws.{zeros}
use Rattle.blur.proofs.Sums.{sums_none, sums_more}
use Rattle.blur.proofs.sum_rows.Invariants.{tap}
use Rattle.blur.proofs.sum_rows.Goals as goal

pub loop-k-init : goal.loop-k-init
loop-k-init c =
    let a = c.args in
    let p = a.img.now in
    let w = p.shape.width in
    c.fill.ensures.after (λ y e. search rules)
    ∙ zeros (length a.row.now) _
    ∙ sums_none a.weights.now (tap p.samples.now w p.shape.height (radius a.weights.now) a.y) (length a.row.now)
    ∙ ap (λ (n : ℕ). sums a.weights.now (tap p.samples.now w p.shape.height (radius a.weights.now) a.y) n 0) c.requires.0

pub loop-k-preserved : goal.loop-k-preserved
loop-k-preserved c =
    let l = c.loop-k in
    let a = c.args in
    let p = a.img.now in
    let w = p.shape.width in
    let i = c.repeated_place.result in
    let part = take w (drop (i * w) p.samples.now) in
    sums_more a.weights.now (tap p.samples.now w p.shape.height (radius a.weights.now) a.y) w l.k l.row c.add_weighted.new.sums (λ x. get_or part x nan)
    (λ x h. row_read p.samples.now w i w refl x nan h ∙ ap (λ (j : ℕ). get_or p.samples.now (j * w + x) nan) c.repeated_place.ensures)
    (c.add_weighted.ensures ∙ ap (λ (s : List Float). added l.row (λ x. get_or s x nan) (get_or a.weights.now l.k nan)) c.row.ensures)
    l.invariant

pub add_weighted-requires : goal.add_weighted-requires
add_weighted-requires c =
    let p = c.args.img.now in
    let w = p.shape.width in
    let i = c.repeated_place.result in
    let b : i < p.shape.height = omega (arith, c.repeated_place.ensures, c.requires.1) in
    let fits = row_fits w p.shape.height i b in
    let a = row_length p.samples.now w i w refl (omega (arith, fits, p.whole)) in
    omega (arith, ap length c.row.ensures, a, c.requires.0, c.loop-k.auto.row)

pub returns : goal.returns
returns c =
    let l = c.loop-k in
    let a = c.args in
    let p = a.img.now in
    let e : l.k ≡ length a.weights.now = omega arith in
    l.invariant ∙ ap (sums a.weights.now (tap p.samples.now p.shape.width p.shape.height (radius a.weights.now) a.y) p.shape.width) e
