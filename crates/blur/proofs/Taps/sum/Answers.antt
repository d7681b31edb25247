-- The sums with one more tap each are those of one more weight.
use Rattle.std.proofs.Common.{rules, ◌∙◌, ◌+◌, ◌-◌, ◌*◌, length, get_or, take, drop, arith}
use lib.Ieee.{nan}
use Rattle.lists.proofs.Part.{part_read}
use Rattle.blur.specs.Steps.{apart}
use Rattle.samples.proofs.Laws.{zeros}
use Rattle.blur.proofs.Sums.{sums_none, sums_more}
use Rattle.blur.proofs.Taps.sum.Goals as goal

pub loop-k-init : goal.loop-k-init
loop-k-init c =
    let t = c.args.self in
    let n = length c.args.row.now in
    c.fill.ensures.after (λ y e. search rules) ∙ zeros n _ ∙ sums_none t.weights.now (apart t.img.now t.start t.step) n

pub loop-k-preserved : goal.loop-k-preserved
loop-k-preserved c =
    let l = c.loop-k in
    let t = c.args.self in
    let n = length c.args.row.now in
    let from = l.k * t.step + t.start in
    let part = take (from + n - from) (drop from t.img.now) in
    sums_more t.weights.now (apart t.img.now t.start t.step) n l.k l.row c.add_weighted.new.sums (λ x. get_or part x nan)
    (λ x h. part_read t.img.now from (from + n - from) x nan (omega arith))
    c.add_weighted.ensures
    l.invariant
