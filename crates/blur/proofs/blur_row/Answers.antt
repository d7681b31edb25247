-- The three parts of the row are written one after the other.
use Rattle.std.proofs.Common.{◌≡◌, sym, ap, ◌∙◌, List, ℕ, ◌+◌, ◌-◌, ◌/◌, ◌≤◌, length, get_or, arith}
use lib.Ieee.{Float, nan}
use Rattle.lists.specs.Tab.{tabulate}
use Rattle.lists.proofs.Part.{back, part_length}
use Rattle.lists.proofs.Rows.{Filled-none, Filled-part, Filled-all, tabulate_ext}
use Rattle.blur.specs.Blur.{along}
use Rattle.blur.specs.Steps.{apart, sums}
use Rattle.blur.proofs.Lines.{across_inner}
use Rattle.blur.proofs.blur_row.Goals as goal

-- sample x of the row, blurred
abbrev at : List Float → List Float → ℕ → ℕ → Float
at samples weights n = along weights n (λ q. get_or samples q nan)

pub returns-then-n-r : goal.returns-then-n-r
returns-then-n-r c =
    let samples = c.args.samples.now in
    let weights = c.args.weights.now in
    c.blur_samples.ensures
    ∙ tabulate_ext _ _ _ (λ i h. ap (at samples weights (length samples)) (omega arith))
    ∙ ap (λ (n : ℕ). tabulate (length c.args.row.now) (at samples weights n)) c.requires.0

pub returns : goal.returns
returns c =
    let samples = c.args.samples.now in
    let weights = c.args.weights.now in
    let row = c.args.row.now in
    let n = length samples in
    let r = length weights / 2 in
    let f = at samples weights n in
    let long : length row ≡ n = sym c.requires.0 in
    let wide : r + r ≤ n = omega (arith, c.if-n-r.false) in
    let one = Filled-part f n 0 0 r r row c.blur_samples-2.new.part (omega arith) (omega arith) (omega arith)
    (c.blur_samples-2.ensures ∙ ap (λ (m : ℕ). tabulate m (λ i. f (0 + i))) (part_length row 0 r r (omega arith) (omega arith)))
    (Filled-none f n row long) in
    let rowOne = back row 0 (r - 0) c.blur_samples-2.new.part in
    let two = Filled-part f n r r (n - r) (n - r - r) rowOne c.sum_blocks.new.row (omega arith) (omega arith) (omega arith)
    (c.sum_blocks.ensures
    ∙ ap (λ (m : ℕ). sums weights (apart samples 0 1) m (length weights)) (part_length rowOne r (n - r) (n - r - r) (omega (arith, one.whole)) (omega arith))
    ∙ ap (λ (k : ℕ). sums weights (apart samples k 1) (n - r - r) (length weights)) (omega arith)
    ∙ across_inner samples weights n r (n - r - r) (omega arith) (omega arith))
    one in
    let rowTwo = back rowOne r (n - r - r) c.sum_blocks.new.row in
    let three = Filled-part f n (n - r) (n - r) n r rowTwo c.blur_samples-3.new.part (omega arith) (omega arith) (omega arith)
    (c.blur_samples-3.ensures ∙ ap (λ (m : ℕ). tabulate m (λ i. f (n - r + i))) (part_length rowTwo (n - r) n r (omega (arith, two.whole)) (omega arith)))
    two in
    Filled-all f n n _ (omega arith) three ∙ ap (λ (m : ℕ). tabulate m (at samples weights m)) c.requires.0
