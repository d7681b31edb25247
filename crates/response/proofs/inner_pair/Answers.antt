-- The two rows have a row above and one below them, and are the response of all four.
use Rattle.std.proofs.Common.{◌≡◌, sym, ap, ap₂, ◌∙◌, List, ◌++◌, ℕ, ◌+◌, ◌-◌, ◌*◌, ◌<◌, length, take, drop, arith}
use lib.Ieee.{Float}
use Rattle.lists.specs.Tab.{tabulate}
use Rattle.response.specs.Steps.{row_response}
use Rattle.response.proofs.Border.{row_wide}
use Rattle.response.proofs.Pairs.{inner_pair}
use Rattle.response.proofs.inner_pair.Goals.{After-row}
use Rattle.response.proofs.inner_pair.Goals as goal

-- how long the first of the four rows is
first_wide : (c : After-row) → length c.row.result.now ≡ c.args.img.now.shape.width
first_wide c =
    let p = c.args.img.now in
    row_wide p.samples.now p.shape.width p.shape.height (c.args.y - 1) c.row.result.now p.whole (omega (arith, c.requires.2)) c.row.ensures

pub respond_pair-requires : goal.respond_pair-requires
respond_pair-requires c =
    let p = c.args.img.now in
    let w = p.shape.width in
    let y = c.args.y in
    let e = first_wide (goal.at.respond_pair-requires c).After-row in
    let long : (r : ℕ) (row : List Float) → r < p.shape.height → row ≡ take w (drop (r * w) p.samples.now) → length row ≡ length c.row.result.now = λ r row b i. row_wide p.samples.now w p.shape.height r row p.whole b i ∙ sym e in (
      omega (arith, e, p.wide),
      c.requires.0 ∙ sym (ap₂ ◌+◌ e e),
      long y c.row-2.result.now (omega (arith, c.requires.2)) c.row-2.ensures,
      long (y + 1) c.row-3.result.now (omega (arith, c.requires.2)) c.row-3.ensures,
      long (y + 2) c.row-4.result.now c.requires.2 c.row-4.ensures,
    )

pub returns : goal.returns
returns c =
    let p = c.args.img.now in
    let above = c.row.result.now in
    let upper = c.row-2.result.now in
    let lower = c.row-3.result.now in
    let below = c.row-4.result.now in
    c.respond_pair.ensures
    ∙ ap (λ (n : ℕ). tabulate n (row_response above upper lower n) ++ tabulate n (row_response upper lower below n)) (first_wide (goal.at.returns c).After-row)
    ∙ inner_pair p.samples.now p.shape.width p.shape.height c.args.y c.requires.1 c.requires.2 above upper lower below c.row.ensures c.row-2.ensures c.row-3.ensures c.row-4.ensures
