-- The row has a row above and one below it, and is their response.
use Rattle.std.proofs.Common.{◌≡◌, sym, ap, ◌∙◌, List, ℕ, ◌+◌, ◌-◌, ◌*◌, ◌<◌, length, take, drop, arith}
use lib.Ieee.{Float}
use Rattle.lists.specs.Tab.{tabulate}
use Rattle.response.specs.Steps.{row_response}
use Rattle.response.proofs.Border.{off_end, inner_row, row_wide}
use Rattle.response.proofs.inner_row.Goals as goal

pub respond_row-requires : goal.respond_row-requires
respond_row-requires c =
    let p = c.args.img.now in
    let w = p.shape.width in
    let y = c.args.y in
    let long : (r : ℕ) (row : List Float) → r < p.shape.height → row ≡ take w (drop (r * w) p.samples.now) → length row ≡ length c.args.row.now = λ r row b e. row_wide p.samples.now w p.shape.height r row p.whole b e ∙ sym c.requires.0 in (
      omega (arith, c.requires.0, p.wide),
      long (y - 1) c.row.result.now (omega (arith, c.requires.2)) c.row.ensures,
      long y c.row-2.result.now (omega (arith, c.requires.2)) c.row-2.ensures,
      long (y + 1) c.row-3.result.now c.requires.2 c.row-3.ensures,
    )

pub returns : goal.returns
returns c =
    let p = c.args.img.now in
    let y = c.args.y in
    let above = c.row.result.now in
    let here = c.row-2.result.now in
    let below = c.row-3.result.now in
    c.respond_row.ensures
    ∙ ap (λ (n : ℕ). tabulate n (row_response above here below n)) c.requires.0
    ∙ inner_row p.samples.now p.shape.width p.shape.height y above here below c.row.ensures c.row-2.ensures c.row-3.ensures (off_end p.shape.height y c.requires.1 c.requires.2)
