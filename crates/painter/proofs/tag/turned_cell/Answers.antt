-- Each arm is as many quarter turns as the turn says. Assumes nothing.
use mathlib.Core.Path.{◌≡◌, sym, ap, ◌∙◌}
use Prim.Native.Nat.{ℕ, ◌-◌}
use native.Mathlib.Omega.{arith}
use Rattle.painter.specs.Tag.{cell_at, turned_cell}
use Rattle.painter.proofs.tag.turned_cell.Goals as goal

-- at the turn k
at : (side turn k row column : ℕ) → turn ≡ k → turned_cell side k (cell_at row column) ≡ turned_cell side turn (cell_at row column)
at side turn k row column e = ap (λ (t : ℕ). turned_cell side t (cell_at row column)) (sym e)

pub returns-in-0 : goal.returns-in-0
unfolding turned_cell
returns-in-0 c = let a = c.args in at a.side a.turn 0 a.row a.column c.in-0.is

pub returns-in-1 : goal.returns-in-1
unfolding turned_cell
returns-in-1 c = let a = c.args in at a.side a.turn 1 a.row a.column c.in-1.is

pub returns-in-2 : goal.returns-in-2
unfolding turned_cell
returns-in-2 c = let a = c.args in at a.side a.turn 2 a.row a.column c.in-2.is

pub returns-in_default : goal.returns-in_default
unfolding turned_cell
returns-in_default c =
    let a = c.args in
    let back : a.column ≡ a.side - 1 - (a.side - 1 - a.column) = omega arith in
    ap (λ (r : ℕ). cell_at r (a.side - 1 - a.row)) back
    ∙ at a.side a.turn 3 a.row a.column (omega arith)
