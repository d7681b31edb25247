-- The tag lies within the grid, so no number is large.
use mathlib.Core.Path.{◌≡◌, ap, ap₂, ◌∙◌}
use Prim.Native.Nat.{ℕ, ◌+◌, ◌*◌, ◌≤◌}
use native.Mathlib.Omega.{arith}
use Rattle.tables.specs.Table.{side_of}
use Rattle.grid.specs.Quads.{position_row, position_column}
use Rattle.grid.proofs.Sheetable.{across_ends, down_ends}
use Rattle.grid.proofs.Sheet.position_print.Goals.{After-side}
use Rattle.grid.proofs.Sheet.position_print.Goals as goal

side : (c : After-side) → c.side.result ≡ side_of c.args.self.now.table.family.edge c.args.self.now.table.family.border
side c = c.side.ensures ∙ ap₂ side_of c.square.ensures.0 c.square.ensures.1

-- the tag's place is not beyond the grid's end
across : (c : After-side) → let s = c.args.self.now in s.print.x + position_column s.grid c.args.position * ((c.side.result + s.grid.gap) * s.print.cell) ≤ 4096
across c =
    let s = c.args.self.now in
    let e = ap (λ (n : ℕ). position_column s.grid c.args.position * ((n + s.grid.gap) * s.print.cell)) (side c) in
    omega (arith, e, across_ends s.table.family s.grid s.print c.args.position c.requires.placed, c.requires.across)

down : (c : After-side) → let s = c.args.self.now in s.print.y + position_row s.grid c.args.position * ((c.side.result + s.grid.gap) * s.print.cell) ≤ 4096
down c =
    let s = c.args.self.now in
    let e = ap (λ (n : ℕ). position_row s.grid c.args.position * ((n + s.grid.gap) * s.print.cell)) (side c) in
    omega (arith, e, down_ends s.table.family s.grid s.print c.args.position c.requires.placed, c.requires.down)

pub overflow_mul-result : goal.overflow_mul-result
overflow_mul-result c = omega (arith, across c)

pub overflow_add-result : goal.overflow_add-result
overflow_add-result c = omega (arith, across c)

pub overflow_add-result-2 : goal.overflow_add-result-2
overflow_add-result-2 c = omega (arith, down c)
