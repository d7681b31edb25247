-- The line is made dark, which is all of a row of the border; in any other row it has the cells before `column` from then on.
use mathlib.Core.Path.{◌≡◌, refl, sym, ap, ◌∙◌}
use mathlib.Core.Bool.{false}
use Prim.Native.Nat.{ℕ, ◌+◌, ◌-◌, ◌*◌, ◌≤◌}
use native.Mathlib.Omega.{arith}
use lib.ListN.{length}
use Rattle.std.proofs.lemmas.Bool.Decides.{nat_tests}
use Rattle.std.proofs.lemmas.Grind.{common_steps}
use Rattle.tables.specs.Table.{side_of}
use Rattle.painter.specs.Picture.{between, run_written}
use Rattle.painter.specs.Part.{row_shade, dark_line}
use Rattle.painter.proofs.Printable.{RowOf, row_of, cells_le}
use Rattle.painter.proofs.Line.{made_dark, border_row, left_border, light_module, dark_module, right_border}
use Rattle.painter.proofs.tag.Tag.write_line.Goals.{Start, After-fill, In-loop-column, then-shows_light, else-shows_light}
use Rattle.painter.proofs.tag.Tag.write_line.Goals as goal

-- the row's numbers
row : (c : Start) → let s = c.args.self in RowOf s.square.edge s.square.border s.print c.args.row
row c = let s = c.args.self in row_of s.square.edge s.square.border s.print c.args.row s.square.edges s.square.borders s.styles c.requires.inside

-- the line is dark
dark : (c : After-fill) → let s = c.args.self in c.fill.new.self ≡ dark_line s.square.edge s.square.border s.print
dark c =
    let s = c.args.self in
    made_dark s.square.edge s.square.border s.print c.fill.new.self (c.fill.ensures.len ∙ c.requires.wide)
    (λ k h. c.fill.ensures.clones k 0 (omega (arith, c.requires.wide)) refl)

pub loop-column-init : goal.loop-column-init
loop-column-init c =
    let s = c.args.self in
    dark (goal.at.loop-column-init c).After-fill
    ∙ left_border s.square.edge s.square.border s.word s.print c.args.row (row (goal.at.loop-column-init c).Start)

pub returns-else-contains : goal.returns-else-contains
returns-else-contains c =
    let s = c.args.self in
    let e : between s.square.border s.square.edge c.args.row ≡ false = grind (arith, nat_tests) in
    dark (goal.at.returns-else-contains c).After-fill
    ∙ border_row s.square.edge s.square.border s.word s.print c.args.row (row (goal.at.returns-else-contains c).Start) e

-- the cell lies in the line
within : (c : In-loop-column) → c.loop-column.column * c.args.self.print.cell + c.args.self.print.cell ≤ length c.loop-column.line
within c =
    let s = c.args.self in
    omega (arith, cells_le c.loop-column.column (side_of s.square.edge s.square.border) s.print.cell (omega arith), c.loop-column.auto.line, c.fill.ensures.len, c.requires.wide)

pub slice_bounds-fill-end : goal.slice_bounds-fill-end
slice_bounds-fill-end c = omega (arith, within (goal.at.slice_bounds-fill-end c).In-loop-column)

pub loop-column-preserved : goal.loop-column-preserved
loop-column-preserved c =
    let s = c.args.self in
    let l = c.loop-column in
    let start = l.column * s.print.cell in
    let r = row (goal.at.loop-column-preserved c).Start in
    elim c.if-shows_light.branch [
      | then-shows_light w ↦
          let ys = w.fill-then-shows_light.new.self in
          let inside = within (goal.at.loop-column-preserved c).In-loop-column in
          let long : length ys ≡ s.print.cell = grind (arith, common_steps, w.fill-then-shows_light.ensures.len, inside) in
          w.line-is
          ∙ light_module s.square.edge s.square.border s.word s.print c.args.row r l.column l.line l.invariant (start + s.print.cell - start) ys (sym c.shows_light.ensures ∙ w.if-shows_light.true)
          (omega arith) inside long (λ k h. w.fill-then-shows_light.ensures.clones k 0 (omega (arith, w.fill-then-shows_light.ensures.len, long)) refl)
      | else-shows_light w ↦
          w.line-is
          ∙ dark_module s.square.edge s.square.border s.word s.print c.args.row r l.column l.line l.invariant (sym c.shows_light.ensures ∙ w.if-shows_light.false)
    ]

pub returns-after-loop-column : goal.returns-after-loop-column
returns-after-loop-column c =
    let s = c.args.self in
    let l = c.loop-column in
    let e : l.column ≡ s.square.border + s.square.edge = omega arith in
    l.invariant
    ∙ ap (λ (n : ℕ). run_written 0 (n * s.print.cell) (row_shade s.square.edge s.square.border s.word s.print c.args.row) (dark_line s.square.edge s.square.border s.print)) e
    ∙ right_border s.square.edge s.square.border s.word s.print c.args.row (row (goal.at.returns-after-loop-column c).Start)
