-- The line of a row of cells, copied to each of that row's rows of pixels, is one row of cells more.
use mathlib.Core.Path.{◌≡◌, refl, sym, ap, ◌∙◌}
use Prim.Native.Nat.{ℕ, ◌+◌, ◌*◌, ◌≤◌}
use native.Mathlib.Omega.{arith}
use lib.ListN.{length}
use Rattle.lists.proofs.Tab.{length-tabulate}
use Rattle.refusals.proofs.Pixels.{good_frame}
use Rattle.tables.specs.Table.{side_of}
use Rattle.painter.specs.Picture.{repainted}
use Rattle.painter.specs.Tag.{size_of}
use Rattle.painter.specs.Part.{row_shade, part_pixel}
use Rattle.painter.proofs.Part.{no_row, one_row_more}
use Rattle.painter.proofs.Printable.{good_place, cells_le}
use Rattle.painter.proofs.canvas.Canvas.draw_rows.Goals.{In-loop-row, After-write_line, Start}
use Rattle.painter.proofs.canvas.Canvas.draw_rows.Goals as goal

pub loop-row-init : goal.loop-row-init
loop-row-init c =
    let t = c.args.tag in
    let s = c.args.self.now in
    record { drawn = no_row s.frame t.square.edge t.square.border t.word t.print s.bytes.now; same_frame = refl; same_loan = refl; same_size = refl }

-- the row of cells lies within the picture
inside : (c : In-loop-row) → let p = c.args.tag.print in p.y + c.loop-row.row * p.cell + p.cell ≤ c.args.self.now.frame.height
inside c =
    let t = c.args.tag in
    let g = good_place c.args.self.now.frame t.square.edge t.square.border t.print c.requires.placed in
    omega (arith, cells_le c.loop-row.row (side_of t.square.edge t.square.border) t.print.cell (omega (arith, c.loop-row-test.true, c.side-row-end.ensures)), g.low)

small : (c : Start) → c.args.self.now.frame.height ≤ 4096
small c = (good_frame c.args.self.now.framed).sides.height_le

pub write_line-requires-clause-inside : goal.write_line-requires-clause-inside
write_line-requires-clause-inside c = omega (arith, c.loop-row-test.true, c.side-row-end.ensures)

pub write_line-requires-clause-wide : goal.write_line-requires-clause-wide
write_line-requires-clause-wide c = c.loop-row.invariant.same_size ∙ c.requires.wide

-- the line is the row's
wide : (c : After-write_line) → let t = c.args.tag in length c.write_line.new.line ≡ size_of t.square.edge t.square.border t.print
wide c =
    let t = c.args.tag in
    ap length c.write_line.ensures ∙ length-tabulate (size_of t.square.edge t.square.border t.print) (row_shade t.square.edge t.square.border t.word t.print c.loop-row.row)

pub overflow_mul-row : goal.overflow_mul-row
overflow_mul-row c = omega (arith, inside (goal.at.overflow_mul-row c).In-loop-row, small (goal.at.overflow_mul-row c).Start)

pub overflow_add-print : goal.overflow_add-print
overflow_add-print c = omega (arith, inside (goal.at.overflow_add-print c).In-loop-row, small (goal.at.overflow_add-print c).Start)

pub copy_block-requires : goal.copy_block-requires
copy_block-requires c =
    let t = c.args.tag in
    let i = c.loop-row.invariant in
    let g = good_place c.args.self.now.frame t.square.edge t.square.border t.print c.requires.placed in
    rw i.same_frame record {
      across = omega (arith, wide (goal.at.copy_block-requires c).After-write_line, g.right);
      down = inside (goal.at.copy_block-requires c).In-loop-row;
    }

pub loop-row-preserved : goal.loop-row-preserved
loop-row-preserved c =
    let t = c.args.tag in
    let s = c.args.self.now in
    let i = c.loop-row.invariant in
    record {
      drawn =
          one_row_more s.frame t.square.edge t.square.border t.word t.print s.bytes.now c.loop-row.row c.write_line.new.line c.loop-row.self.bytes.now c.copy_block.new.self.bytes.now
          i.drawn c.write_line.ensures (rw i.same_frame at c.copy_block.ensures.copied);
      same_frame = c.copy_block.ensures.same_frame ∙ i.same_frame;
      same_loan = c.copy_block.ensures.same_loan ∙ i.same_loan;
      same_size = wide (goal.at.loop-row-preserved c).After-write_line ∙ sym c.requires.wide;
    }

pub returns-clause-drawn : goal.returns-clause-drawn
returns-clause-drawn c =
    let t = c.args.tag in
    let s = c.args.self.now in
    let row : c.loop-row.row ≡ side_of t.square.edge t.square.border = omega (arith, c.loop-row-test.false, c.side-row-end.ensures) in
    c.loop-row.invariant.drawn ∙ ap (λ (n : ℕ). repainted s.frame (part_pixel t.square.edge t.square.border t.word t.print (n * t.print.cell)) s.bytes.now) row
