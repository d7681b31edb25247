-- Each position's tag is one that the single painter takes; drawn and its quad written, it is one tag more.
use mathlib.Core.Path.{◌≡◌, refl, ap, ◌∙◌}
use Prim.Native.Nat.{ℕ, ◌+◌, ◌*◌, ◌≤◌, ◌<◌}
use native.Mathlib.Omega.{arith}
use lib.ListN.{length, get_or}
use lib.Seq.{sets}
use Rattle.points.specs.Numbers.{quad_size, numbers_of}
use Rattle.points.specs.declared.Quad.{Quad}
use Rattle.painter.specs.Picture.{repainted, filled}
use Rattle.painter.specs.Printable.{Printable}
use Rattle.painter.proofs.Printable.{Good-print, print_parts}
use Rattle.grid.specs.Quads.{tag_count}
use Rattle.grid.specs.Refused.{bad_grid}
use Rattle.grid.specs.Sheetable.{Sheetable}
use Rattle.grid.proofs.Sheetable.{across_small, down_small, room, tag_printable}
use Rattle.grid.proofs.Tags.{first_tags, no_tags, tag_more, sheet-drawn}
use Rattle.grid.proofs.Quads.{first_quads, no_quads, quad_more, all_quads}
use Rattle.grid.proofs.Sheet.paint.Goals.{Start, In-loop-position, After-position_print}
use Rattle.grid.proofs.Sheet.paint.Goals as goal

sheetable : (c : Start) → let s = c.args.self.now in
    Sheetable (length c.args.canvas.now.bytes.now) c.args.canvas.now.frame s.table.family s.table.codes.now s.grid s.print (length c.args.quads.now)
unfolding bad_grid
sheetable c =
    let s = c.args.self.now in
    record { planes = c.args.canvas.now.framed; tables = s.table.sound; styles = s.styles; grids = simp (s.counts, c.requires.placed); outputs = c.requires.room }

pub loop-position-init : goal.loop-position-init
loop-position-init c =
    let s = c.args.self.now in
    record {
      drawn = c.fill.ensures.filled ∙ no_tags s.table.family s.table.codes.now s.grid s.print c.args.canvas.now.frame (filled c.args.canvas.now.frame s.print.light c.args.canvas.now.bytes.now);
      written = no_quads s.table.family s.grid s.print c.args.quads.now;
      same_frame = c.fill.ensures.same_frame;
      same_loan = c.fill.ensures.same_loan;
      same_length = refl;
    }

pub position_print-requires-clause-across : goal.position_print-requires-clause-across
position_print-requires-clause-across c = across_small (sheetable (goal.at.position_print-requires-clause-across c).Start)

pub position_print-requires-clause-down : goal.position_print-requires-clause-down
position_print-requires-clause-down c = down_small (sheetable (goal.at.position_print-requires-clause-down c).Start)

-- there is such a tag
below : (c : In-loop-position) → c.loop-position.position < tag_count c.args.self.now.grid
below c = omega (arith, c.loop-position-test.true, c.tag_count-position-end.ensures.count)

-- the single painter takes it
printable : (c : After-position_print) → let n = c.args.canvas.now in
    Printable (length n.bytes.now) n.frame c.square-square.result.edge c.square-square.result.border (get_or c.args.self.now.table.codes.now c.loop-position.position 0) c.position_print.result
printable c =
    rw (c.square-square.ensures.0, c.square-square.ensures.1, c.position_print.ensures)
    (tag_printable (sheetable (goal.at.After-position_print c).Start) c.loop-position.position (below (goal.at.After-position_print c).In-loop-position))

pub invariant_of-tag : goal.invariant_of-tag
invariant_of-tag c =
    let p = print_parts _ _ _ _ _ (printable (goal.at.invariant_of-tag c).After-position_print).prints in
    record { words = p.words; styles = p.styles }

pub draw_tag-requires : goal.draw_tag-requires
draw_tag-requires c =
    let p = print_parts _ _ _ _ _ (printable (goal.at.draw_tag-requires c).After-position_print).prints in
    rw c.loop-position.invariant.same_frame record { placed = p.placed }

pub quad-requires-clause-across : goal.quad-requires-clause-across
quad-requires-clause-across c =
    let g = Good-print (printable (goal.at.quad-requires-clause-across c).After-position_print) in
    omega (arith, g.placed.right, g.framed.sides.width_le)

pub quad-requires-clause-down : goal.quad-requires-clause-down
quad-requires-clause-down c =
    let g = Good-print (printable (goal.at.quad-requires-clause-down c).After-position_print) in
    omega (arith, g.placed.low, g.framed.sides.height_le)

-- there is room for its quad
roomy : (c : In-loop-position) → quad_size * c.loop-position.position + quad_size ≤ length c.args.quads.now
roomy c = omega (arith, below c, room (sheetable (goal.at.In-loop-position c).Start))

pub put_quad-requires : goal.put_quad-requires
put_quad-requires c = omega (arith, roomy (goal.at.put_quad-requires c).In-loop-position, c.loop-position.invariant.same_length)

pub loop-position-preserved : goal.loop-position-preserved
loop-position-preserved c =
    let s = c.args.self.now in
    let n = c.loop-position.position in
    let i = c.loop-position.invariant in
    record {
      drawn =
          tag_more s.table.family s.table.codes.now s.grid s.print c.args.canvas.now.frame (filled c.args.canvas.now.frame s.print.light c.args.canvas.now.bytes.now) n c.loop-position.canvas.bytes.now c.draw_tag.new.self.bytes.now
          (below (goal.at.loop-position-preserved c).In-loop-position) i.drawn
          (rw (i.same_frame, c.square-square.ensures.0, c.square-square.ensures.1, c.position_print.ensures) at c.draw_tag.ensures.drawn);
      written =
          c.put_quad.ensures
          ∙ ap (λ (x : Quad). sets c.loop-position.quads (quad_size * n) (numbers_of x)) (rw (c.square-square.ensures.0, c.square-square.ensures.1, c.position_print.ensures) at c.quad.ensures)
          ∙ quad_more s.table.family s.grid s.print c.args.quads.now n c.loop-position.quads (roomy (goal.at.loop-position-preserved c).In-loop-position) i.written;
      same_frame = c.draw_tag.ensures.same_frame ∙ i.same_frame;
      same_loan = c.draw_tag.ensures.same_loan ∙ i.same_loan;
      same_length = c.put_quad.auto.quads ∙ i.same_length;
    }

pub returns-clause-painted : goal.returns-clause-painted
returns-clause-painted c =
    let s = c.args.self.now in
    let f = c.args.canvas.now.frame in
    let light = filled f s.print.light c.args.canvas.now.bytes.now in
    let e : c.loop-position.position ≡ tag_count s.grid = omega (arith, c.loop-position-test.false, c.tag_count-position-end.ensures.count) in
    sheet-drawn s.table.family s.table.codes.now s.grid s.print f c.args.canvas.now.bytes.now light c.loop-position.canvas.bytes.now refl
    (c.loop-position.invariant.drawn ∙ ap (λ (n : ℕ). repainted f (first_tags s.table.family s.table.codes.now s.grid s.print n) light) e)

pub returns-clause-quads : goal.returns-clause-quads
returns-clause-quads c =
    let s = c.args.self.now in
    let e : c.loop-position.position ≡ tag_count s.grid = omega (arith, c.loop-position-test.false, c.tag_count-position-end.ensures.count) in
    c.loop-position.invariant.written ∙ ap (first_quads s.table.family s.grid s.print c.args.quads.now) e ∙ all_quads s.table.family s.grid s.print c.args.quads.now
