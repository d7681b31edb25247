-- What the tests let through can be painted.
use mathlib.Core.Path.{◌≡◌}
use native.Mathlib.Omega.{arith}
use lib.ListN.{length}
use borrow.Author.Rules.{rules}
use Rattle.painter.specs.Tag.{drawn}
use Rattle.painter.specs.Corners.{print_quad}
use Rattle.painter.specs.Printable.{Printable}
use Rattle.painter.proofs.Printable.{Good-print, print_parts}
use Rattle.muosleap_paint.proofs.PaintTag.{paint_steps}
use Rattle.muosleap_paint.proofs.painting.paint_square.Goals.{After-fill}
use Rattle.muosleap_paint.proofs.painting.paint_square.Goals as goal

printable : (c : After-fill) → let a = c.args in Printable (length a.plane.now) a.frame a.square.edge a.square.border a.word a.print
printable c =
    let a = c.args in
    record { planes = c.requires; edges = a.square.edges; borders = a.square.borders; prints = c.in_ok-tag.ensures.ok.3 }

pub draw_tag-requires : goal.draw_tag-requires
draw_tag-requires c =
    let p = print_parts _ _ _ _ _ (printable (goal.at.draw_tag-requires c).After-fill).prints in
    let t = c.in_ok-tag.ensures.ok in
    rw (c.fill.ensures.same_frame, t.0, t.2) record { placed = p.placed }

pub quad-requires-clause-across : goal.quad-requires-clause-across
quad-requires-clause-across c =
    let g = Good-print (printable (goal.at.quad-requires-clause-across c).After-fill) in
    let t = c.in_ok-tag.ensures.ok in
    rw (t.0, t.2) (omega (arith, g.placed.right, g.framed.sides.width_le))

pub quad-requires-clause-down : goal.quad-requires-clause-down
quad-requires-clause-down c =
    let g = Good-print (printable (goal.at.quad-requires-clause-down c).After-fill) in
    let t = c.in_ok-tag.ensures.ok in
    rw (t.0, t.2) (omega (arith, g.placed.low, g.framed.sides.height_le))

pub returns : goal.returns
returns c =
    let a = c.args in
    let t = c.in_ok-tag.ensures.ok in
    let light = c.fill.new.self.bytes.now in
    let draws : c.draw_tag.new.self.bytes.now ≡ drawn a.frame a.square.edge a.square.border a.word a.print light =
    rw (c.fill.ensures.same_frame, t.0, t.1, t.2) at c.draw_tag.ensures.drawn in
    let quad : c.quad.result ≡ print_quad a.square.edge a.square.border a.print = rw (t.0, t.2) at c.quad.ensures in
    let painted =
    paint_steps a.plane.now a.frame a.square.edge a.square.border a.word a.print light c.draw_tag.new.self.bytes.now c.quad.result (printable (goal.at.returns c).After-fill)
    c.fill.ensures.filled draws quad in
    search (rules, painted)
