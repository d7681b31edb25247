-- The painter's answer, taken apart; then `sheet_then_read`. Assumes nothing.
use mathlib.Core.Path.{sym, ap, ◌∙◌}
use native.Mathlib.Omega.{arith}
use Rattle.std.specs.Prelude.{Result}
use Rattle.refusals.specs.Numbers.{done}
use Rattle.refusals.specs.declared.refusal.Refusal.{Refusal}
use Rattle.points.specs.Turned.{turned_left}
use Rattle.grid.proofs.Sheetable.{room}
use Rattle.muosleap.specs.Quad.{decode_quad}
use Rattle.muosleap_paint.proofs.PaintSheet.{painted}
use Rattle.demand3.specs.Sheet.{read_sheet}
use Rattle.demand3.proofs.Sheet.{sheet_then_read}
use Rattle.demand3.proofs.paint_sheet_then_read.Goals as goal

-- a painted sheet has a quad for each position
pub quad_at-quad-requires : goal.quad_at-quad-requires
quad_at-quad-requires c = omega (arith, c.requires, room (painted c.args.plane.now c.args.quads.now c.paint_sheet.ensures c.in-Ok.is), c.paint_sheet.auto)

pub returns-in-Ok : goal.returns-in-Ok
returns-in-Ok c =
    let a = c.args in
    let left = c.paint_sheet.new.plane in
    let written = c.paint_sheet.new.quads in
    sheet_then_read a.plane.now a.frame a.family a.codes.now a.grid a.print a.quads.now a.position a.start
    (done c.paint_sheet.result) left written _ c.requires c.paint_sheet.ensures
    (c.read_start.ensures
    ∙ ap (decode_quad left a.frame a.family a.codes.now) (ap (turned_left a.start) c.quad_at-quad.ensures)
    ∙ sym (ap (λ (x : Result (Unit {0}) Refusal). read_sheet a.frame a.family a.codes.now a.position a.start left written (done x)) c.in-Ok.is))
