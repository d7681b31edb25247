-- The painter's answer, taken apart; then `sheet_lit_then_read`. Assumes nothing.
use mathlib.Core.Path.{sym, ap, ◌∙◌, subst}
use native.Mathlib.Omega.{arith}
use Rattle.std.specs.Prelude.{Result}
use Rattle.refusals.specs.Numbers.{done}
use Rattle.refusals.specs.Pixels.{at_pitch}
use Rattle.refusals.specs.declared.refusal.Refusal.{Refusal}
use Rattle.points.specs.declared.Quad.{Quad}
use Rattle.points.specs.Turned.{turned_left}
use Rattle.points.specs.Numbers.{quad_at}
use Rattle.grid.proofs.Sheetable.{room}
use Rattle.muosleap.specs.Quad.{decode_quad}
use Rattle.muosleap_paint.specs.PaintSheet.{painting_of}
use Rattle.muosleap_paint.proofs.PaintSheet.{painted}
use Rattle.paper.specs.Sheet.{SheetPainted}
use Rattle.lit_reading.specs.Said.{lit_picture, lit_sheet, read_sheet_picture}
use Rattle.lit_reading.specs.Sampleable.{Sampleable}
use Rattle.lit_reading.proofs.Said.{position_sampleable, sheet_lit_then_read}
use Rattle.lit_reading.proofs.paint_sheet_then_read_lit.Goals.{In-Ok}
use Rattle.lit_reading.proofs.paint_sheet_then_read_lit.Goals as goal

-- the sheet is painted
took : (t : In-Ok) → let a = t.args in SheetPainted a.family a.codes.now a.grid a.print a.plane.now a.frame a.quads.now t.paint_sheet.new.plane t.paint_sheet.new.quads
took t = sym t.paint_sheet.ensures ∙ ap (λ (x : Result (Unit {0}) Refusal). painting_of (done x) t.paint_sheet.new.plane t.paint_sheet.new.quads) t.in-Ok.is

-- so it has a quad for each position,
pub quad_at-quad-requires : goal.quad_at-quad-requires
quad_at-quad-requires c = omega (arith, c.requires, room (painted c.args.plane.now c.args.quads.now c.paint_sheet.ensures c.in-Ok.is), c.paint_sheet.auto)

-- which can be sampled on the plane that was left
sampleable : (t : In-Ok) → Sampleable t.paint_sheet.new.plane t.args.frame t.args.family (quad_at t.paint_sheet.new.quads t.args.position)
sampleable t =
    let a = t.args in
    position_sampleable a.plane.now a.frame a.family a.codes.now a.grid a.print a.quads.now a.position t.requires t.paint_sheet.new.plane t.paint_sheet.new.quads (took t)

pub invariant_of-shown : goal.invariant_of-shown
invariant_of-shown c = record { framed = (sampleable (goal.at.invariant_of-shown c).In-Ok).readable.framed }

pub read_lit-requires : goal.read_lit-requires
read_lit-requires c =
    subst (Sampleable c.paint_sheet.new.plane c.args.frame c.args.family) (sym c.quad_at-quad.ensures) (sampleable (goal.at.read_lit-requires c).In-Ok)

pub returns-in-Err : goal.returns-in-Err
returns-in-Err c =
    let a = c.args in
    let r = c.unpainted.ensures in
    sheet_lit_then_read a.plane.now a.frame a.family a.codes.now a.grid a.print a.quads.now a.position c.requires c.paint_sheet.new.plane c.paint_sheet.new.quads
    a.picture.now a.pitch a.start (done c.paint_sheet.result) _ _ c.paint_sheet.ensures
    (r.0 ∙ sym (ap (λ (x : Result (Unit {0}) Refusal). lit_sheet a.frame a.family a.print a.position a.picture.now a.pitch c.paint_sheet.new.plane c.paint_sheet.new.quads (done x)) c.in-Err.is))
    (r.1 ∙ sym (ap (λ (x : Result (Unit {0}) Refusal). read_sheet_picture a.frame a.family a.codes.now a.position a.picture.now a.pitch a.start c.paint_sheet.new.quads (done x)) c.in-Err.is))

pub returns-in-Ok : goal.returns-in-Ok
returns-in-Ok c =
    let a = c.args in
    let r = c.read_lit.ensures in
    let quad = c.quad_at-quad.ensures in
    sheet_lit_then_read a.plane.now a.frame a.family a.codes.now a.grid a.print a.quads.now a.position c.requires c.paint_sheet.new.plane c.paint_sheet.new.quads
    a.picture.now a.pitch a.start (done c.paint_sheet.result) _ _ c.paint_sheet.ensures
    (r.worked_out ∙ ap (λ (x : Quad). lit_picture c.paint_sheet.new.plane a.frame a.print.light a.family x a.picture.now a.pitch) quad
    ∙ sym (ap (λ (x : Result (Unit {0}) Refusal). lit_sheet a.frame a.family a.print a.position a.picture.now a.pitch c.paint_sheet.new.plane c.paint_sheet.new.quads (done x)) c.in-Ok.is))
    (r.read ∙ ap (λ (x : Quad). decode_quad a.picture.now (at_pitch a.frame a.pitch) a.family a.codes.now (turned_left a.start x)) quad
    ∙ sym (ap (λ (x : Result (Unit {0}) Refusal). read_sheet_picture a.frame a.family a.codes.now a.position a.picture.now a.pitch a.start c.paint_sheet.new.quads (done x)) c.in-Ok.is))
