-- The painter's answer, taken apart; then `sheet_then_listed`. Assumes nothing.
use mathlib.Core.Path.{sym, ap, ◌∙◌}
use Prim.Native.Nat.{◌*◌}
use native.Mathlib.Omega.{arith}
use lib.ListN.{length}
use lib.Seq.{length-take-le}
use Rattle.std.specs.Prelude.{Result}
use Rattle.refusals.specs.Numbers.{done}
use Rattle.refusals.specs.declared.refusal.Refusal.{Refusal}
use Rattle.points.specs.Numbers.{quad_size}
use Rattle.grid.specs.Quads.{tag_count}
use Rattle.grid.specs.Sheetable.{Sheetable}
use Rattle.grid.proofs.Sheetable.{room}
use Rattle.muosleap_paint.proofs.PaintSheet.{painted}
use Rattle.demand3.specs.Sheet.{list_sheet}
use Rattle.demand3.proofs.Sheet.{few, sheet_then_listed}
use Rattle.demand3.proofs.paint_sheet_then_list.Goals.{In_ok-paint_sheet}
use Rattle.demand3.proofs.paint_sheet_then_list.Goals as goal

-- the sheet is painted
sheets : (t : In_ok-paint_sheet) → let a = t.args in Sheetable (length a.plane.now) a.frame a.family a.codes.now a.grid a.print (length a.quads.now)
sheets t = painted t.args.plane.now t.args.quads.now t.paint_sheet.ensures t.in_ok-paint_sheet.was

pub overflow_mul-list : goal.overflow_mul-list
overflow_mul-list c = omega (arith, few (sheets (goal.at.overflow_mul-list c).In_ok-paint_sheet))

pub overflow_mul-list-2 : goal.overflow_mul-list-2
overflow_mul-list-2 c = omega (arith, few (sheets (goal.at.overflow_mul-list-2 c).In_ok-paint_sheet))

-- and has a quad for each tag
pub slice_bounds-list-end : goal.slice_bounds-list-end
slice_bounds-list-end c = omega (arith, room (sheets (goal.at.slice_bounds-list-end c).In_ok-paint_sheet), c.paint_sheet.auto.quads)

pub slice_bounds-list-end-2 : goal.slice_bounds-list-end-2
slice_bounds-list-end-2 c =
    sym (length-take-le (quad_size * tag_count c.args.grid) c.paint_sheet.new.quads (omega (arith, room (sheets (goal.at.slice_bounds-list-end-2 c).In_ok-paint_sheet), c.paint_sheet.auto.quads)))

pub returns : goal.returns
returns c =
    let a = c.args in
    let left = c.paint_sheet.new.plane in
    let written = c.paint_sheet.new.quads in
    sheet_then_listed a.plane.now a.frame a.family a.codes.now a.grid a.print a.quads.now a.rows.now a.corners.now
    (done c.paint_sheet.result) left written _ (c.paint_sheet.auto.plane, c.paint_sheet.auto.quads) c.paint_sheet.ensures
    (c.try_decode_quads.ensures
    ∙ sym (ap (λ (x : Result (Unit {0}) Refusal). list_sheet a.frame a.family a.codes.now a.grid a.rows.now a.corners.now left written (done x)) c.in_ok-paint_sheet.was))
