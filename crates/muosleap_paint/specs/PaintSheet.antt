-- The entries that paint a whole sheet, from ticket 3 of 02: "6 for the whole table; 17, ..; tested after 14's cell, turn and light. 16 ..
-- comes after 17." Assumes nothing.
use Rattle.std.specs.Prelude.{ℕ, not, cond, List, Float, length}
use Rattle.lists.specs.Front.{in_front}
use Rattle.refusals.specs.Outcome.{Outcome, accepted, refused, Done}
use Rattle.refusals.specs.Pixels.{bad_frame}
use Rattle.refusals.specs.declared.Frame.{Frame}
use Rattle.tables.specs.Table.{bad_table}
use Rattle.tables.specs.declared.Family.{Family}
use Rattle.tag_families.specs.Families.{is_family, family_of, codes_of}
use Rattle.painter.specs.Picture.{repainted}
use Rattle.painter.specs.Printable.{bad_style}
use Rattle.painter.specs.declared.Print.{Print}
use Rattle.grid.specs.Sheet.{sheet}
use Rattle.grid.specs.Quads.{sheet_quads}
use Rattle.grid.specs.Refused.{bad_grid, bad_output}
use Rattle.grid.specs.declared.Grid.{Grid}

-- a sheet's painting: what it answers, the plane afterwards, and the output for the quads
pub record SheetPainting : Type 0 where
  pub answer : Outcome Done
  pub plane : List ℕ
  pub quads : List Float

abbrev pub painting_of : Outcome Done → List ℕ → List Float → SheetPainting
painting_of answer plane quads = record { answer = answer; plane = plane; quads = quads }

-- with a lent table: refusals 1, 6, 14, 17 and 16 in this order, each of which leaves plane and output as they were
unfoldable pub paint_sheet : List ℕ → Frame → Family → List ℕ → Grid → Print → List Float → SheetPainting
unfolding bad_frame bad_table bad_grid repainted sheet_quads
paint_sheet plane frame family codes grid print quads =
    cond (bad_frame (length plane) frame) (painting_of (refused 1) plane quads)
    (cond (bad_table family codes) (painting_of (refused 6) plane quads)
    (cond (bad_style print) (painting_of (refused 14) plane quads)
    (cond (bad_grid frame family (length codes) grid print) (painting_of (refused 17) plane quads)
    (cond (bad_output grid (length quads)) (painting_of (refused 16) plane quads)
    (painting_of (accepted (record {})) (sheet frame family codes grid print plane) (in_front (sheet_quads family grid print) quads))))))

-- the same by the number of a family, with its table; 6 where there is no such family
unfoldable pub paint_sheet_in : List ℕ → Frame → ℕ → Grid → Print → List Float → SheetPainting
unfolding bad_frame paint_sheet
paint_sheet_in plane frame number grid print quads =
    cond (bad_frame (length plane) frame) (painting_of (refused 1) plane quads)
    (cond (not (is_family number)) (painting_of (refused 6) plane quads)
    (paint_sheet plane frame (family_of number) (codes_of number) grid print quads))
