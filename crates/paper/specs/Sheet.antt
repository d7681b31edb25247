-- Ticket 3 of document 02: "Each tag of the grid must read as the single painted tag does, at all four starts, if the table passes the
-- likeness check." Said of the definitions that the public entries are proved equal to. Assumes nothing.
use Rattle.std.specs.Prelude.{◌≡◌, true, List, ℕ, ◌<◌, Float, get_or}
use Rattle.refusals.specs.Outcome.{accepted}
use Rattle.refusals.specs.Pixels.{level_at}
use Rattle.refusals.specs.declared.Frame.{Frame}
use Rattle.points.specs.declared.Quad.{Quad}
use Rattle.points.specs.Turned.{turned_left}
use Rattle.points.specs.Numbers.{quad_at}
use Rattle.tables.specs.declared.Family.{Family}
use Rattle.tag_families.specs.Families.{family_of, codes_of}
use Rattle.painter.specs.Picture.{in_block}
use Rattle.painter.specs.declared.Print.{Print}
use Rattle.grid.specs.Sheet.{tag_size}
use Rattle.grid.specs.Quads.{tag_count, position_print}
use Rattle.grid.specs.declared.Grid.{Grid}
use Rattle.muosleap.specs.Quad.{decode_quad}
use Rattle.muosleap_paint.specs.PaintTag.{Painting, paint_tag}
use Rattle.muosleap_paint.specs.PaintSheet.{painting_of, paint_sheet, paint_sheet_in}
use Rattle.paper.specs.Demand3.{Passes, print_order, own_turn, own_tag, ReadsOwn}

-- what is painted, and on what: the entry takes the sheet, leaves the plane as shown and the quads as written
abbrev pub SheetPainted : Family → List ℕ → Grid → Print → List ℕ → Frame → List Float → List ℕ → List Float → Type 0
SheetPainted family codes grid print plane frame quads shown written =
    paint_sheet plane frame family codes grid print quads ≡ painting_of (accepted (record {})) shown written

-- "the single painted tag": the code of a position, painted alone where the sheet has it
abbrev pub single : Family → List ℕ → Grid → Print → List ℕ → Frame → ℕ → Painting
single family codes grid print plane frame position =
    paint_tag plane frame family.edge family.border (get_or codes position 0) (position_print family grid print position)

-- the tag of a position, whatever the table
pub record Shows (family : Family) (codes : List ℕ) (grid : Grid) (print : Print) (plane : List ℕ) (frame : Frame) (shown : List ℕ) (written : List Float) (position : ℕ) : Type 0 where
  -- "It also writes the quads, in that order.": the single painter takes the tag, and its quad stands at the position
  pub quad : (single family codes grid print plane frame position).answer ≡ accepted (quad_at written position)
  -- in its own square the sheet shows what the single painter paints
  pub square : (x y : ℕ) → x < frame.width → y < frame.height → let tag = position_print family grid print position in
      in_block tag.x tag.y (tag_size family print) (tag_size family print) x y ≡ true
      → level_at shown frame x y ≡ level_at (single family codes grid print plane frame position).plane frame x y

-- start s of the tag of a position, with a table that passes the likeness check
pub record Reads (family : Family) (codes : List ℕ) (grid : Grid) (print : Print) (plane : List ℕ) (frame : Frame) (quad : Quad) (shown : List ℕ) (position s : ℕ) : Type 0 where
  -- "must read as the single painted tag does"
  pub as_single : decode_quad shown frame family codes (turned_left s quad) ≡ decode_quad (single family codes grid print plane frame position).plane frame family codes (turned_left s quad)
  -- alone and in every accepted list reading of the sheet that holds it, as demand 3 has it of the single tag, with ticket 4's condition; its own
  -- number is the position ..
  pub own : ReadsOwn family codes position (get_or codes position 0) frame quad shown s
  -- .. and no module is misprinted
  pub tag : own_tag codes position (get_or codes position 0) quad s ≡ record { id = position; turn = own_turn s; differing = 0; corners = print_order quad }

-- ---- the whole ticket

pub record Sheets : Type 0 where
  pub shows : (family : Family) (codes : List ℕ) (grid : Grid) (print : Print) (plane : List ℕ) (frame : Frame) (quads : List Float) (shown : List ℕ) (written : List Float)
      → SheetPainted family codes grid print plane frame quads shown written → (position : ℕ) → position < tag_count grid
      → Shows family codes grid print plane frame shown written position
  pub reads : (family : Family) (codes : List ℕ) (grid : Grid) (print : Print) (plane : List ℕ) (frame : Frame) (quads : List Float) (shown : List ℕ) (written : List Float)
      → SheetPainted family codes grid print plane frame quads shown written → Passes family codes → (position : ℕ) → position < tag_count grid → (s : ℕ) → s < 4
      → Reads family codes grid print plane frame (quad_at written position) shown position s
  -- the entry by family number is the one with the family's table
  pub by_number : (number : ℕ) → number < 5 → (plane : List ℕ) (frame : Frame) (grid : Grid) (print : Print) (quads : List Float)
      → paint_sheet_in plane frame number grid print quads ≡ paint_sheet plane frame (family_of number) (codes_of number) grid print quads
