-- What ticket 8 of 02 says of the functions that paint a tag or a sheet and read it in a picture: "The painted tag's guarantee should hold for every
-- picture of the painted plane's width and height in which ..". `paper`'s Light has the law itself. Assumes nothing.
use Rattle.std.specs.Prelude.{◌≡◌, Bool, true, false, not, ◌&&◌, List, ℕ, ◌<◌, Float, length, get_or}
use Rattle.refusals.specs.Outcome.{Outcome, accepted, refused, Done}
use Rattle.refusals.specs.Pixels.{bad_frame, at_pitch}
use Rattle.refusals.specs.declared.Frame.{Frame}
use Rattle.points.specs.declared.Quad.{Quad}
use Rattle.points.specs.Turned.{turned_left}
use Rattle.points.specs.Numbers.{quad_at}
use Rattle.tables.specs.declared.Family.{Family}
use Rattle.painter.specs.declared.Print.{Print}
use Rattle.grid.specs.declared.Grid.{Grid}
use Rattle.reader.specs.Reading.{Tag}
use Rattle.muosleap.specs.Quad.{decode_quad}
use Rattle.muosleap_paint.specs.PaintTag.{paint_tag}
use Rattle.muosleap_paint.specs.PaintSheet.{paint_sheet}
use Rattle.paper.specs.Demand3.{Passes, Painted, print_order, own_turn, own_tag, ReadsOwn}
use Rattle.paper.specs.Light.{is_lit}

-- whether the samples of a quad are lit well enough in a picture of the painted plane's width and height, at a pitch of its own; not where it is no
-- picture that refusal 1 lets through
abbrev pub lit_picture : (shown : List ℕ) → Frame → (light : ℕ) → Family → Quad → (picture : List ℕ) → (pitch : ℕ) → Bool
lit_picture shown frame light family quad picture pitch =
    not (bad_frame (length picture) (at_pitch frame pitch)) && is_lit shown frame light family quad picture (at_pitch frame pitch)

-- ---- a tag

-- where the painter refuses there is no quad to look at: its number stands, and no picture is lit
abbrev pub lit_print : Frame → Family → Print → (picture : List ℕ) → (pitch : ℕ) → (shown : List ℕ) → Outcome Quad → Bool
lit_print frame family print picture pitch shown (accepted quad) = lit_picture shown frame print.light family quad picture pitch
lit_print frame family print picture pitch shown (refused n) = false

abbrev pub read_picture : Frame → Family → List ℕ → (picture : List ℕ) → (pitch s : ℕ) → Outcome Quad → Outcome Tag
read_picture frame family codes picture pitch s (accepted quad) = decode_quad picture (at_pitch frame pitch) family codes (turned_left s quad)
read_picture frame family codes picture pitch s (refused n) = refused n

-- a tag is painted, and its start s read in a picture, with this answer and this plane left
pub record LitThenRead (plane : List ℕ) (frame : Frame) (family : Family) (codes : List ℕ) (word : ℕ) (print : Print) (picture : List ℕ) (pitch s : ℕ)
    (lit : Bool) (answer : Outcome Tag) (left : List ℕ) : Type 0 where
  -- the plane is the painter's, whether it paints or refuses
  pub shown : left ≡ (paint_tag plane frame family.edge family.border word print).plane
  -- whether the painted tag's samples are lit well enough in the picture
  pub worked_out : lit ≡ lit_print frame family print picture pitch left (paint_tag plane frame family.edge family.border word print).answer
  -- the answer is the quad reader's on the picture, or the painter's refusal
  pub read : answer ≡ read_picture frame family codes picture pitch s (paint_tag plane frame family.edge family.border word print).answer
  -- the guarantee: a tag painted under demand 3's conditions, in a picture in which it is so lit, is read as demand 3 says of the painter's own plane;
  -- so it is in every accepted list reading of the picture, too
  pub own : (id : ℕ) (quad : Quad) (painted : List ℕ) → Painted family codes id word plane frame print quad painted → s < 4 → lit ≡ true
      → (answer ≡ accepted (own_tag codes id word quad s)) × ReadsOwn family codes id word (at_pitch frame pitch) quad picture s

-- ---- a sheet

abbrev pub lit_sheet : Frame → Family → Print → (position : ℕ) → (picture : List ℕ) → (pitch : ℕ) → (shown : List ℕ) → (written : List Float) → Outcome Done → Bool
lit_sheet frame family print position picture pitch shown written (accepted done) = lit_picture shown frame print.light family (quad_at written position) picture pitch
lit_sheet frame family print position picture pitch shown written (refused n) = false

abbrev pub read_sheet_picture : Frame → Family → List ℕ → (position : ℕ) → (picture : List ℕ) → (pitch s : ℕ) → (written : List Float) → Outcome Done → Outcome Tag
read_sheet_picture frame family codes position picture pitch s written (accepted done) = decode_quad picture (at_pitch frame pitch) family codes (turned_left s (quad_at written position))
read_sheet_picture frame family codes position picture pitch s written (refused n) = refused n

-- a sheet is painted, and start s of one of its quads read in a picture, with this answer, and with plane and quads left so
pub record SheetLitThenRead (plane : List ℕ) (frame : Frame) (family : Family) (codes : List ℕ) (grid : Grid) (print : Print) (quads : List Float) (position : ℕ)
    (picture : List ℕ) (pitch s : ℕ) (lit : Bool) (answer : Outcome Tag) (left : List ℕ) (written : List Float) : Type 0 where
  pub shown : left ≡ (paint_sheet plane frame family codes grid print quads).plane
  pub quads_written : written ≡ (paint_sheet plane frame family codes grid print quads).quads
  pub worked_out : lit ≡ lit_sheet frame family print position picture pitch left written (paint_sheet plane frame family codes grid print quads).answer
  pub read : answer ≡ read_sheet_picture frame family codes position picture pitch s written (paint_sheet plane frame family codes grid print quads).answer
  -- the guarantee, for each tag of a painted sheet, whatever the rest of the picture shows
  pub own : (paint_sheet plane frame family codes grid print quads).answer ≡ accepted (record {}) → Passes family codes → s < 4 → lit ≡ true
      → (answer ≡ accepted (record { id = position; turn = own_turn s; differing = 0; corners = print_order (quad_at written position) }))
      × ReadsOwn family codes position (get_or codes position 0) (at_pitch frame pitch) (quad_at written position) picture s
