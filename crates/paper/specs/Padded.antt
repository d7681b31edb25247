-- Ticket 1 of document 02: "Whatever the filler holds, a plane reads and paints as its lines without filler did before." Said of the
-- definitions that the public entries are proved equal to. Assumes nothing.
use Rattle.std.specs.Prelude.{◌≡◌, false, List, [], ◌++◌, ℕ, zero, suc, ◌+◌, ◌*◌, ◌/◌, ◌%◌, ◌≤◌, ◌<◌, Float, length, get_or, take, drop}
use Rattle.lists.specs.Tab.{tabulate}
use Rattle.refusals.specs.Outcome.{Outcome, Done}
use Rattle.refusals.specs.Plane.{bad_plane}
use Rattle.refusals.specs.Pixels.{packed_frame, bad_frame, place_of, level_at}
use Rattle.refusals.specs.declared.Frame.{Frame}
use Rattle.points.specs.declared.Quad.{Quad}
use Rattle.tables.specs.declared.Family.{Family}
use Rattle.painter.specs.Tag.{painted_pixel, painted}
use Rattle.painter.specs.declared.Print.{Print}
use Rattle.grid.specs.declared.Grid.{Grid}
use Rattle.muosleap_paint.specs.PaintTag.{Painting, paint_tag, paint_tag_in}
use Rattle.muosleap_paint.specs.PaintSheet.{SheetPainting, paint_sheet, paint_sheet_in}
use Rattle.muosleap.specs.Quad.{decode_quad, decode_quad_in}
use Rattle.muosleap.specs.Quads.{decode_quads, decode_quads_in}

-- ---- lines without filler

-- the first `width` of every `pitch` bytes, n times
unfoldable pub lines_of : (width pitch n : ℕ) → List ℕ → List ℕ
lines_of width pitch zero bytes = []
lines_of width pitch (suc n) bytes = take width bytes ++ lines_of width pitch n (drop pitch bytes)

-- "its lines without filler"
abbrev pub without_filler : Frame → List ℕ → List ℕ
without_filler frame plane = lines_of frame.width frame.pitch frame.height plane

-- and their description, where the pitch is the width
abbrev pub packed : Frame → Frame
packed frame = packed_frame frame.width frame.height

-- "whatever the filler holds": two planes of one width and one height, each at a pitch of its own, that agree off their filler
pub record SamePixels (plane : List ℕ) (frame : Frame) (other : List ℕ) (frame' : Frame) : Type 0 where
  pub widths : frame.width ≡ frame'.width
  pub heights : frame.height ≡ frame'.height
  pub pixels : (x y : ℕ) → x < frame.width → y < frame.height → level_at plane frame x y ≡ level_at other frame' x y

-- "The painter leaves filler as it found it.": the bytes of each line from the width up to the pitch
pub record LeavesFiller (frame : Frame) (before after : List ℕ) : Type 0 where
  pub as_long : length after ≡ length before
  pub filler : (x y : ℕ) → frame.width ≤ x → x < frame.pitch → let k = y * frame.pitch + x in
      k < length before → get_or after k 0 ≡ get_or before k 0

-- ---- one entry, all else that it is given held fast

-- a reader: what it makes of a plane
pub record ReadsAlike {A : Type 0} (read : List ℕ → Frame → A) : Type 0 where
  -- "a plane reads .. as its lines without filler": every plane that refusal 1 lets through
  pub lines : (plane : List ℕ) (frame : Frame) → bad_frame (length plane) frame ≡ false → read plane frame ≡ read (without_filler frame plane) (packed frame)
  -- two planes that agree off their filler read alike
  pub same : (plane : List ℕ) (frame : Frame) (other : List ℕ) (frame' : Frame) → bad_frame (length plane) frame ≡ false → bad_frame (length other) frame' ≡ false
      → SamePixels plane frame other frame' → read plane frame ≡ read other frame'

-- a painter: what it tells, and the plane that it leaves
pub record PaintsAlike {P A : Type 0} (told : P → A) (left : P → List ℕ) (paint : List ℕ → Frame → P) : Type 0 where
  -- "a plane .. paints as its lines without filler": to paint and then take the filler out is to take the filler out and then paint
  pub lines : (plane : List ℕ) (frame : Frame) → bad_frame (length plane) frame ≡ false
      → (told (paint plane frame) ≡ told (paint (without_filler frame plane) (packed frame)))
      × (without_filler frame (left (paint plane frame)) ≡ left (paint (without_filler frame plane) (packed frame)))
  -- on every plane, also where the call is refused
  pub filler : (plane : List ℕ) (frame : Frame) → LeavesFiller frame plane (left (paint plane frame))
  -- two planes that agree off their filler paint alike: one answer, and they still agree
  pub same : (plane : List ℕ) (frame : Frame) (other : List ℕ) (frame' : Frame) → bad_frame (length plane) frame ≡ false → bad_frame (length other) frame' ≡ false
      → SamePixels plane frame other frame'
      → (told (paint plane frame) ≡ told (paint other frame')) × SamePixels (left (paint plane frame)) frame (left (paint other frame')) frame'

-- a tag's painting and a sheet's
abbrev pub PaintsTagAlike : (List ℕ → Frame → Painting) → Type 0
PaintsTagAlike paint = PaintsAlike (λ (p : Painting). p.answer) (λ (p : Painting). p.plane) paint

abbrev pub PaintsSheetAlike : (List ℕ → Frame → SheetPainting) → Type 0
PaintsSheetAlike paint = PaintsAlike {A = Outcome Done × List Float} (λ (p : SheetPainting). (p.answer, p.quads)) (λ (p : SheetPainting). p.plane) paint

-- ---- the whole ticket

pub record Padded : Type 0 where
  -- "Quad reader, list reader and painter all take it.", the painter of whole sheets too
  pub quad : (family : Family) (codes : List ℕ) (quad : Quad) → ReadsAlike (λ plane frame. decode_quad plane frame family codes quad)
  pub quad_in : (number : ℕ) (quad : Quad) → ReadsAlike (λ plane frame. decode_quad_in plane frame number quad)
  pub quads : (family : Family) (codes : List ℕ) (quads : List Float) (rows : List ℕ) (corners : List Float)
      → ReadsAlike (λ plane frame. decode_quads plane frame family codes quads rows corners)
  pub quads_in : (number : ℕ) (quads : List Float) (rows : List ℕ) (corners : List Float) → ReadsAlike (λ plane frame. decode_quads_in plane frame number quads rows corners)
  pub paint : (edge border word : ℕ) (print : Print) → PaintsTagAlike (λ plane frame. paint_tag plane frame edge border word print)
  pub paint_in : (family word : ℕ) (print : Print) → PaintsTagAlike (λ plane frame. paint_tag_in plane frame family word print)
  pub sheet : (family : Family) (codes : List ℕ) (grid : Grid) (print : Print) (quads : List Float)
      → PaintsSheetAlike (λ plane frame. paint_sheet plane frame family codes grid print quads)
  pub sheet_in : (number : ℕ) (grid : Grid) (print : Print) (quads : List Float) → PaintsSheetAlike (λ plane frame. paint_sheet_in plane frame number grid print quads)
  -- "did before": where the pitch is the width, refusal 1, the place of a pixel and the painted plane are those of document 01
  pub before_1 : (len width height : ℕ) → bad_frame len (packed_frame width height) ≡ bad_plane len width height
  pub before_place : (width height x y : ℕ) → place_of (packed_frame width height) x y ≡ y * width + x
  pub before_painted : (width height edge border word : ℕ) (print : Print) (plane : List ℕ) → 0 < width
      → painted (packed_frame width height) edge border word print plane
      ≡ tabulate (length plane) (λ k. painted_pixel edge border word print (k % width) (k / width))
