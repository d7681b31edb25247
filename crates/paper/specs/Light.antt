-- Ticket 8 of document 02: "Real sheets are not two flat greys. The painted tag's guarantee should hold for every picture of the painted plane's
-- width and height in which each sampled dark module is at least 10 below the middle, each light one at least 10 above it, and greatest and least
-- are at least 50 apart. The middle is that of document 01, over the samples taken. The rest of the picture may hold anything." Said of the
-- definitions that the public entries are proved equal to. Assumes nothing.
use Rattle.std.specs.Prelude.{◌≡◌, Bool, true, false, ◌&&◌, List, ℕ, ◌+◌, ◌-◌, ◌<◌, leb, eqb, Float, length, get_or}
use Rattle.lists.specs.Each.{each}
use Rattle.refusals.specs.Outcome.{accepted}
use Rattle.refusals.specs.Pixels.{bad_frame}
use Rattle.refusals.specs.declared.Frame.{Frame}
use Rattle.points.specs.declared.Quad.{Quad}
use Rattle.points.specs.Turned.{turned_left}
use Rattle.points.specs.Numbers.{quad_at, corners_at}
use Rattle.tables.specs.declared.Family.{Family}
use Rattle.places.specs.Place.{axes_of}
use Rattle.levels.specs.Levels.{least_of, greatest_of, middle_of}
use Rattle.painter.specs.declared.Print.{Print}
use Rattle.grid.specs.Quads.{tag_count}
use Rattle.grid.specs.declared.Grid.{Grid}
use Rattle.reader.specs.Reading.{levels_of, Tag}
use Rattle.listing.specs.Listing.{row_of, corners_of, row_at}
use Rattle.muosleap.specs.Quads.{decode_quads}
use Rattle.paper.specs.Demand3.{Passes, Painted, print_order, own_turn, own_tag, ReadsOwn}
use Rattle.paper.specs.Sheet.{SheetPainted}
use Rattle.paper.specs.Repeated.{EachOnce}

-- ---- a picture that is lit well enough

-- how far a level has to be from the middle
abbrev pub clearance : ℕ
clearance = 10

-- "each light one at least 10 above it", "each sampled dark module is at least 10 below the middle": the level of a module that was painted light, or dark
abbrev pub clears : (middle : ℕ) → (painted_light : Bool) → (level : ℕ) → Bool
clears middle true level = leb (middle + clearance) level
clears middle false level = leb (level + clearance) middle

-- of sample k: the painted plane shows the light shade there, or else the dark one; `light` is that shade
abbrev pub clears_at : (middle light : ℕ) → (painted levels : List ℕ) → ℕ → Bool
clears_at middle light painted levels k = clears middle (eqb (get_or painted k 0) light) (get_or levels k 0)

-- "greatest and least are at least 50 apart"
abbrev pub least_contrast : ℕ
least_contrast = 50

abbrev pub contrasts : List ℕ → Bool
contrasts levels = leb least_contrast (greatest_of levels - least_of levels)

-- both, of the levels at some samples, and of what was painted at each
unfoldable pub lit_levels : (middle light : ℕ) → (painted levels : List ℕ) → Bool
unfolding each
lit_levels middle light painted levels =
    contrasts levels && each (length levels) (clears_at middle light painted levels)

-- the samples of a quad: what is `shown` at them by the painted plane, which `frame` describes, and their levels in the picture, which `seen`
-- describes. "The middle is that of document 01, over the samples taken."
unfoldable pub is_lit : (shown : List ℕ) → Frame → (light : ℕ) → Family → Quad → (picture : List ℕ) → Frame → Bool
unfolding lit_levels levels_of
is_lit shown frame light family quad picture seen =
    let levels = levels_of picture seen family (axes_of quad) in
    lit_levels (middle_of levels) light (levels_of shown frame family (axes_of quad)) levels

-- "every picture of the painted plane's width and height", at any pitch, "in which .."; "The rest of the picture may hold anything."
pub record Lit (shown : List ℕ) (frame : Frame) (light : ℕ) (family : Family) (quad : Quad) (picture : List ℕ) (seen : Frame) : Type 0 where
  pub wide : seen.width ≡ frame.width
  pub high : seen.height ≡ frame.height
  -- it is a picture: refusal 1 lets it through
  pub planes : bad_frame (length picture) seen ≡ false
  pub samples : is_lit shown frame light family quad picture seen ≡ true

-- ---- the whole ticket

pub record Light : Type 0 where
  -- "The painted tag's guarantee should hold": what demand 3 says of the painter's plane, of every such picture
  pub tags : (family : Family) (codes : List ℕ) (id word : ℕ) (plane : List ℕ) (frame : Frame) (print : Print) (quad : Quad) (shown : List ℕ)
      → Painted family codes id word plane frame print quad shown
      → (picture : List ℕ) (seen : Frame) → Lit shown frame print.light family quad picture seen → (s : ℕ) → s < 4 → ReadsOwn family codes id word seen quad picture s
  -- the same for each tag of a painted sheet whose own samples are so lit, whatever the rest of the sheet shows; no module of it is misprinted
  pub sheet_tags : (family : Family) (codes : List ℕ) (grid : Grid) (print : Print) (plane : List ℕ) (frame : Frame) (quads : List Float) (shown : List ℕ) (written : List Float)
      → SheetPainted family codes grid print plane frame quads shown written → Passes family codes → (position : ℕ) → position < tag_count grid → let quad = quad_at written position in
      (picture : List ℕ) (seen : Frame) → Lit shown frame print.light family quad picture seen → (s : ℕ) → s < 4
      → ReadsOwn family codes position (get_or codes position 0) seen quad picture s
      × (own_tag codes position (get_or codes position 0) quad s ≡ record { id = position; turn = own_turn s; differing = 0; corners = print_order quad })
  -- and a list of the sheet's quads, each once, from whatever starts, reads whole where all of its tags are so lit, as ticket 4 has it of the painted sheet
  pub sheet_list : (family : Family) (codes : List ℕ) (grid : Grid) (print : Print) (plane : List ℕ) (frame : Frame) (output : List Float) (shown : List ℕ) (written : List Float)
      → SheetPainted family codes grid print plane frame output shown written → Passes family codes → (picture : List ℕ) (seen : Frame)
      → (quads : List Float) (rows : List ℕ) (corners : List Float) (n : ℕ) → let result = decode_quads picture seen family codes quads rows corners in
      result.answer ≡ accepted n → (each : EachOnce written quads (tag_count grid) n)
      → ((i : ℕ) → i < n → Lit shown frame print.light family (quad_at written (each.position i)) picture seen) → (i : ℕ) → i < n
      → let position = each.position i in
      let tag : Tag = record { id = position; turn = own_turn (each.start i); differing = 0; corners = print_order (quad_at written position) } in
      (row_at result.rows i ≡ row_of (accepted tag)) × (corners_at result.corners i ≡ corners_of (accepted tag))
  -- the painter's own plane is such a picture, so demand 3's first half follows; and so is a painted sheet, of each of its tags
  pub own_plane : (family : Family) (codes : List ℕ) (id word : ℕ) (plane : List ℕ) (frame : Frame) (print : Print) (quad : Quad) (shown : List ℕ)
      → Painted family codes id word plane frame print quad shown → Lit shown frame print.light family quad shown frame
  pub own_sheet : (family : Family) (codes : List ℕ) (grid : Grid) (print : Print) (plane : List ℕ) (frame : Frame) (quads : List Float) (shown : List ℕ) (written : List Float)
      → SheetPainted family codes grid print plane frame quads shown written → Passes family codes → (position : ℕ) → position < tag_count grid
      → Lit shown frame print.light family (quad_at written position) shown frame
  -- from each start of a quad the same samples are taken: they are lit from all of them, or from none
  pub any_start : (shown : List ℕ) (frame : Frame) (light : ℕ) (family : Family) (quad : Quad) (picture : List ℕ) (seen : Frame) (s : ℕ)
      → is_lit shown frame light family (turned_left s quad) picture seen ≡ is_lit shown frame light family quad picture seen
