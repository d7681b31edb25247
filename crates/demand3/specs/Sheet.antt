-- What tickets 3 and 4 of 02 say of the functions that paint a sheet and read one of its quads, or the list of all of them. `paper`'s Sheet and
-- Repeated have the laws themselves. Assumes nothing.
use Rattle.std.specs.Prelude.{◌≡◌, List, ℕ, ◌*◌, ◌≤◌, ◌<◌, Float, length, take}
use Rattle.refusals.specs.Outcome.{Outcome, accepted, refused, Done}
use Rattle.refusals.specs.declared.Frame.{Frame}
use Rattle.points.specs.Turned.{turned_left}
use Rattle.points.specs.Numbers.{quad_size, quad_at, corners_at}
use Rattle.tables.specs.declared.Family.{Family}
use Rattle.painter.specs.declared.Print.{Print}
use Rattle.grid.specs.Quads.{tag_count}
use Rattle.grid.specs.declared.Grid.{Grid}
use Rattle.reader.specs.Reading.{Tag}
use Rattle.listing.specs.Listing.{row_size, Listing, listing_of, row_of, corners_of, row_at}
use Rattle.muosleap.specs.Quad.{decode_quad}
use Rattle.muosleap.specs.Quads.{decode_quads}
use Rattle.muosleap_paint.specs.PaintSheet.{paint_sheet}
use Rattle.paper.specs.Demand3.{Passes, print_order, own_turn}

-- start s of the quad at a position, on the plane as the painter left it; where the painter refuses there is no quad to read, and its number stands
abbrev pub read_sheet : Frame → Family → List ℕ → (position s : ℕ) → List ℕ → List Float → Outcome Done → Outcome Tag
read_sheet frame family codes position s shown written (accepted done) = decode_quad shown frame family codes (turned_left s (quad_at written position))
read_sheet frame family codes position s shown written (refused n) = refused n

-- a sheet is painted and start s of one of its quads read, with this answer, and with plane and quads left so
pub record SheetThenRead (plane : List ℕ) (frame : Frame) (family : Family) (codes : List ℕ) (grid : Grid) (print : Print)
    (quads : List Float) (position s : ℕ) (answer : Outcome Tag) (left : List ℕ) (written : List Float) : Type 0 where
  -- plane and quads are the painter's, whether it paints or refuses
  pub shown : left ≡ (paint_sheet plane frame family codes grid print quads).plane
  pub quads_written : written ≡ (paint_sheet plane frame family codes grid print quads).quads
  -- the answer is the quad reader's on that plane, or the painter's refusal
  pub read : answer ≡ read_sheet frame family codes position s left written (paint_sheet plane frame family codes grid print quads).answer
  -- where the sheet is painted and the table passes the likeness check: "id the position, turn (4 − s) modulo 4, differing 0, corners in print order"
  pub own : (paint_sheet plane frame family codes grid print quads).answer ≡ accepted (record {}) → Passes family codes → s < 4
      → answer ≡ accepted (record { id = position; turn = own_turn s; differing = 0; corners = print_order (quad_at written position) })

-- the list of all the sheet's quads, on the plane as the painter left it; where the painter refuses, its number stands and both outputs are as they were
abbrev pub list_sheet : Frame → Family → List ℕ → Grid → List ℕ → List Float → List ℕ → List Float → Outcome Done → Listing
list_sheet frame family codes grid rows corners shown written (accepted done) = decode_quads shown frame family codes (take (quad_size * tag_count grid) written) rows corners
list_sheet frame family codes grid rows corners shown written (refused n) = listing_of (refused n) rows corners

-- a sheet is painted and the list of its quads read, with this result, and with plane and quads left so
pub record SheetThenListed (plane : List ℕ) (frame : Frame) (family : Family) (codes : List ℕ) (grid : Grid) (print : Print)
    (quads : List Float) (rows : List ℕ) (corners : List Float) (left : List ℕ) (written : List Float) (result : Listing) : Type 0 where
  pub shown : left ≡ (paint_sheet plane frame family codes grid print quads).plane
  pub quads_written : written ≡ (paint_sheet plane frame family codes grid print quads).quads
  -- the result is the list reader's on that plane, or the painter's refusal
  pub read : result ≡ list_sheet frame family codes grid rows corners left written (paint_sheet plane frame family codes grid print quads).answer
  -- where the sheet is painted, outputs with room for all its tags are enough
  pub answered : (paint_sheet plane frame family codes grid print quads).answer ≡ accepted (record {}) → row_size * tag_count grid ≤ length rows → quad_size * tag_count grid ≤ length corners
      → result.answer ≡ accepted (tag_count grid)
  -- and where the table passes the likeness check the list reads whole: of every tag, row and corner numbers are those of its position
  pub whole : (paint_sheet plane frame family codes grid print quads).answer ≡ accepted (record {}) → Passes family codes → (n : ℕ) → result.answer ≡ accepted n
      → (n ≡ tag_count grid) × ((position : ℕ) → position < n → let tag : Tag = record { id = position; turn = 0; differing = 0; corners = print_order (quad_at written position) } in
      (row_at result.rows position ≡ row_of (accepted tag)) × (corners_at result.corners position ≡ corners_of (accepted tag)))
