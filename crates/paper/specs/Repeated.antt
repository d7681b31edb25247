-- Ticket 4 of document 02: "in a list reading, every quad that shares its id with another becomes a refused row. Reading one quad is untouched; in
-- a list, what is promised of painted tags, single or in a grid, holds for each quad whose id no other quad of the list gives." Of painted tags
-- demand 3 says it. Said of the definitions that the public entries are proved equal to. Assumes nothing.
use Rattle.std.specs.Prelude.{◌≡◌, List, ℕ, ◌<◌, Float, get_or}
use Rattle.refusals.specs.Outcome.{Outcome, accepted, refused}
use Rattle.refusals.specs.declared.Frame.{Frame}
use Rattle.points.specs.declared.Quad.{Quad}
use Rattle.points.specs.Turned.{turned_left}
use Rattle.points.specs.Numbers.{quad_at, corners_at}
use Rattle.tables.specs.declared.Family.{Family}
use Rattle.painter.specs.declared.Print.{Print}
use Rattle.grid.specs.Quads.{tag_count}
use Rattle.grid.specs.declared.Grid.{Grid}
use Rattle.reader.specs.Reading.{Tag}
use Rattle.listing.specs.Listing.{row_of, corners_of, row_at}
use Rattle.muosleap.specs.Quad.{decode_quad, decode_quad_in}
use Rattle.muosleap.specs.Quads.{decode_quads, decode_quads_in}
use Rattle.paper.specs.Others.{Unshared, Shares}
use Rattle.paper.specs.Demand3.{Passes, print_order, own_turn}
use Rattle.paper.specs.Sheet.{SheetPainted}

-- the row and the corner numbers of the quad at place i of n, from what each quad reads as by itself
pub record ListedRow (read : ℕ → Outcome Tag) (n i : ℕ) (row : List ℕ) (corners : List Float) : Type 0 where
  -- the row is 18 if ..
  pub shared : Shares read n i → (row ≡ row_of (refused 18)) × (corners ≡ corners_of (refused 18))
  -- .. and only if the quad and some other quad of the list are read with the same id
  pub only_shared : get_or row 0 0 ≡ 18 → Shares read n i
  -- else both are those of the quad by itself
  pub alone : Unshared read n i → (row ≡ row_of (read i)) × (corners ≡ corners_of (read i))

-- a list of n quads of a painted sheet, each once, from whatever starts: some of them, or all where n is the number of tags
pub record EachOnce (written quads : List Float) (tags n : ℕ) : Type 0 where
  pub position : ℕ → ℕ
  pub start : ℕ → ℕ
  pub known : (i : ℕ) → i < n → position i < tags
  pub start_lt : (i : ℕ) → i < n → start i < 4
  pub quad : (i : ℕ) → i < n → quad_at quads i ≡ turned_left (start i) (quad_at written (position i))
  pub once : (i j : ℕ) → i < n → j < n → position i ≡ position j → i ≡ j

-- ---- the whole ticket

pub record Repeated : Type 0 where
  pub list : (plane : List ℕ) (frame : Frame) (family : Family) (codes : List ℕ) (quads : List Float) (rows : List ℕ) (corners : List Float) (n i : ℕ)
      → let result = decode_quads plane frame family codes quads rows corners in
      result.answer ≡ accepted n → i < n → ListedRow (λ j. decode_quad plane frame family codes (quad_at quads j)) n i (row_at result.rows i) (corners_at result.corners i)
  pub list_in : (plane : List ℕ) (frame : Frame) (number : ℕ) (quads : List Float) (rows : List ℕ) (corners : List Float) (n i : ℕ)
      → let result = decode_quads_in plane frame number quads rows corners in
      result.answer ≡ accepted n → i < n → ListedRow (λ j. decode_quad_in plane frame number (quad_at quads j)) n i (row_at result.rows i) (corners_at result.corners i)
  -- "18, given in rows only": no quad alone is refused so, and no list
  pub one_quad : (plane : List ℕ) (frame : Frame) (family : Family) (codes : List ℕ) (quad : Quad) → decode_quad plane frame family codes quad ≡ refused 18 → ⊥
  pub one_quad_in : (plane : List ℕ) (frame : Frame) (number : ℕ) (quad : Quad) → decode_quad_in plane frame number quad ≡ refused 18 → ⊥
  pub whole_list : (plane : List ℕ) (frame : Frame) (family : Family) (codes : List ℕ) (quads : List Float) (rows : List ℕ) (corners : List Float)
      → (decode_quads plane frame family codes quads rows corners).answer ≡ refused 18 → ⊥
  pub whole_list_in : (plane : List ℕ) (frame : Frame) (number : ℕ) (quads : List Float) (rows : List ℕ) (corners : List Float)
      → (decode_quads_in plane frame number quads rows corners).answer ≡ refused 18 → ⊥
  -- the list of a painted sheet's quads, each once, reads whole: every row is that of its tag
  pub sheet : (family : Family) (codes : List ℕ) (grid : Grid) (print : Print) (plane : List ℕ) (frame : Frame) (output : List Float) (shown : List ℕ) (written : List Float)
      → SheetPainted family codes grid print plane frame output shown written → Passes family codes
      → (quads : List Float) (rows : List ℕ) (corners : List Float) (n : ℕ) → let result = decode_quads shown frame family codes quads rows corners in
      result.answer ≡ accepted n → (each : EachOnce written quads (tag_count grid) n) → (i : ℕ) → i < n
      → let position = each.position i in
      let tag : Tag = record { id = position; turn = own_turn (each.start i); differing = 0; corners = print_order (quad_at written position) } in
      (row_at result.rows i ≡ row_of (accepted tag)) × (corners_at result.corners i ≡ corners_of (accepted tag))
