-- What demand 3 says of the functions that paint and read. `paper`'s Demand3 has the words that are used here. Assumes nothing.
use Rattle.std.specs.Prelude.{◌≡◌, List, ℕ, ◌<◌, Float}
use Rattle.refusals.specs.Outcome.{Outcome, accepted, refused}
use Rattle.refusals.specs.declared.Frame.{Frame}
use Rattle.points.specs.declared.Quad.{Quad}
use Rattle.points.specs.Turned.{turned_left}
use Rattle.points.specs.Numbers.{numbers_of, corners_at}
use Rattle.tables.specs.declared.Family.{Family}
use Rattle.painter.specs.declared.Print.{Print}
use Rattle.reader.specs.Reading.{Tag}
use Rattle.listing.specs.Listing.{Listing, listing_of, row_of, corners_of, row_at}
use Rattle.muosleap_paint.specs.PaintTag.{paint_tag}
use Rattle.muosleap.specs.Quad.{decode_quad}
use Rattle.muosleap.specs.Quads.{decode_quads}
use Rattle.paper.specs.Starts.{from_start}
use Rattle.paper.specs.Demand3.{Passes, Painted, own_tag}

-- "Start s of the painter's quad is then read with the same table and threshold, on the plane as the painter left it."; where the painter
-- refuses there is no quad to read, and its number stands
abbrev pub read_print : Frame → Family → List ℕ → ℕ → List ℕ → Outcome Quad → Outcome Tag
read_print frame family codes s shown (accepted quad) = decode_quad shown frame family codes (turned_left s quad)
read_print frame family codes s shown (refused n) = refused n

-- a tag is painted and its start s read, with this answer and this plane left
pub record PaintedThenRead (plane : List ℕ) (frame : Frame) (family : Family) (codes : List ℕ) (word : ℕ) (print : Print) (s : ℕ) (answer : Outcome Tag) (left : List ℕ) : Type 0 where
  -- the plane is the painter's, whether it paints or refuses
  pub shown : left ≡ (paint_tag plane frame family.edge family.border word print).plane
  -- the answer is the quad reader's on that plane, or the painter's refusal
  pub read : answer ≡ read_print frame family codes s left (paint_tag plane frame family.edge family.border word print).answer
  -- a painted tag is "no refusal but these: id the own number, turn (4 − s) modulo 4, corners in print order", and has "exactly as
  -- many differing modules as were misprinted"
  pub own : (id : ℕ) (quad : Quad) (picture : List ℕ) → Painted family codes id word plane frame print quad picture → s < 4
      → (answer ≡ accepted (own_tag codes id word quad s)) × (left ≡ picture)

-- the four starts of a quad are read, with these answers
pub record StartsRead (plane : List ℕ) (frame : Frame) (family : Family) (codes : List ℕ) (quad : Quad) (s0 s1 s2 s3 : Outcome Tag) : Type 0 where
  pub first : s0 ≡ decode_quad plane frame family codes quad
  pub second : s1 ≡ decode_quad plane frame family codes (turned_left 1 quad)
  pub third : s2 ≡ decode_quad plane frame family codes (turned_left 2 quad)
  pub fourth : s3 ≡ decode_quad plane frame family codes (turned_left 3 quad)
  -- "with any table that passes the likeness check and any eight numbers: if one start is refused, all four are, under one number; else all
  -- give one id and the same corners, and start s the turn of start 0 less s, modulo 4", and one number of differing modules
  pub alike : Passes family codes → (s1 ≡ from_start 1 s0) × (s2 ≡ from_start 2 s0) × (s3 ≡ from_start 3 s0)

-- the list reading of start s of the painter's quad, alone in its list; where the painter refuses, its number stands and both outputs are as they were
abbrev pub list_print : Frame → Family → List ℕ → ℕ → List ℕ → List Float → List ℕ → Outcome Quad → Listing
list_print frame family codes s rows corners shown (accepted quad) = decode_quads shown frame family codes (numbers_of (turned_left s quad)) rows corners
list_print frame family codes s rows corners shown (refused n) = listing_of (refused n) rows corners

-- a tag is painted and its start s read in a list of its own, with this plane left and this result
pub record StartListed (plane : List ℕ) (frame : Frame) (family : Family) (codes : List ℕ) (word : ℕ) (print : Print) (s : ℕ)
    (rows : List ℕ) (corners : List Float) (left : List ℕ) (result : Listing) : Type 0 where
  pub shown : left ≡ (paint_tag plane frame family.edge family.border word print).plane
  pub read : result ≡ list_print frame family codes s rows corners left (paint_tag plane frame family.edge family.border word print).answer
  -- "and this start's row and corner numbers, in every accepted list reading of this plane that holds it"; no other quad is in this list
  pub own : (id : ℕ) (quad : Quad) (picture : List ℕ) → Painted family codes id word plane frame print quad picture → s < 4 → (n : ℕ) → result.answer ≡ accepted n
      → (n ≡ 1) × (row_at result.rows 0 ≡ row_of (accepted (own_tag codes id word quad s))) × (corners_at result.corners 0 ≡ corners_of (accepted (own_tag codes id word quad s)))
