-- What a list reading leaves in its outputs: at each quad's place what that quad is in the list, and nothing else; so it depends on the quads'
-- own readings alone. Assumes nothing.
use mathlib.Core.Path.{◌≡◌, ap, ◌∙◌}
use mathlib.Core.List.{List, flat_map}
use Prim.Native.Nat.{ℕ, ◌*◌, ◌<◌}
use native.Mathlib.Omega.{arith}
use lib.Ieee.{Float}
use lib.ListN.{length, get_or, drop}
use Rattle.lists.specs.Front.{in_front}
use Rattle.lists.proofs.Tab.{length-tabulate, get_or-tabulate}
use Rattle.lists.proofs.Rows.{tabulate_ext}
use Rattle.refusals.specs.Outcome.{Outcome, accepted, refused}
use Rattle.refusals.specs.declared.Frame.{Frame}
use Rattle.points.specs.declared.Quad.{Quad}
use Rattle.points.specs.Numbers.{quad_size, quad_at, corners_at}
use Rattle.tables.specs.declared.Family.{Family}
use Rattle.reader.specs.Reading.{Tag, reading}
use Rattle.listing.specs.Repeated.{in_list, listed}
use Rattle.listing.specs.Listing.{row_size, quad_count, row_of, corners_of, readings, Listing, listing_of, listing, row_at}
use Rattle.lists.proofs.Flat.{part_at, behind}
use Rattle.listing.proofs.Repeated.{length-listed, listed_at}
use Rattle.listing.proofs.Sizes.{row_size_lem, corners_size}

module _ (plane : List ℕ) (frame : Frame) (family : Family) (codes : List ℕ) (quads : List Float) where
  -- what quad q reads as
  abbrev pub read : ℕ → Outcome Tag
  read q = reading plane frame family codes (quad_at quads q)

  abbrev count : ℕ
  count = quad_count (length quads)

  abbrev pub all : List (Outcome Tag)
  all = readings plane frame family codes quads

  pub length-readings : length all ≡ count
  unfolding readings
  length-readings = length-tabulate count read

  pub reading_at : (q : ℕ) → q < count → get_or all q (refused 0) ≡ read q
  unfolding readings
  reading_at q h = get_or-tabulate count read q (refused 0) h

  length_said : length (listed all) ≡ count
  length_said = length-listed all ∙ length-readings

  -- what quad q is in the list
  abbrev pub in_row : ℕ → Outcome Tag
  in_row q = in_list all q (read q)

  said_at : (q : ℕ) → q < count → get_or (listed all) q (refused 0) ≡ in_row q
  said_at q h = listed_at all q (omega (arith, length-readings)) ∙ ap (in_list all q) (reading_at q h)

  module _ (rows : List ℕ) (corners : List Float) where
    abbrev result : Listing
    result = listing plane frame family codes quads rows corners

    -- the row and the corner numbers at a quad's place are those of what it is in the list
    pub row_is : (q : ℕ) → q < quad_count (length quads) → row_at result.rows q ≡ row_of (in_row q)
    unfolding listing
    row_is q h =
        part_at row_of row_size row_size_lem (listed all) (drop (length (flat_map row_of (listed all))) rows) q (refused 0) (omega (arith, length_said)) ∙ ap row_of (said_at q h)

    pub corners_are : (q : ℕ) → q < quad_count (length quads) → corners_at result.corners q ≡ corners_of (in_row q)
    unfolding listing
    corners_are q h =
        part_at corners_of quad_size corners_size (listed all) (drop (length (flat_map corners_of (listed all))) corners) q (refused 0) (omega (arith, length_said)) ∙ ap corners_of (said_at q h)

    -- behind the last quad's place all is as it was
    pub rows_behind : drop (row_size * quad_count (length quads)) result.rows ≡ drop (row_size * quad_count (length quads)) rows
    unfolding listing
    rows_behind = behind row_of row_size row_size_lem (listed all) rows count length_said

    pub corners_behind : drop (quad_size * quad_count (length quads)) result.corners ≡ drop (quad_size * quad_count (length quads)) corners
    unfolding listing
    corners_behind = behind corners_of quad_size corners_size (listed all) corners count length_said

-- two pictures in which every quad reads alike have the same list readings
pub listing_depends : (plane other : List ℕ) (frame frame' : Frame) (family : Family) (codes : List ℕ)
    → ((quad : Quad) → reading plane frame family codes quad ≡ reading other frame' family codes quad)
    → (quads : List Float) (rows : List ℕ) (corners : List Float)
    → listing plane frame family codes quads rows corners ≡ listing other frame' family codes quads rows corners
unfolding listing readings
listing_depends plane other frame frame' family codes h quads rows corners =
    let n = quad_count (length quads) in
    ap (λ (read : List (Outcome Tag)). listing_of (accepted n) (in_front (flat_map row_of (listed read)) rows) (in_front (flat_map corners_of (listed read)) corners))
    (tabulate_ext n (read plane frame family codes quads) (read other frame' family codes quads) (λ q l. h (quad_at quads q)))
