-- What only the loops of the report's writer and reader need: a row that is looked at, the ids met before it, and how far the rows have come. Assumes nothing.
use Rattle.std.specs.Prelude.{ℕ, zero, suc, ◌+◌, Bool, true, false, not, ◌&&◌, cond, List, [], ◌∷◌, Float, length, get_or, take, drop, set}
use Rattle.refusals.specs.Outcome.{Outcome, accepted, refused}
use Rattle.points.specs.Numbers.{quad_size}
use Rattle.reader.specs.Reading.{Tag}
use Rattle.listing.specs.Listing.{row_size, row_of, corners_of}
use Rattle.report.specs.Reading.{good_row}
use Rattle.report.specs.Bytes.{low_first, row_bytes}
use Rattle.report.specs.Rows.{same, bits_of, front_row}
use Rattle.report.specs.Report.{row_in}

-- a row that is looked at: what it says, and whether it is good and its numbers or bytes are just those of such a row
pub record Candidate : Type 0 where
  pub row : Outcome Tag
  pub stands : Bool

-- a list begins with another
abbrev pub begins_with : List ℕ → List ℕ → Bool
begins_with front l = same front (take (length front) l)

-- the first row of some numbers
unfoldable pub row_stands : List ℕ → List Float → Bool
unfolding same
row_stands rows corners =
    let row = front_row rows corners in
    good_row row && (begins_with (row_of row) rows && begins_with (bits_of (corners_of row)) (bits_of corners))

-- the first row of some bytes
unfoldable pub bytes_stand : List ℕ → Bool
unfolding row_in low_first same
bytes_stand bytes = let row = row_in bytes in good_row row && begins_with (row_bytes row) bytes

unfoldable pub row_candidates : ℕ → List ℕ → List Float → List Candidate
unfolding row_stands
row_candidates zero rows corners = []
row_candidates (suc n) rows corners =
    record { row = front_row rows corners; stands = row_stands rows corners } ∷ row_candidates n (drop row_size rows) (drop quad_size corners)

unfoldable pub byte_candidates : ℕ → List ℕ → List Candidate
unfolding row_in bytes_stand
byte_candidates zero bytes = []
byte_candidates (suc n) bytes =
    record { row = row_in bytes; stands = bytes_stand bytes } ∷ byte_candidates n (drop (length (row_bytes (row_in bytes))) bytes)

-- whether the id of a row was met before, and the ids met with it: for each id whether it was met
abbrev pub is_met : List Bool → Outcome Tag → Bool
is_met met (accepted tag) = get_or met tag.id false
is_met met (refused n) = false

abbrev pub meet : List Bool → Outcome Tag → List Bool
meet met (accepted tag) = set met tag.id true
meet met (refused n) = met

-- the place behind the rows, where each of them stands and has an id that was not met before; 20 where not
unfoldable pub placed : List Bool → List Candidate → ℕ → Outcome ℕ
unfolding low_first
placed met [] at = accepted at
placed met (c ∷ rest) at =
    let next = placed (meet met c.row) rest (at + length (row_bytes c.row)) in
    cond (c.stands && not (is_met met c.row)) next (refused 20)
