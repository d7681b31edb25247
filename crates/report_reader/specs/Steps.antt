-- What only the reader's own functions need: the row of a tag, where rows end, and what is left in the outputs. Assumes nothing.
use Rattle.std.specs.Prelude.{ℕ, ◌+◌, ◌≡◌, Bool, false, ◌&&◌, eqb, Float, get_or}
use mathlib.Core.List.{List, flat_map}
use Rattle.lists.specs.Front.{in_front}
use Rattle.refusals.specs.Outcome.{Outcome, accepted, refused}
use Rattle.reader.specs.Reading.{Tag}
use Rattle.listing.specs.Listing.{row_of, corners_of}
use Rattle.report.specs.Reading.{good_row}
use Rattle.report.specs.Bytes.{low_first, row_bytes}
use Rattle.report.specs.Rows.{same}
use Rattle.report.specs.Report.{number_of, number_at, field_in, tag_in, has_turn, has_differing, report_says}
use Rattle.report_reader.specs.declared.Head.{Head}
use Rattle.report.specs.Steps.{begins_with}

-- what a tag's row says before its corners, and their place
abbrev pub head_of : List ℕ → Head
head_of bytes =
    let turn = has_turn (get_or bytes 0 0) in
    let differing = has_differing (get_or bytes 0 0) in
    record { id = number_at 2 1 bytes; turn = field_in turn 3 bytes; differing = field_in differing (3 + turn) bytes; corners = 3 + turn + differing }

-- the row of a tag at the front of some bytes, whose map says which fields there are
abbrev pub front_tag : List ℕ → Outcome Tag
front_tag bytes = accepted (tag_in (has_turn (get_or bytes 0 0)) (has_differing (get_or bytes 0 0)) bytes)

-- it is good, and in the bytes of such a row
unfoldable pub tag_stands : List ℕ → Bool
unfolding low_first same number_of
tag_stands bytes = good_row (front_tag bytes) && begins_with (row_bytes (front_tag bytes)) bytes

-- the outputs after the rows of a report were put into them
pub record PutRows (report rows : List ℕ) (corners : List Float) (rows' : List ℕ) (corners' : List Float) : Type 0 where
  pub rows_are : rows' ≡ in_front (flat_map row_of (report_says report)) rows
  pub corners_are : corners' ≡ in_front (flat_map corners_of (report_says report)) corners

-- whether rows that were placed end at this place
abbrev pub ends_at : ℕ → Outcome ℕ → Bool
ends_at n (accepted at) = eqb at n
ends_at n (refused k) = false
