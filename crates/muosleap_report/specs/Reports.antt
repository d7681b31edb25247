-- The entries on reports, from ticket 7 of 02: "Errors: 19, more than 1,024 whole rows, in a report by its first two bytes, or an output too short; 20, rows
-- that are not whole, are no such reading or have not eight corner numbers each, or bytes that none writes, spare bytes included. Output beyond
-- the answer is untouched. The number of rows is tested first, the output's length last." A refused call leaves its outputs as they were. Assumes nothing.
use Rattle.std.specs.Prelude.{ℕ, ◌*◌, Bool, ◌||◌, not, cond, ltb, Float, length}
use mathlib.Core.List.{List, flat_map}
use Rattle.lists.specs.Front.{in_front}
use Rattle.refusals.specs.Outcome.{Outcome, accepted, refused}
use Rattle.points.specs.Numbers.{quad_size}
use Rattle.listing.specs.Listing.{row_size, most_quads, row_of, corners_of, Listing, listing_of}
use Rattle.report.specs.Bytes.{report_of}
use Rattle.report.specs.Rows.{front_rows, row_count, rows_say, is_rows}
use Rattle.report.specs.Report.{count_in, report_says, is_report}

-- what the writer leaves: its answer, which is the number of bytes written, and the output
pub record Writing : Type 0 where
  pub answer : Outcome ℕ
  pub report : List ℕ

abbrev pub writing_of : Outcome ℕ → List ℕ → Writing
writing_of answer report = record { answer = answer; report = report }

-- bytes written at the front of an output, where they fit: "an output too short" is 19
abbrev pub put_bytes : List ℕ → List ℕ → Writing
put_bytes bytes report = cond (ltb (length report) (length bytes)) (writing_of (refused 19) report) (writing_of (accepted (length bytes)) (in_front bytes report))

-- the report of rows and their corner numbers
unfoldable pub write_report : List ℕ → List Float → List ℕ → Writing
unfolding front_rows is_rows report_of
write_report rows corners report =
    cond (ltb most_quads (row_count (length rows))) (writing_of (refused 19) report)
    (cond (not (is_rows rows corners)) (writing_of (refused 20) report)
    (put_bytes (report_of (rows_say rows corners)) report))

-- an output too short for so many rows or their corner numbers
abbrev pub bad_outputs : ℕ → ℕ → ℕ → Bool
bad_outputs count rows corners = ltb rows (row_size * count) || ltb corners (quad_size * count)

-- the rows and the corner numbers of a report; bytes too few to have a number of rows are 20
unfoldable pub read_report : List ℕ → List ℕ → List Float → Listing
unfolding count_in is_report report_says flat_map
read_report report rows corners =
    let said = report_says report in
    cond (ltb (length report) 2) (listing_of (refused 20) rows corners)
    (cond (ltb most_quads (count_in report)) (listing_of (refused 19) rows corners)
    (cond (not (is_report report)) (listing_of (refused 20) rows corners)
    (cond (bad_outputs (count_in report) (length rows) (length corners)) (listing_of (refused 19) rows corners)
    (listing_of (accepted (count_in report)) (in_front (flat_map row_of said) rows) (in_front (flat_map corners_of said) corners)))))
