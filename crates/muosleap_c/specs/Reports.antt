-- What the calls for C on reports return and leave, told by what the entry's own definition says. Assumes nothing.
use Rattle.std.specs.Prelude.{ℕ, ◌≡◌, List, Float}
use Rattle.refusals.specs.Outcome.{number}
use Rattle.listing.specs.Listing.{Listing}
use Rattle.muosleap_report.specs.Reports.{Writing}
use Rattle.outputs.specs.Outputs.{Output, Written, whole}

-- a report's writing: its bytes, and how many they are
pub record WritesReport (writing : Writing) (r : ℕ) (report : Output (List ℕ)) (written : Output ℕ) : Type 0 where
  pub answered : r ≡ number writing.answer
  pub report_left : report.after ≡ writing.report
  pub written_written : Written writing.answer whole written

-- a report's reading: rows, corners, and how many rows there are
pub record ReadsReport (list : Listing) (r : ℕ) (rows : Output (List ℕ)) (corners : Output (List Float)) (count : Output ℕ) : Type 0 where
  pub answered : r ≡ number list.answer
  pub rows_left : rows.after ≡ list.rows
  pub corners_left : corners.after ≡ list.corners
  pub count_written : Written list.answer whole count
