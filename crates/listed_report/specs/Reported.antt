-- What ticket 7 of 02 says of the function that reads a list and writes its report: "A list reading shall be written as bytes". `paper`'s Reports
-- has the law itself. Assumes nothing.
use Rattle.std.specs.Prelude.{◌≡◌, List, ℕ, Float}
use Rattle.refusals.specs.Outcome.{Outcome, accepted, refused}
use Rattle.refusals.specs.declared.Frame.{Frame}
use Rattle.tables.specs.declared.Family.{Family}
use Rattle.reader.specs.Reading.{Tag}
use Rattle.listing.specs.Repeated.{listed}
use Rattle.listing.specs.Listing.{readings}
use Rattle.report.specs.Bytes.{report_of}
use Rattle.muosleap.specs.Quads.{decode_quads}
use Rattle.muosleap_report.specs.Reports.{Writing, writing_of, put_bytes}

-- the report of what a list's rows say; where the list is refused there is none, its number stands and the report's output is as it was
abbrev pub report_list : List (Outcome Tag) → List ℕ → Outcome ℕ → Writing
report_list said report (accepted n) = put_bytes (report_of said) report
report_list said report (refused n) = writing_of (refused n) report

-- a list is read and its report written, with this answer and these outputs left
pub record ListReported (plane : List ℕ) (frame : Frame) (family : Family) (codes : List ℕ) (quads : List Float) (rows : List ℕ) (corners : List Float) (report : List ℕ)
    (answer : Outcome ℕ) (rows' : List ℕ) (corners' : List Float) (report' : List ℕ) : Type 0 where
  -- rows and corner numbers are the list reader's, whether it reads or refuses
  pub rows_read : rows' ≡ (decode_quads plane frame family codes quads rows corners).rows
  pub corners_read : corners' ≡ (decode_quads plane frame family codes quads rows corners).corners
  -- the report is that of what the quads read as in the list
  pub written : writing_of answer report' ≡ report_list (listed (readings plane frame family codes quads)) report (decode_quads plane frame family codes quads rows corners).answer
  -- so it is never refused by "20, rows that are not whole, are no such reading or have not eight corner numbers each"
  pub never_20 : answer ≡ refused 20 → ⊥
