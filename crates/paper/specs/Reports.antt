-- Ticket 7 of document 02: "A list reading shall be written as bytes and read again"; "One reading has one report and one report one reading, corner bits
-- included." Said of the definitions that the public entries are proved equal to. Assumes nothing.
use Rattle.std.specs.Prelude.{◌≡◌, true, List, ℕ, ◌*◌, ◌≤◌, Float, length, take}
use Rattle.std.specs.Float.{binary32}
use Rattle.std.specs.Float.Ieee.{fits}
use Rattle.lists.specs.Tab.{all}
use Rattle.lists.specs.Front.{in_front}
use Rattle.refusals.specs.Outcome.{accepted}
use Rattle.refusals.specs.declared.Frame.{Frame}
use Rattle.points.specs.Numbers.{quad_size}
use Rattle.tables.specs.declared.Family.{Family}
use Rattle.tag_families.specs.Families.{family_of, codes_of}
use Rattle.listing.specs.Repeated.{listed}
use Rattle.listing.specs.Listing.{row_size, readings, Listing, listing_of}
use Rattle.report.specs.Bytes.{report_of}
use Rattle.report.specs.Rows.{row_count}
use Rattle.muosleap.specs.Quads.{decode_quads, decode_quads_in}
use Rattle.muosleap_report.specs.Reports.{Writing, writing_of, put_bytes, write_report, read_report}

-- the numbers of a slice of f32: each is a value of that format
abbrev pub Singles : List Float → Type 0
Singles numbers = all (fits binary32) numbers ≡ true

-- the bytes that an accepted writing of n bytes left, and the rows and the corner numbers that n rows of an output are
abbrev pub bytes_left : Writing → ℕ → List ℕ
bytes_left writing n = take n writing.report

abbrev pub rows_left : Listing → ℕ → List ℕ
rows_left listing n = take (row_size * n) listing.rows

abbrev pub corners_left : Listing → ℕ → List Float
corners_left listing n = take (quad_size * n) listing.corners

-- the report of a list's rows and corner numbers is never refused by 20, nor for the number of its rows: it is that of what the list's quads read as
abbrev pub Reported : List ℕ → Frame → Family → List ℕ → List Float → (list : Listing) (n : ℕ) → Type 0
Reported plane frame family codes quads list n = (report : List ℕ)
    → write_report (rows_left list n) (corners_left list n) report ≡ put_bytes (report_of (listed (readings plane frame family codes quads))) report

pub record Reports : Type 0 where
  -- reading what was written gives the same rows and the same corner numbers, bit for bit, in front of any outputs that hold them
  pub written_read : (rows : List ℕ) (corners : List Float) (report : List ℕ) (n : ℕ) → Singles corners
      → let writing = write_report rows corners report in writing.answer ≡ accepted n
      → (rows' : List ℕ) (corners' : List Float) → length rows ≤ length rows' → length corners ≤ length corners'
      → read_report (bytes_left writing n) rows' corners' ≡ listing_of (accepted (row_count (length rows))) (in_front rows rows') (in_front corners corners')
  -- writing what was read gives the same bytes, in front of any output that holds them
  pub read_written : (report rows : List ℕ) (corners : List Float) (n : ℕ)
      → let list = read_report report rows corners in list.answer ≡ accepted n
      → (report' : List ℕ) → length report ≤ length report'
      → write_report (rows_left list n) (corners_left list n) report' ≡ writing_of (accepted (length report)) (in_front report report')
  -- "One reading has one report ..": two reports that are read as the same rows and corner numbers are one
  pub one_report : (report report₂ rows rows₂ : List ℕ) (corners corners₂ : List Float) (n n₂ : ℕ)
      → let list = read_report report rows corners in let list₂ = read_report report₂ rows₂ corners₂ in
      list.answer ≡ accepted n → list₂.answer ≡ accepted n₂ → rows_left list n ≡ rows_left list₂ n₂ → corners_left list n ≡ corners_left list₂ n₂ → report ≡ report₂
  -- ".. and one report one reading": two readings that are written as the same bytes are one
  pub one_reading : (rows rows₂ : List ℕ) (corners corners₂ : List Float) (report report₂ : List ℕ) (n n₂ : ℕ) → Singles corners → Singles corners₂
      → let writing = write_report rows corners report in let writing₂ = write_report rows₂ corners₂ report₂ in
      writing.answer ≡ accepted n → writing₂.answer ≡ accepted n₂ → bytes_left writing n ≡ bytes_left writing₂ n₂ → (rows ≡ rows₂) × (corners ≡ corners₂)
  -- every accepted list reading is a reading
  pub list : (plane : List ℕ) (frame : Frame) (family : Family) (codes : List ℕ) (quads : List Float) (rows : List ℕ) (corners : List Float) (n : ℕ)
      → let result = decode_quads plane frame family codes quads rows corners in
      result.answer ≡ accepted n → Reported plane frame family codes quads result n
  pub list_in : (plane : List ℕ) (frame : Frame) (number : ℕ) (quads : List Float) (rows : List ℕ) (corners : List Float) (n : ℕ)
      → let result = decode_quads_in plane frame number quads rows corners in
      result.answer ≡ accepted n → Reported plane frame (family_of number) (codes_of number) quads result n
