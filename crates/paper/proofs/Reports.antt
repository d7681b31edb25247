-- Ticket 7 of document 02: what is written is read as it was, what is read is written as it was, so that one reading has one report
-- and one report one reading. Assumes nothing.
use mathlib.Core.Path.{◌≡◌, sym, ap, ap₂, ◌∙◌}
use mathlib.Core.Bool.{true}
use mathlib.Core.List.{List, flat_map}
use Prim.Native.Nat.{ℕ, ◌*◌, ◌≤◌}
use native.Mathlib.Omega.{arith}
use lib.Ieee.{Float}
use lib.ListN.{length, take, drop}
use lib.Seq.{take_at}
use Rattle.lists.specs.Front.{in_front}
use Rattle.lists.proofs.Flat.{length_flat, front_left}
use Rattle.refusals.specs.Outcome.{Outcome, accepted}
use Rattle.points.specs.Numbers.{quad_size}
use Rattle.reader.specs.Reading.{Tag}
use Rattle.listing.specs.Listing.{row_size, row_of, corners_of, Listing, listing_of}
use Rattle.listing.proofs.Sizes.{row_size_lem, corners_size}
use Rattle.report.specs.Reading.{is_reading}
use Rattle.report.specs.Bytes.{report_of}
use Rattle.report.specs.Rows.{row_count, rows_say}
use Rattle.report.specs.Report.{count_in, report_says}
use Rattle.report.proofs.Report.{count_back, says_back, report_back, report_some, report_means, length_says}
use Rattle.report.proofs.Rows.{length-front_rows, good_rows, rows_back, RowsOf, rows_mean}
use Rattle.muosleap_report.specs.Reports.{Writing, writing_of, put_bytes, write_report, read_report}
use Rattle.muosleap_report.proofs.Passed.{put_held, writes, rows_written, Wrote, wrote, Reads, reads, was_read}
use Rattle.paper.specs.Reports.{Singles, bytes_left, rows_left, corners_left, Reports}
use Rattle.paper.proofs.Reported.{list, list_in}

-- ---- an accepted writing

module _ (rows : List ℕ) (corners : List Float) (report : List ℕ) (n : ℕ) (singles : Singles corners) (e : (write_report rows corners report).answer ≡ accepted n) where
  abbrev said : List (Outcome Tag)
  said = rows_say rows corners

  call : Wrote rows corners report n
  call = wrote rows corners report n e

  are : RowsOf rows corners said
  are = rows_mean rows corners singles call.reading

  size : length said ≡ row_count (length rows)
  size = length-front_rows (row_count (length rows)) rows corners

  -- the bytes that it left are the report of what its rows say, and say it
  left : bytes_left (write_report rows corners report) n ≡ report_of said
  left =
      let out = writes rows corners report call.few call.reading ∙ put_held (report_of said) report call.room in
      ap (λ (w : Writing). take n w.report) out ∙ take_at (report_of said) (drop (length (report_of said)) report) n (sym call.count)

  says : report_says (report_of said) ≡ said
  says = says_back said (good_rows said are.reading) are.fit (omega (arith, size, call.few))

  -- reading what was written
  pub written_read : (rows' : List ℕ) (corners' : List Float) → length rows ≤ length rows' → length corners ≤ length corners'
      → read_report (bytes_left (write_report rows corners report) n) rows' corners' ≡ listing_of (accepted (row_count (length rows))) (in_front rows rows') (in_front corners corners')
  written_read rows' corners' hr hc =
      let few = call.few in
      let count : count_in (report_of said) ≡ length said = count_back said (omega (arith, size)) in
      let rows_size : row_size * length said ≡ length rows = sym (length_flat row_of row_size row_size_lem said) ∙ ap length are.rows_again in
      let corners_size : quad_size * length said ≡ length corners = sym (length_flat corners_of quad_size corners_size said) ∙ ap length are.corners_again in
      let passed : Reads (report_of said) rows' corners' = record {
        two = report_some said;
        few = omega (arith, count, size);
        reads_as_report = report_back said (good_rows said are.reading) are.fit (omega (arith, size)) ∙ are.reading;
        room_rows = omega (arith, count);
        room_corners = omega (arith, count);
      } in
      let list : List (Outcome Tag) → ℕ → Listing = λ l k. listing_of (accepted k) (in_front (flat_map row_of l) rows') (in_front (flat_map corners_of l) corners') in
      ap (λ (bytes : List ℕ). read_report bytes rows' corners') left
      ∙ reads (report_of said) rows' corners' passed
      ∙ ap₂ list says (count ∙ size)
      ∙ ap₂ (λ (r : List ℕ) (c : List Float). listing_of (accepted (row_count (length rows))) (in_front r rows') (in_front c corners')) are.rows_again are.corners_again

  -- its rows and corner numbers, from the bytes alone
  written_rows : flat_map row_of (report_says (bytes_left (write_report rows corners report) n)) ≡ rows
  written_rows = ap (λ (bytes : List ℕ). flat_map row_of (report_says bytes)) left ∙ ap (flat_map row_of) says ∙ are.rows_again

  written_corners : flat_map corners_of (report_says (bytes_left (write_report rows corners report) n)) ≡ corners
  written_corners = ap (λ (bytes : List ℕ). flat_map corners_of (report_says bytes)) left ∙ ap (flat_map corners_of) says ∙ are.corners_again

-- ---- an accepted reading

module _ (report rows : List ℕ) (corners : List Float) (n : ℕ) (e : (read_report report rows corners).answer ≡ accepted n) where
  abbrev told : List (Outcome Tag)
  told = report_says report

  passed : Reads report rows corners
  passed = (was_read report rows corners n e).0

  means : (is_reading told ≡ true) × (report_of told ≡ report)
  means = report_means report passed.reads_as_report

  told_size : length told ≡ n
  told_size = length_says report ∙ sym (was_read report rows corners n e).1

  -- the rows and the corner numbers that it left are those of what the report says
  left_rows : rows_left (read_report report rows corners) n ≡ flat_map row_of told
  left_rows = ap (λ (l : Listing). rows_left l n) (reads report rows corners passed) ∙ front_left row_of row_size row_size_lem told rows n told_size

  left_corners : corners_left (read_report report rows corners) n ≡ flat_map corners_of told
  left_corners = ap (λ (l : Listing). corners_left l n) (reads report rows corners passed) ∙ front_left corners_of quad_size corners_size told corners n told_size

  -- writing what was read
  pub read_written : (report' : List ℕ) → length report ≤ length report'
      → write_report (rows_left (read_report report rows corners) n) (corners_left (read_report report rows corners) n) report' ≡ writing_of (accepted (length report)) (in_front report report')
  read_written report' h =
      let few = passed.few in
      ap₂ (λ (r : List ℕ) (c : List Float). write_report r c report') left_rows left_corners
      ∙ rows_written told means.0 (omega (arith, length_says report)) report'
      ∙ ap (λ (bytes : List ℕ). put_bytes bytes report') means.1
      ∙ put_held report report' h

  -- the report, from them alone
  read_report_lem : report_of (rows_say (rows_left (read_report report rows corners) n) (corners_left (read_report report rows corners) n)) ≡ report
  read_report_lem =
      ap₂ (λ (r : List ℕ) (c : List Float). report_of (rows_say r c)) left_rows left_corners
      ∙ ap report_of (rows_back told (good_rows told means.0)) ∙ means.1

-- ---- "One reading has one report and one report one reading"

pub one_report : (report report₂ rows rows₂ : List ℕ) (corners corners₂ : List Float) (n n₂ : ℕ)
    → let list = read_report report rows corners in let list₂ = read_report report₂ rows₂ corners₂ in
    list.answer ≡ accepted n → list₂.answer ≡ accepted n₂ → rows_left list n ≡ rows_left list₂ n₂ → corners_left list n ≡ corners_left list₂ n₂ → report ≡ report₂
one_report report report₂ rows rows₂ corners corners₂ n n₂ e e₂ same_rows same_corners =
    sym (read_report_lem report rows corners n e)
    ∙ ap₂ (λ (r : List ℕ) (c : List Float). report_of (rows_say r c)) same_rows same_corners
    ∙ read_report_lem report₂ rows₂ corners₂ n₂ e₂

pub one_reading : (rows rows₂ : List ℕ) (corners corners₂ : List Float) (report report₂ : List ℕ) (n n₂ : ℕ) → Singles corners → Singles corners₂
    → let writing = write_report rows corners report in let writing₂ = write_report rows₂ corners₂ report₂ in
    writing.answer ≡ accepted n → writing₂.answer ≡ accepted n₂ → bytes_left writing n ≡ bytes_left writing₂ n₂ → (rows ≡ rows₂) × (corners ≡ corners₂)
one_reading rows rows₂ corners corners₂ report report₂ n n₂ s s₂ e e₂ same_bytes = (
  sym (written_rows rows corners report n s e) ∙ ap (λ (bytes : List ℕ). flat_map row_of (report_says bytes)) same_bytes ∙ written_rows rows₂ corners₂ report₂ n₂ s₂ e₂,
  sym (written_corners rows corners report n s e) ∙ ap (λ (bytes : List ℕ). flat_map corners_of (report_says bytes)) same_bytes ∙ written_corners rows₂ corners₂ report₂ n₂ s₂ e₂,
)

-- ---- the whole ticket

pub reports : Reports
reports =
    record { written_read = written_read; read_written = read_written; one_report = one_report; one_reading = one_reading; list = list; list_in = list_in }
