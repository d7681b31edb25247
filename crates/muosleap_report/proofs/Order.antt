-- The refusals of the entries on reports, in their order. Assumes nothing.
use mathlib.Core.Path.{◌≡◌, refl, sym, ◌∙◌}
use mathlib.Core.Bool.{Bool, true, false, cond}
use mathlib.Core.List.{List}
use Prim.Native.Nat.{ℕ, ◌*◌, ◌≤◌, ◌<◌}
use native.Mathlib.Omega.{arith}
use borrow.Author.Tests.{lt-ltb, le-ltb}
use lib.Ieee.{Float}
use lib.ListN.{length}
use Rattle.lists.specs.Front.{in_front}
use Rattle.refusals.specs.Outcome.{Outcome, accepted, refused}
use Rattle.points.specs.Numbers.{quad_size}
use Rattle.listing.specs.Listing.{row_size, most_quads, listing_of}
use Rattle.report.specs.Bytes.{report_of}
use Rattle.report.specs.Rows.{row_count, rows_say, is_rows}
use Rattle.report.specs.Report.{number_at, count_in, is_report}
use Rattle.muosleap_report.specs.Reports.{writing_of, write_report, read_report}
use Rattle.muosleap_report.proofs.Passed.{put_held, writes, read_back, reads}

-- ---- the writer

-- what the writer's first pass tells
pub sized : (b : Bool) (size found : ℕ) → accepted found ≡ cond b (accepted size) (refused 20) → (b ≡ true) × (found ≡ size)
sized true size found e = (refl, cc e)
sized false size found e = let z : ◌≡◌ {A = ℕ} 0 1 = cc e in absurd (omega arith)

pub no_size : (b : Bool) (size : ℕ) (number : ℕ) → ◌≡◌ {A = Outcome ℕ} (refused number) (cond b (accepted size) (refused 20)) → (b ≡ false) × (number ≡ 20)
no_size true size number e = let z : ◌≡◌ {A = ℕ} 0 1 = cc e in absurd (omega arith)
no_size false size number e = (refl, cc e)

module _ (rows : List ℕ) (corners : List Float) (report : List ℕ) where
  pub too_many : most_quads < row_count (length rows) → writing_of (refused 19) report ≡ write_report rows corners report
  unfolding write_report
  too_many h = simp (lt-ltb most_quads (row_count (length rows)) h)

  pub no_reading : row_count (length rows) ≤ most_quads → is_rows rows corners ≡ false → writing_of (refused 20) report ≡ write_report rows corners report
  unfolding write_report
  no_reading h e = simp (le-ltb most_quads (row_count (length rows)) h, e)

  pub too_short : row_count (length rows) ≤ most_quads → is_rows rows corners ≡ true → length report < length (report_of (rows_say rows corners))
      → writing_of (refused 19) report ≡ write_report rows corners report
  unfolding write_report
  too_short h e s = simp (le-ltb most_quads (row_count (length rows)) h, e, lt-ltb (length report) (length (report_of (rows_say rows corners))) s)

  pub all_written : row_count (length rows) ≤ most_quads → is_rows rows corners ≡ true → length (report_of (rows_say rows corners)) ≤ length report
      → writing_of (accepted (length (report_of (rows_say rows corners)))) (in_front (report_of (rows_say rows corners)) report) ≡ write_report rows corners report
  all_written h e r = sym (writes rows corners report h e ∙ put_held (report_of (rows_say rows corners)) report r)

-- ---- the reader

pub count_is : (report : List ℕ) → number_at 2 0 report ≡ count_in report
unfolding count_in
count_is report = refl

module _ (report rows : List ℕ) (corners : List Float) where
  pub no_number : length report < 2 → listing_of (refused 20) rows corners ≡ read_report report rows corners
  unfolding read_report
  no_number h = simp (lt-ltb (length report) 2 h)

  module _ (two : 2 ≤ length report) where
    pub many_rows : most_quads < count_in report → listing_of (refused 19) rows corners ≡ read_report report rows corners
    unfolding read_report
    many_rows h = simp (le-ltb (length report) 2 two, lt-ltb most_quads (count_in report) h)

    module _ (few : count_in report ≤ most_quads) where
      pub no_report : is_report report ≡ false → listing_of (refused 20) rows corners ≡ read_report report rows corners
      unfolding read_report
      no_report e = simp (le-ltb (length report) 2 two, le-ltb most_quads (count_in report) few, e)

      pub short_rows : is_report report ≡ true → length rows < row_size * count_in report → listing_of (refused 19) rows corners ≡ read_report report rows corners
      unfolding read_report
      short_rows e h = simp (le-ltb (length report) 2 two, le-ltb most_quads (count_in report) few, e, lt-ltb (length rows) (row_size * count_in report) h)

      pub short_corners : is_report report ≡ true → row_size * count_in report ≤ length rows → length corners < quad_size * count_in report
          → listing_of (refused 19) rows corners ≡ read_report report rows corners
      unfolding read_report
      short_corners e r h =
          simp (
            le-ltb (length report) 2 two,
            le-ltb most_quads (count_in report) few,
            e,
            le-ltb (length rows) (row_size * count_in report) r,
            lt-ltb (length corners) (quad_size * count_in report) h,
          )

      pub all_pass : is_report report ≡ true → row_size * count_in report ≤ length rows → quad_size * count_in report ≤ length corners
          → read_back report rows corners ≡ read_report report rows corners
      all_pass e r c = sym (reads report rows corners (record { two = two; few = few; reads_as_report = e; room_rows = r; room_corners = c }))

-- what each answer of the entries follows from
pub ruleset writing = (sized, no_size, too_many, no_reading, too_short, all_written)

pub ruleset reading = (count_is, no_number, many_rows, no_report, short_rows, short_corners, all_pass)
