-- The entries on reports by the tests that a call passes, and what an accepted call says. Assumes nothing.
use mathlib.Core.Path.{◌≡◌, refl, ap, ◌∙◌}
use mathlib.Core.Bool.{Bool, true, false, not, cond}
use mathlib.Core.List.{List, flat_map}
use Prim.Native.Nat.{ℕ, ◌*◌, ◌≤◌}
use native.Mathlib.Omega.{arith}
use borrow.Author.Tests.{ltb-false, le-ltb}
use lib.Dec.{ltb}
use lib.Ieee.{Float}
use lib.ListN.{length}
use Rattle.lists.specs.Front.{in_front}
use Rattle.std.proofs.lemmas.Bool.{or_parts}
use Rattle.refusals.specs.Outcome.{Outcome, accepted, refused}
use Rattle.points.specs.Numbers.{quad_size}
use Rattle.reader.specs.Reading.{Tag}
use Rattle.listing.specs.Listing.{row_size, most_quads, row_of, corners_of, Listing, listing_of}
use Rattle.report.specs.Reading.{is_reading}
use Rattle.report.specs.Bytes.{report_of}
use Rattle.report.specs.Rows.{row_count, rows_say, is_rows}
use Rattle.report.specs.Report.{count_in, report_says, is_report}
use Rattle.report.proofs.Rows.{good_rows, row_count_lem, rows_back, rows_are}
use Rattle.muosleap_report.specs.Reports.{Writing, writing_of, put_bytes, write_report, bad_outputs, read_report}

-- ---- the writer

-- bytes that the output holds
pub put_held : (bytes report : List ℕ) → length bytes ≤ length report → put_bytes bytes report ≡ writing_of (accepted (length bytes)) (in_front bytes report)
put_held bytes report h = simp (le-ltb (length report) (length bytes) h)

-- rows that are not too many and a reading
pub writes : (rows : List ℕ) (corners : List Float) (report : List ℕ) → row_count (length rows) ≤ most_quads → is_rows rows corners ≡ true
    → write_report rows corners report ≡ put_bytes (report_of (rows_say rows corners)) report
unfolding write_report
writes rows corners report h e = simp (le-ltb most_quads (row_count (length rows)) h, e)

-- those of a reading
pub rows_written : (said : List (Outcome Tag)) → is_reading said ≡ true → length said ≤ most_quads → (report : List ℕ)
    → write_report (flat_map row_of said) (flat_map corners_of said) report ≡ put_bytes (report_of said) report
rows_written said reading h report =
    writes (flat_map row_of said) (flat_map corners_of said) report (omega (arith, row_count_lem said)) (rows_are said reading)
    ∙ ap (λ (l : List (Outcome Tag)). put_bytes (report_of l) report) (rows_back said (good_rows said reading))

-- an accepted call, which passed every test
pub record Wrote (rows : List ℕ) (corners : List Float) (report : List ℕ) (n : ℕ) : Type 0 where
  pub few : row_count (length rows) ≤ most_quads
  pub reading : is_rows rows corners ≡ true
  pub room : length (report_of (rows_say rows corners)) ≤ length report
  pub count : n ≡ length (report_of (rows_say rows corners))

pub wrote : (rows : List ℕ) (corners : List Float) (report : List ℕ) (n : ℕ) → (write_report rows corners report).answer ≡ accepted n → Wrote rows corners report n
unfolding write_report
wrote rows corners report n = go (ltb most_quads count) (is_rows rows corners) (ltb (length report) (length bytes)) refl refl refl
  where
    count : ℕ
    count = row_count (length rows)

    bytes : List ℕ
    bytes = report_of (rows_say rows corners)

    refusing : ℕ → Writing
    refusing k = writing_of (refused k) report

    done : Writing
    done = writing_of (accepted (length bytes)) (in_front bytes report)

    go : (many reading short : Bool) → ltb most_quads count ≡ many → is_rows rows corners ≡ reading → ltb (length report) (length bytes) ≡ short
        → (cond many (refusing 19) (cond (not reading) (refusing 20) (cond short (refusing 19) done))).answer ≡ accepted n → Wrote rows corners report n
    go true reading short p q r e = let z : ◌≡◌ {A = ℕ} 0 1 = cc e in absurd (omega arith)
    go false false short p q r e = let z : ◌≡◌ {A = ℕ} 0 1 = cc e in absurd (omega arith)
    go false true true p q r e = let z : ◌≡◌ {A = ℕ} 0 1 = cc e in absurd (omega arith)
    go false true false p q r e =
        record { few = ltb-false most_quads count p; reading = q; room = ltb-false (length report) (length bytes) r; count = cc e }

-- ---- the reader

-- what an accepted call leaves
abbrev pub read_back : List ℕ → List ℕ → List Float → Listing
read_back report rows corners =
    listing_of (accepted (count_in report)) (in_front (flat_map row_of (report_says report)) rows) (in_front (flat_map corners_of (report_says report)) corners)

-- a call that passes every test, and an accepted one, which did
pub record Reads (report rows : List ℕ) (corners : List Float) : Type 0 where
  pub two : 2 ≤ length report
  pub few : count_in report ≤ most_quads
  pub reads_as_report : is_report report ≡ true
  pub room_rows : row_size * count_in report ≤ length rows
  pub room_corners : quad_size * count_in report ≤ length corners

pub reads : (report rows : List ℕ) (corners : List Float) → Reads report rows corners → read_report report rows corners ≡ read_back report rows corners
unfolding read_report
reads report rows corners h =
    simp (
      le-ltb (length report) 2 h.two,
      le-ltb most_quads (count_in report) h.few,
      h.reads_as_report,
      le-ltb (length rows) (row_size * count_in report) h.room_rows,
      le-ltb (length corners) (quad_size * count_in report) h.room_corners,
    )

pub was_read : (report rows : List ℕ) (corners : List Float) (n : ℕ) → (read_report report rows corners).answer ≡ accepted n → Reads report rows corners × (n ≡ count_in report)
unfolding read_report
was_read report rows corners n = go (ltb (length report) 2) (ltb most_quads count) (is_report report) short refl refl refl refl
  where
    count : ℕ
    count = count_in report

    refusing : ℕ → Listing
    refusing k = listing_of (refused k) rows corners

    short : Bool
    short = bad_outputs count (length rows) (length corners)

    go : (a b c d : Bool) → ltb (length report) 2 ≡ a → ltb most_quads count ≡ b → is_report report ≡ c → short ≡ d
        → (cond a (refusing 20) (cond b (refusing 19) (cond (not c) (refusing 20) (cond d (refusing 19) (read_back report rows corners))))).answer ≡ accepted n
        → Reads report rows corners × (n ≡ count)
    go true b c d p q r s e = let z : ◌≡◌ {A = ℕ} 0 1 = cc e in absurd (omega arith)
    go false true c d p q r s e = let z : ◌≡◌ {A = ℕ} 0 1 = cc e in absurd (omega arith)
    go false false false d p q r s e = let z : ◌≡◌ {A = ℕ} 0 1 = cc e in absurd (omega arith)
    go false false true true p q r s e = let z : ◌≡◌ {A = ℕ} 0 1 = cc e in absurd (omega arith)
    go false false true false p q r s e =
        let short_rows = ltb (length rows) (row_size * count) in
        let short_corners = ltb (length corners) (quad_size * count) in (
          record {
            two = ltb-false (length report) 2 p;
            few = ltb-false most_quads count q;
            reads_as_report = r;
            room_rows = ltb-false (length rows) (row_size * count) (or_parts short_rows short_corners s).0;
            room_corners = ltb-false (length corners) (quad_size * count) (or_parts short_rows short_corners s).1;
          },
          cc e,
        )
