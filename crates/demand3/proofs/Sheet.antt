-- The laws of the sheet, carried to answers that equal the definitions. Assumes nothing.
use mathlib.Core.Path.{◌≡◌, sym, ap, ◌∙◌}
use mathlib.Core.List.{List}
use Prim.Native.Nat.{ℕ, ◌+◌, ◌*◌, ◌≤◌, ◌<◌}
use native.Mathlib.Omega.{arith}
use lib.Ieee.{Float, nan}
use lib.ListN.{length, get_or, take}
use lib.Seq.{get_or-take, length-take-le}
use Rattle.refusals.specs.Outcome.{Outcome, accepted, Done}
use Rattle.refusals.specs.Pixels.{bad_frame}
use Rattle.refusals.specs.declared.Frame.{Frame}
use Rattle.points.specs.Numbers.{quad_size, point_at, quad_at, corners_at}
use Rattle.points.specs.Turned.{turned_left}
use Rattle.tables.specs.declared.Family.{Family}
use Rattle.tables.proofs.Table.{good_table}
use Rattle.painter.specs.declared.Print.{Print}
use Rattle.grid.specs.Quads.{tag_count}
use Rattle.grid.specs.Sheetable.{Sheetable}
use Rattle.grid.specs.declared.Grid.{Grid}
use Rattle.grid.proofs.Sheetable.{Good-grid, room}
use Rattle.reader.specs.Reading.{Tag}
use Rattle.listing.specs.Listing.{row_size, most_quads, quad_count, bad_list, Listing, row_at}
use Rattle.listing.proofs.Room.{list_fits}
use Rattle.muosleap.specs.Quads.{decode_quads}
use Rattle.muosleap.proofs.ListReading.{Accepted-means, accepts}
use Rattle.muosleap_paint.specs.PaintSheet.{SheetPainting, painting_of, paint_sheet}
use Rattle.muosleap_paint.proofs.PaintSheet.{sheet_accepted}
use Rattle.paper.specs.Repeated.{EachOnce}
use Rattle.paper.proofs.Sheet.{Sheets-read}
use Rattle.paper.proofs.Repeated.{repeated}
use Rattle.demand3.specs.Sheet.{read_sheet, SheetThenRead, list_sheet, SheetThenListed}

-- a painting that answers and leaves what `paint_sheet` says, and a reading of what it left
pub sheet_then_read : (plane : List ℕ) (frame : Frame) (family : Family) (codes : List ℕ) (grid : Grid) (print : Print) (quads : List Float) (position s : ℕ)
    (painting : Outcome Done) (left : List ℕ) (written : List Float) (answer : Outcome Tag) → position < tag_count grid
    → painting_of painting left written ≡ paint_sheet plane frame family codes grid print quads
    → answer ≡ read_sheet frame family codes position s left written painting
    → SheetThenRead plane frame family codes grid print quads position s answer left written
sheet_then_read plane frame family codes grid print quads position s painting left written answer known e r =
    record {
      shown = ap (λ (x : SheetPainting). x.plane) e;
      quads_written = ap (λ (x : SheetPainting). x.quads) e;
      read = r ∙ ap (read_sheet frame family codes position s left written) (ap (λ (x : SheetPainting). x.answer) e);
      own = λ took passes start.
          let done : painting ≡ accepted (record {}) = ap (λ (x : SheetPainting). x.answer) e ∙ took in
          let law = Sheets-read.reads family codes grid print plane frame quads left written (sym e ∙ ap (λ (o : Outcome Done). painting_of o left written) done) passes position known s start in
          r ∙ ap (read_sheet frame family codes position s left written) done ∙ law.own.alone ∙ ap accepted law.tag;
    }

-- ---- the list of all its quads

-- a quad of a list's front is that quad of the list
quad_front : (l : List Float) (m i : ℕ) → quad_size * i + quad_size ≤ m → quad_at (take m l) i ≡ quad_at l i
quad_front l m i h =
    let at : (k : ℕ) → k < m → get_or (take m l) k nan ≡ get_or l k nan = λ k b. get_or-take m l k nan b in
    let point : (k : ℕ) → k + 1 < m → point_at (take m l) k ≡ point_at l k = λ k b. (λ j. record { x = at k (omega arith) j; y = at (k + 1) (omega arith) j }) in
    let p0 = point (quad_size * i) (omega arith) in
    let p2 = point (quad_size * i + 2) (omega arith) in
    let p4 = point (quad_size * i + 4) (omega arith) in
    let p6 = point (quad_size * i + 6) (omega arith) in
    λ j. record { q0 = p0 j; q1 = p2 j; q2 = p4 j; q3 = p6 j }

-- a sheet has no more tags than a list may have quads
pub few : {len : ℕ} {frame : Frame} {family : Family} {codes : List ℕ} {grid : Grid} {print : Print} {numbers : ℕ} → Sheetable len frame family codes grid print numbers → tag_count grid ≤ most_quads
few {frame = frame} {family = family} {codes = codes} {grid = grid} {print = print} s =
    omega (arith, (Good-grid frame family (length codes) grid print s.grids).counts.enough, (good_table family codes s.tables).coded.count.most)

module _ (plane : List ℕ) (frame : Frame) (family : Family) (codes : List ℕ) (grid : Grid) (print : Print) (quads : List Float) (rows : List ℕ) (corners : List Float)
    (left : List ℕ) (written : List Float) (kept : (length left ≡ length plane) × (length written ≡ length quads)) where
  abbrev list : List Float
  list = take (quad_size * tag_count grid) written

  -- what an accepted painting gives
  module _ (took : (paint_sheet plane frame family codes grid print quads).answer ≡ accepted (record {})) where
    sheets : Sheetable (length plane) frame family codes grid print (length quads)
    sheets = sheet_accepted plane frame family codes grid print quads took

    list-length : length list ≡ quad_size * tag_count grid
    list-length = length-take-le (quad_size * tag_count grid) written (omega (arith, room sheets, kept.1))

    list_answered : row_size * tag_count grid ≤ length rows → quad_size * tag_count grid ≤ length corners → (decode_quads left frame family codes list rows corners).answer ≡ accepted (tag_count grid)
    list_answered r c =
        let count : quad_count (quad_size * tag_count grid) ≡ tag_count grid = omega arith in
        accepts left frame list rows corners family codes
        (ap (λ (n : ℕ). bad_frame n frame) kept.0 ∙ sheets.planes) sheets.tables
        (ap (λ (n : ℕ). bad_list n (length rows) (length corners)) list-length ∙ list_fits (tag_count grid) (length rows) (length corners) (few sheets) r c)
        ∙ ap accepted (ap quad_count list-length ∙ count)

    module _ (n : ℕ) (a : (decode_quads left frame family codes list rows corners).answer ≡ accepted n) where
      all_tags : n ≡ tag_count grid
      all_tags =
          let count : quad_count (quad_size * tag_count grid) ≡ tag_count grid = omega arith in
          (Accepted-means left frame list rows corners family codes n a).count ∙ ap quad_count list-length ∙ count

      each_once : EachOnce written list (tag_count grid) n
      unfolding turned_left
      each_once = record {
        position = λ i. i;
        start = λ i. 0;
        known = λ i l. omega (arith, all_tags);
        start_lt = λ i l. omega arith;
        quad = λ i l. quad_front written (quad_size * tag_count grid) i (omega (arith, all_tags));
        once = λ i j l m e. e;
      }

-- a painting that answers and leaves what `paint_sheet` says, and a list reading of what it left
pub sheet_then_listed : (plane : List ℕ) (frame : Frame) (family : Family) (codes : List ℕ) (grid : Grid) (print : Print) (quads : List Float) (rows : List ℕ) (corners : List Float)
    (painting : Outcome Done) (left : List ℕ) (written : List Float) (result : Listing) → (length left ≡ length plane) × (length written ≡ length quads)
    → painting_of painting left written ≡ paint_sheet plane frame family codes grid print quads
    → result ≡ list_sheet frame family codes grid rows corners left written painting
    → SheetThenListed plane frame family codes grid print quads rows corners left written result
unfolding each_once
sheet_then_listed plane frame family codes grid print quads rows corners painting left written result kept e r =
    let done : (paint_sheet plane frame family codes grid print quads).answer ≡ accepted (record {}) → painting ≡ accepted (record {}) = λ took. ap (λ (x : SheetPainting). x.answer) e ∙ took in
    let read : painting ≡ accepted (record {}) → result ≡ decode_quads left frame family codes (take (quad_size * tag_count grid) written) rows corners
    = λ d. r ∙ ap (list_sheet frame family codes grid rows corners left written) d in
    record {
      shown = ap (λ (x : SheetPainting). x.plane) e;
      quads_written = ap (λ (x : SheetPainting). x.quads) e;
      read = r ∙ ap (list_sheet frame family codes grid rows corners left written) (ap (λ (x : SheetPainting). x.answer) e);
      answered = λ took row_room corner_room.
          ap (λ (x : Listing). x.answer) (read (done took))
          ∙ list_answered plane frame family codes grid print quads rows corners left written kept took row_room corner_room;
      whole = λ took passes n a.
          let d = done took in
          let s = read d in
          let b = sym (ap (λ (x : Listing). x.answer) s) ∙ a in (
            all_tags plane frame family codes grid print quads rows corners left written kept took n b,
            λ position l.
                let law = repeated.sheet family codes grid print plane frame quads left written (sym e ∙ ap (λ (o : Outcome Done). painting_of o left written) d) passes
                (take (quad_size * tag_count grid) written) rows corners n b (each_once plane frame family codes grid print quads rows corners left written kept took n b) position l in
                (ap (λ (x : Listing). row_at x.rows position) s ∙ law.0, ap (λ (x : Listing). corners_at x.corners position) s ∙ law.1),
          );
    }
