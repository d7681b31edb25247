-- Before row q, the first q rows that the report says have been put, and the bytes from `at` on say the others. Assumes nothing.
use mathlib.Core.Path.{◌≡◌, refl, sym, ap, subst, ◌∙◌}
use mathlib.Core.List.{List, flat_map}
use Prim.Native.Nat.{ℕ, ◌+◌, ◌*◌}
use native.Mathlib.Omega.{arith}
use lib.ListN.{length, drop}
use lib.Seq.{sets}
use Rattle.lists.specs.Front.{in_front}
use Rattle.lists.proofs.Flat.{parts_none, parts_more}
use Rattle.refusals.specs.Outcome.{Outcome}
use Rattle.points.specs.Numbers.{quad_size}
use Rattle.reader.specs.Reading.{Tag}
use Rattle.reader.specs.Answer.{paper_reading}
use Rattle.listing.specs.Listing.{row_size, row_of, corners_of}
use Rattle.listing.proofs.Sizes.{row_size_lem, corners_size}
use Rattle.report.specs.Bytes.{row_bytes}
use Rattle.report.specs.Report.{row_in}
use Rattle.report.specs.Steps.{bytes_stand}
use Rattle.report.proofs.Same.{part_from}
use Rattle.report_reader.proofs.Put.{row_at, Behind, Behind-first, Next, Behind-next, rows_all, rows_say}
use Rattle.report_reader.proofs.put_rows.Goals.{After-reading_of-row, After-row_size-at, In-loop-q}
use Rattle.report_reader.proofs.put_rows.Goals as goal

pub loop-q-init : goal.loop-q-init
loop-q-init c =
    let report = c.args.report.now in
    let count = c.args.count in (
      Behind-first report count c.requires.0 c.requires.1 c.requires.2,
      parts_none row_of row_size row_size_lem (row_at report count) c.args.rows.now,
      parts_none corners_of quad_size corners_size (row_at report count) c.args.corners.now,
      refl,
      refl,
    )

next : (t : In-loop-q) → Next t.args.report.now t.args.count t.loop-q.q t.loop-q.at
next t = Behind-next t.args.report.now t.args.count t.loop-q.q t.loop-q.at t.loop-q-test.true t.loop-q.invariant.0

pub reading_of-row-requires : goal.reading_of-row-requires
reading_of-row-requires c = ap bytes_stand (part_from c.args.report.now c.loop-q.at) ∙ (next (goal.at.reading_of-row-requires c).In-loop-q).stands

-- the row that was read is row q
read_is : (r : After-reading_of-row) → paper_reading r.reading_of-row.result ≡ row_at r.args.report.now r.args.count r.loop-q.q
read_is r = r.reading_of-row.ensures ∙ ap row_in (part_from r.args.report.now r.loop-q.at) ∙ sym (next (goal.at.After-reading_of-row r).In-loop-q).row

pub put_row-requires : goal.put_row-requires
put_row-requires c = omega (arith, c.loop-q-test.true, c.loop-q.invariant.3, c.requires.3)

pub put_corners-requires : goal.put_corners-requires
put_corners-requires c =
    omega (arith, c.loop-q-test.true, c.loop-q.invariant.4, c.requires.4)

size_is : (c : After-row_size-at) → c.row_size-at.result ≡ length (row_bytes (row_in (drop c.loop-q.at c.args.report.now)))
size_is c = c.row_size-at.ensures ∙ ap (λ (o : Outcome Tag). length (row_bytes o)) (read_is (goal.at.After-row_size-at c).After-reading_of-row ∙ (next (goal.at.After-row_size-at c).In-loop-q).row)

pub overflow_add-at : goal.overflow_add-at
overflow_add-at c = omega (arith, size_is c, (next (goal.at.overflow_add-at c).In-loop-q).more.within)

-- what is put for row q
put_is : {A : Type 0} (f : Outcome Tag → List A) (w : ℕ) (c : After-row_size-at) (out out₂ : List A) → out₂ ≡ sets out (w * c.loop-q.q) (f (paper_reading c.reading_of-row.result)) → out₂ ≡ sets out (w * c.loop-q.q) (f (row_at c.args.report.now c.args.count c.loop-q.q))
put_is f w c out out₂ e = e ∙ ap (λ (o : Outcome Tag). sets out (w * c.loop-q.q) (f o)) (read_is (goal.at.After-row_size-at c).After-reading_of-row)

pub loop-q-preserved : goal.loop-q-preserved
loop-q-preserved c =
    let n = c.args.count in
    let q = c.loop-q.q in (
      subst (λ (x : ℕ). Behind c.args.report.now n (q + 1) (c.loop-q.at + x)) (sym (size_is c)) (next (goal.at.loop-q-preserved c).In-loop-q).more,
      put_is row_of row_size c c.loop-q.rows _ c.put_row.ensures
          ∙ parts_more row_of row_size row_size_lem (row_at c.args.report.now n) q c.args.rows.now c.loop-q.rows (omega (arith, c.loop-q-test.true, c.requires.3)) c.loop-q.invariant.1,
      put_is corners_of quad_size c c.loop-q.corners _ c.put_corners.ensures
          ∙ parts_more corners_of quad_size corners_size (row_at c.args.report.now n) q c.args.corners.now c.loop-q.corners (omega (arith, c.loop-q-test.true, c.requires.4)) c.loop-q.invariant.2,
      c.put_row.auto.rows ∙ c.loop-q.invariant.3,
      c.put_corners.auto.corners ∙ c.loop-q.invariant.4,
    )

pub shape_of-rows : goal.shape_of-rows
shape_of-rows c = c.loop-q.invariant.3

pub shape_of-corners : goal.shape_of-corners
shape_of-corners c = c.loop-q.invariant.4

pub returns : goal.returns
returns c =
    let all = rows_all c.args.report.now c.args.count c.loop-q.q (omega arith) ∙ rows_say c.args.report.now c.args.count c.requires.1 in
    record {
      rows_are = c.loop-q.invariant.1 ∙ ap (λ (x : List (Outcome Tag)). in_front (flat_map row_of x) c.args.rows.now) all;
      corners_are = c.loop-q.invariant.2 ∙ ap (λ (x : List (Outcome Tag)). in_front (flat_map corners_of x) c.args.corners.now) all;
    }
