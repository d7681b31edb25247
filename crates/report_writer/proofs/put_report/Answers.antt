-- The number of rows is put; then each row is taken off and put. Assumes nothing.
use Rattle.std.proofs.Common.{rules}
use mathlib.Core.Path.{refl, ap, ◌∙◌}
use mathlib.Core.Logic.{inl, inr}
use mathlib.Core.List.{◌++◌}
use Prim.Native.Nat.{ℕ, ◌<◌}
use native.Mathlib.Omega.{arith}
use lib.ListN.{length, drop}
use Rattle.std.specs.Slice.Iter.{chunks_exact_rest}
use Rattle.listing.specs.Listing.{row_size}
use Rattle.report.specs.Bytes.{low_first, row_bytes, report_of}
use Rattle.report.specs.Rows.{rows_say}
use Rattle.text.proofs.Join.{put_more, put_front, as_text}
use Rattle.report_writer.proofs.Pass.{Cut, report_long, report_is, whole_rows, whole_next, putting_first, putting_done, next_stands, next_good, next_fits, putting_more}
use Rattle.report_writer.proofs.put_report.Goals.{After-reading_of}
use Rattle.report_writer.proofs.put_report.Goals as goal

pub put_two-requires : goal.put_two-requires
put_two-requires c = omega (arith, c.requires.2, report_long (rows_say c.args.rows.now c.args.corners.now))

pub loop-numbers-init : goal.loop-numbers-init
unfolding low_first
loop-numbers-init c =
    let rows = c.args.rows.now in
    let corners = c.args.corners.now in
    let whole = whole_rows c.requires.0 in
    let putting = putting_first rows corners c.put_two.new.output c.requires.0 (omega (arith, c.requires.2, c.put_two.ensures, report_long (rows_say rows corners))) in
    search (rules, whole, putting)

pub reading_of-requires : goal.reading_of-requires
reading_of-requires c =
    let s = c.in-Some.ensures.steps in
    let i = c.loop-numbers.invariant in
    let four = s.0.1.1 ∙ i.fours in
    let eight = s.1.1.1 ∙ i.eights in
    (omega (arith, four), omega (arith, eight), next_stands i.putting (record { rows_are = s.0.1.0; four = four; corners_are = s.1.1.0; eight = eight }))

-- the row that is taken off, with its corner numbers
module _ (k : After-reading_of) where
  cut : Cut (chunks_exact_rest k.loop-numbers.numbers-iterator.a) (chunks_exact_rest k.loop-numbers.numbers-iterator.b) k.in-Some.numbers.now k.in-Some.quad.now (chunks_exact_rest k.next.new.self.a) (chunks_exact_rest k.next.new.self.b)
  cut = let s = k.in-Some.ensures.steps in record {
    rows_are = s.0.1.0;
    four = s.0.1.1 ∙ k.loop-numbers.invariant.fours;
    corners_are = s.1.1.0;
    eight = s.1.1.1 ∙ k.loop-numbers.invariant.eights;
  }

pub put_row-requires : goal.put_row-requires
put_row-requires c =
    let k = (goal.at.put_row-requires c).After-reading_of in
    let p = c.loop-numbers.invariant.putting in
    rw c.reading_of.ensures (next_good p (cut k), next_fits p (cut k))

pub loop-numbers-preserved : goal.loop-numbers-preserved
loop-numbers-preserved c =
    let k = (goal.at.loop-numbers-preserved c).After-reading_of in
    let s = c.in-Some.ensures.steps in
    let i = c.loop-numbers.invariant in
    record {
      fours = s.0.0 ∙ i.fours;
      eights = s.1.0 ∙ i.eights;
      whole = whole_next (cut k) i.whole;
      putting = putting_more i.putting (cut k) (as_text (ap row_bytes c.reading_of.ensures) c.put_row.ensures);
    }

pub returns : goal.returns
unfolding low_first
returns c =
    let rows = c.args.rows.now in
    let corners = c.args.corners.now in
    let i = c.loop-numbers.invariant in
    let few : length (chunks_exact_rest c.loop-numbers.numbers-iterator.a) < row_size = elim c.in-None.ensures.steps [
      | inl s ↦ omega (arith, s.1.1.0, i.fours)
      | inr s ↦ omega (arith, s.1.1.0, i.eights, i.whole.fours, i.whole.eights)
    ] in
    let all = put_more (report_is rows corners) (omega (arith, c.requires.2, report_long (rows_say rows corners))) c.put_two.ensures (putting_done i.putting few) in
    let printed = put_front refl all in
    let bytes = printed.bytes ∙ ap (λ (n : ℕ). report_of (rows_say rows corners) ++ drop n c.args.report.now) printed.number in
    (printed.number, grind (arith, all.same_loan, bytes))
