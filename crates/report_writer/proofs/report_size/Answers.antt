-- The tests before the loop are those of whole rows; then each row is taken off and looked at. Assumes nothing.
use mathlib.Core.Path.{sym, ap, ◌∙◌}
use mathlib.Core.Logic.{inl, inr}
use mathlib.Core.Bool.{Bool, cond}
use Prim.Native.Nat.{ℕ, ◌<◌}
use native.Mathlib.Omega.{arith}
use lib.ListN.{length}
use Rattle.std.specs.Slice.Iter.{chunks_exact_rest}
use Rattle.refusals.specs.Outcome.{Outcome, accepted, refused}
use Rattle.reader.specs.Reading.{Tag}
use Rattle.listing.specs.Listing.{row_size}
use Rattle.reader.specs.Answer.{paper_reading}
use Rattle.report.specs.Bytes.{row_bytes, report_of}
use Rattle.report.specs.Rows.{rows_say}
use Rattle.report.specs.Steps.{is_met, meet}
use Rattle.report.proofs.Good.{row_most}
use Rattle.report_writer.proofs.Rows.{rows_whole, corners_whole, no_reading}
use Rattle.report_writer.proofs.Pass.{Cut, Whole, found, none_left, fallen, met_before, goes_on}
use Rattle.report_writer.proofs.report_size.Goals.{After-row_stands, After-reading_of-row, then-rows-ne0-via-then-rows-ne0, then-rows-ne0-via-else-rows-ne0+then-corners-rows}
use Rattle.report_writer.proofs.report_size.Goals as goal

pub returns-then-rows-ne0 : goal.returns-then-rows-ne0
returns-then-rows-ne0 c =
    let rows = c.args.rows.now in
    let corners = c.args.corners.now in
    let answer : Bool → Outcome ℕ = λ b. cond b (accepted (length (report_of (rows_say rows corners)))) (refused 20) in
    sym (ap answer (no_reading rows corners (λ h. elim c.then-rows-ne0.branch [
      | then-rows-ne0-via-then-rows-ne0 w ↦ w.if-rows-ne0.true (omega (arith, rows_whole rows corners h))
      | then-rows-ne0-via-else-rows-ne0+then-corners-rows w ↦ w.if-corners-rows.true (corners_whole rows corners h)
    ])))

-- the row that is taken off, with its corner numbers
cut : (k : After-row_stands) → Cut (chunks_exact_rest k.loop-numbers.numbers-iterator.a) (chunks_exact_rest k.loop-numbers.numbers-iterator.b) k.in-Some.numbers.now k.in-Some.quad.now (chunks_exact_rest k.next.new.self.a) (chunks_exact_rest k.next.new.self.b)
cut k = let s = k.in-Some.ensures.steps in record {
  rows_are = s.0.1.0;
  four = s.0.1.1 ∙ k.loop-numbers.invariant.fours;
  corners_are = s.1.1.0;
  eight = s.1.1.1 ∙ k.loop-numbers.invariant.eights;
}

answer_is : (k : After-row_stands) → Whole k.args.rows.now k.args.corners.now
answer_is k = record { fours = omega (arith, k.if-rows-ne0.false); eights = k.if-corners-rows.false }

pub returns-then-not-row_stands : goal.returns-then-not-row_stands
returns-then-not-row_stands c =
    let k = (goal.at.returns-then-not-row_stands c).After-row_stands in
    fallen c.loop-numbers.invariant.looking (cut k) (sym c.row_stands.ensures ∙ c.if-not-row_stands.true) ∙ found c.args.rows.now c.args.corners.now (answer_is k)

pub returns-then-has : goal.returns-then-has
returns-then-has c =
    let k = (goal.at.returns-then-has c).After-row_stands in
    met_before c.loop-numbers.invariant.looking (cut k) (ap (is_met c.loop-numbers.met.ids) (sym c.reading_of-row.ensures) ∙ sym c.has.ensures ∙ c.if-has.true)
    ∙ found c.args.rows.now c.args.corners.now (answer_is k)

pub overflow_add-size : goal.overflow_add-size
overflow_add-size c = omega (arith, c.row_size-size.ensures, row_most (paper_reading c.reading_of-row.result), c.loop-numbers.invariant.looking.few)

pub loop-numbers-preserved : goal.loop-numbers-preserved
loop-numbers-preserved c =
    let k = (goal.at.loop-numbers-preserved c).After-row_stands in
    let s = c.in-Some.ensures.steps in
    let i = c.loop-numbers.invariant in
    let row = c.reading_of-row.ensures in
    let more = goes_on i.looking (cut k) (sym c.row_stands.ensures ∙ c.if-not-row_stands.false) (ap (is_met c.loop-numbers.met.ids) (sym row) ∙ sym c.has.ensures ∙ c.if-has.false) in
    record {
      fours = s.0.0 ∙ i.fours;
      eights = s.1.0 ∙ i.eights;
      looking = rw (c.add.ensures ∙ ap (meet c.loop-numbers.met.ids) row) (rw (c.row_size-size.ensures ∙ ap (λ (o : Outcome Tag). length (row_bytes o)) row) more);
    }

pub returns : goal.returns
returns c =
    let i = c.loop-numbers.invariant in
    let whole = i.looking.whole in
    let few : length (chunks_exact_rest c.loop-numbers.numbers-iterator.a) < row_size = elim c.in-None.ensures.steps [
      | inl s ↦ omega (arith, s.1.1.0, i.fours)
      | inr s ↦ omega (arith, s.1.1.0, i.eights, whole.fours, whole.eights)
    ] in
    none_left i.looking few ∙ found c.args.rows.now c.args.corners.now (record { fours = omega (arith, c.if-rows-ne0.false); eights = c.if-corners-rows.false })
