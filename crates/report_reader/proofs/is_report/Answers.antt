-- Before row q, looking at the bytes from `at` on finds what looking at all of them finds (`report_placed`). Assumes nothing.
use mathlib.Core.Path.{◌≡◌, sym, ap, ap₂, ◌∙◌}
use mathlib.Core.Bool.{Bool, true, false}
use mathlib.Core.List.{List}
use Prim.Native.Nat.{ℕ, ◌+◌, ◌≤◌}
use native.Mathlib.Omega.{arith}
use lib.ListN.{length, drop, replicate, length-drop}
use Rattle.refusals.specs.Outcome.{Outcome}
use Rattle.reader.specs.Reading.{Tag}
use Rattle.reader.specs.Answer.{paper_reading}
use Rattle.report.specs.Bytes.{row_bytes}
use Rattle.report.specs.Report.{row_in, is_report}
use Rattle.report.specs.Steps.{bytes_stand, byte_candidates, is_met, meet, placed}
use Rattle.report.proofs.Same.{part_from}
use Rattle.report_reader.specs.Steps.{ends_at}
use Rattle.report_reader.proofs.Stands.{stands_long}
use Rattle.report_reader.proofs.Whole.{report_placed, left, fallen, met_before, goes_on, none_left_over}
use Rattle.report_reader.proofs.is_report.Goals.{After-row_size-at, At-loop-q, In-Some}
use Rattle.report_reader.proofs.is_report.Goals as goal

-- looking at the bytes from here on gives the answer
from_here : (l : At-loop-q) → is_report l.args.report.now ≡ ends_at (length l.args.report.now) (placed l.loop-q.met.ids (left l.args.report.now l.args.count l.loop-q.q l.loop-q.at) l.loop-q.at)
from_here l =
    report_placed l.args.report.now l.requires.0 (λ k. omega (arith, l.type_inv.report k))
    ∙ ap (ends_at (length l.args.report.now)) (ap (λ (n : ℕ). placed (replicate 1024 false) (byte_candidates n (drop 2 l.args.report.now)) 2) (sym l.requires.1) ∙ l.loop-q.invariant.1)

pub loop-q-init : goal.loop-q-init
loop-q-init c = (
  omega (arith, c.requires.0),
  ap₂ (λ (m : List Bool) (n : ℕ). placed m (byte_candidates n (drop 2 c.args.report.now)) 2) (sym c.none-met.ensures) (omega arith),
)

pub returns-in_default : goal.returns-in_default
returns-in_default c =
    sym (from_here (goal.at.returns-in_default c).At-loop-q ∙ ap (ends_at (length c.args.report.now))
    (fallen c.args.report.now c.args.count c.loop-q.q c.loop-q.at c.loop-q-test.true c.loop-q.met.ids (sym (ap bytes_stand (part_from c.args.report.now c.loop-q.at)) ∙ c.in_default.ensures.nothing)))

-- the row that was read, which stands
module _ (r : In-Some) where
  stands : bytes_stand (drop r.loop-q.at r.args.report.now) ≡ true
  stands = sym (ap bytes_stand (part_from r.args.report.now r.loop-q.at)) ∙ r.in-Some.ensures.row.0

  read_is : paper_reading r.in-Some.row ≡ row_in (drop r.loop-q.at r.args.report.now)
  read_is = r.in-Some.ensures.row.1 ∙ ap row_in (part_from r.args.report.now r.loop-q.at)

  -- all of it is there
  within : r.loop-q.at + length (row_bytes (row_in (drop r.loop-q.at r.args.report.now))) ≤ length r.args.report.now
  within = omega (arith, stands_long (drop r.loop-q.at r.args.report.now) stands, length-drop r.loop-q.at r.args.report.now, r.loop-q.invariant.0)

pub returns-then-has : goal.returns-then-has
returns-then-has c =
    sym (from_here (goal.at.returns-then-has c).At-loop-q ∙ ap (ends_at (length c.args.report.now))
    (met_before c.args.report.now c.args.count c.loop-q.q c.loop-q.at c.loop-q-test.true c.loop-q.met.ids (ap (is_met c.loop-q.met.ids) (sym (read_is (goal.at.returns-then-has c).In-Some)) ∙ sym c.has.ensures ∙ c.if-has.true)))

size_is : (c : After-row_size-at) → c.row_size-at.result ≡ length (row_bytes (row_in (drop c.loop-q.at c.args.report.now)))
size_is c = c.row_size-at.ensures ∙ ap (λ (o : Outcome Tag). length (row_bytes o)) (read_is (goal.at.After-row_size-at c).In-Some)

pub overflow_add-at : goal.overflow_add-at
overflow_add-at c = omega (arith, size_is c, within (goal.at.overflow_add-at c).In-Some)

pub loop-q-preserved : goal.loop-q-preserved
loop-q-preserved c =
    let q = c.loop-q.q in
    let n = c.args.count in (
      omega (arith, size_is c, within (goal.at.loop-q-preserved c).In-Some),
      c.loop-q.invariant.1
          ∙ goes_on c.args.report.now n q c.loop-q.at c.loop-q-test.true c.loop-q.met.ids (stands (goal.at.loop-q-preserved c).In-Some) (ap (is_met c.loop-q.met.ids) (sym (read_is (goal.at.loop-q-preserved c).In-Some)) ∙ sym c.has.ensures ∙ c.if-has.false)
          ∙ sym (ap₂ (λ (m : List Bool) (k : ℕ). placed m (left c.args.report.now n (q + 1) (c.loop-q.at + k)) (c.loop-q.at + k)) (c.add.ensures ∙ ap (meet c.loop-q.met.ids) (read_is (goal.at.loop-q-preserved c).In-Some)) (size_is c)),
    )

pub returns : goal.returns
returns c =
    sym (from_here (goal.at.returns c).At-loop-q ∙ ap (ends_at (length c.args.report.now)) (none_left_over c.args.report.now c.args.count c.loop-q.q c.loop-q.at c.loop-q.met.ids c.loop-q-test.false))
