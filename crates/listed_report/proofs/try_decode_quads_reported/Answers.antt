-- The list reader's answer, taken apart; then `list_reported`. Assumes nothing.
use mathlib.Core.Path.{sym, ap, ◌∙◌}
use Prim.Native.Nat.{ℕ, ◌*◌, ◌≤◌}
use native.Mathlib.Omega.{arith}
use lib.ListN.{length}
use lib.Seq.{length-take-le}
use Rattle.std.specs.Prelude.{Result}
use Rattle.refusals.specs.Outcome.{Outcome, accepted}
use Rattle.refusals.specs.Numbers.{outcome}
use Rattle.refusals.proofs.Passed.{passed_on}
use Rattle.refusals.specs.declared.refusal.Refusal.{Refusal}
use Rattle.points.specs.Numbers.{quad_size}
use Rattle.listing.specs.Listing.{row_size, most_quads, Listing, listing_of}
use Rattle.muosleap_report.specs.Reports.{writing_of}
use Rattle.listed_report.proofs.Reported.{write_list, room, list_reported}
use Rattle.listed_report.proofs.try_decode_quads_reported.Goals.{In_ok-n}
use Rattle.listed_report.proofs.try_decode_quads_reported.Goals as goal

-- it has few, and the outputs, which keep their lengths, have room for them
roomy : (t : In_ok-n) → (t.in_ok-n.n ≤ most_quads) × (row_size * t.in_ok-n.n ≤ length t.try_decode_quads.new.rows) × (quad_size * t.in_ok-n.n ≤ length t.try_decode_quads.new.corners)
roomy t =
    let a = t.args in
    let r = room a.plane.now a.frame a.family a.codes.now a.quads.now a.rows.now a.corners.now t.in_ok-n.n
    (sym (ap (λ (x : Listing). x.answer) t.try_decode_quads.ensures) ∙ ap outcome t.in_ok-n.was) in
    (r.0, omega (arith, r.1, t.try_decode_quads.auto.rows), omega (arith, r.2, t.try_decode_quads.auto.corners))

pub overflow_mul-n : goal.overflow_mul-n
overflow_mul-n c = omega (arith, (roomy (goal.at.overflow_mul-n c).In_ok-n).0)

pub overflow_mul-n-2 : goal.overflow_mul-n-2
overflow_mul-n-2 c = omega (arith, (roomy (goal.at.overflow_mul-n-2 c).In_ok-n).0)

pub slice_bounds-write_report-end : goal.slice_bounds-write_report-end
slice_bounds-write_report-end c = (roomy (goal.at.slice_bounds-write_report-end c).In_ok-n).1

pub slice_bounds-write_report-end-3 : goal.slice_bounds-write_report-end-3
slice_bounds-write_report-end-3 c = (roomy (goal.at.slice_bounds-write_report-end-3 c).In_ok-n).2

pub slice_bounds-write_report-end-2 : goal.slice_bounds-write_report-end-2
slice_bounds-write_report-end-2 c = sym (length-take-le _ c.try_decode_quads.new.rows (roomy (goal.at.slice_bounds-write_report-end-2 c).In_ok-n).1)

pub slice_bounds-write_report-end-4 : goal.slice_bounds-write_report-end-4
slice_bounds-write_report-end-4 c = sym (length-take-le _ c.try_decode_quads.new.corners (roomy (goal.at.slice_bounds-write_report-end-4 c).In_ok-n).2)

pub returns-in_err-n : goal.returns-in_err-n
returns-in_err-n c =
    let a = c.args in
    list_reported a.plane.now a.frame a.family a.codes.now a.quads.now a.rows.now a.corners.now a.report.now
    (outcome c.try_decode_quads.result) c.try_decode_quads.new.rows c.try_decode_quads.new.corners _ _ c.try_decode_quads.ensures
    (ap (λ (o : Outcome ℕ). writing_of o a.report.now) (passed_on accepted c.from_residual.result c.in_err-n.field-0.0 c.from_residual.ensures.1)
    ∙ sym (ap (λ (x : Result ℕ Refusal). write_list a.report.now (listing_of (outcome x) c.try_decode_quads.new.rows c.try_decode_quads.new.corners) (outcome x)) c.in_err-n.was))

pub returns : goal.returns
returns c =
    let a = c.args in
    list_reported a.plane.now a.frame a.family a.codes.now a.quads.now a.rows.now a.corners.now a.report.now
    (outcome c.try_decode_quads.result) c.try_decode_quads.new.rows c.try_decode_quads.new.corners _ _ c.try_decode_quads.ensures
    (c.write_report.ensures
    ∙ sym (ap (λ (x : Result ℕ Refusal). write_list a.report.now (listing_of (outcome x) c.try_decode_quads.new.rows c.try_decode_quads.new.corners) (outcome x)) c.in_ok-n.was))
