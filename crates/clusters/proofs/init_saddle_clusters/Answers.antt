-- One more row is scanned.
use Rattle.std.proofs.Common.{◌≡◌, refl, sym, ◌∙◌, false, rules, length, arith}
use lib.Ieee.{lt}
use Rattle.refusals.proofs.Plane.{Plane, good_plane}
use Rattle.clusters.specs.Clusters.{max_f32}
use Rattle.clusters.proofs.Largest.{none_above}
use Rattle.clusters.proofs.Scan.{scan_begins, scan_ends}
use Rattle.clusters.proofs.init_saddle_clusters.Goals.{Start}
use Rattle.clusters.proofs.init_saddle_clusters.Goals as goal

module _ (s : Start) where
  plane : Plane (length s.args.h_mat.now) s.args.shape.width s.args.shape.height
  plane = good_plane s.requires.height_value

  big : lt max_f32 s.args.threshold ≡ false
  big = none_above s.args.threshold s.well_formed.1.1.0.1 s.requires.threshold_value.0

pub loop-row-init : goal.loop-row-init
loop-row-init c =
    let p = plane (goal.at.loop-row-init c).Start in
    record {
      found = scan_begins c.args.threshold c.args.shape p.sides.wide (big (goal.at.loop-row-init c).Start) c.args.h_mat.now c.args.rows.now;
      few = omega arith;
      inside = omega (arith, p.sides.high);
      same_loan = refl;
    }

pub scan_row-requires-clause-threshold_value : goal.scan_row-requires-clause-threshold_value
scan_row-requires-clause-threshold_value c =
    let l = c.loop-row in
    (big (goal.at.scan_row-requires-clause-threshold_value c).Start, omega (arith, l.auto.h_mat, l.auto.worklist, c.requires.threshold_value.1), omega arith, omega arith, l.invariant.few)

pub loop-row-preserved : goal.loop-row-preserved
loop-row-preserved c = record {
  found = c.scan_row.ensures.onward.onward c.args.h_mat.now c.args.rows.now c.loop-row.invariant.found;
  few = c.scan_row.ensures.upper_bound;
  inside = omega arith;
  same_loan = c.scan_row.ensures.same_loan ∙ c.loop-row.invariant.same_loan;
}

pub returns : goal.returns
returns c =
    let l = c.loop-row in
    let same_loan = sym l.invariant.same_loan in
    let found = (scan_ends c.args.threshold c.args.shape (plane (goal.at.returns c).Start).sides.wide (big (goal.at.returns c).Start)
    (record { plane = l.h_mat; rows = l.found.slice.now; total = l.found.total }) l.row l.invariant.inside (omega arith)
    ).onward c.args.h_mat.now c.args.rows.now l.invariant.found in
    search (rules, same_loan, found)
