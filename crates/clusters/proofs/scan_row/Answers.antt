-- The loop keeps: all clusters that have a seed before place `from` are found.
use mathlib.Core.Path.{refl, ap, ◌∙◌}
use Prim.Native.Nat.{ℕ, ◌%◌, ◌<◌}
use native.Mathlib.Nat.{mul-mod_right}
use native.Mathlib.Omega.{arith}
use lib.ListN.{length}
use Rattle.refusals.proofs.Plane.{Plane, good_plane}
use Rattle.clusters.proofs.Scan.{Onward-trans, row_begins, row_goes_on, row_ends}
use Rattle.clusters.proofs.scan_row.Goals.{Start}
use Rattle.clusters.proofs.scan_row.Goals as goal

plane : (s : Start) → Plane (length s.args.mat.now) s.args.shape.width s.args.shape.height
plane s = good_plane s.requires.height_value

pos : (s : Start) → 0 < s.args.shape.width
pos s = (plane s).sides.wide

pub loop-i-init : goal.loop-i-init
loop-i-init c =
    let a = c.args in
    let wide = pos (goal.at.loop-i-init c).Start in
    record {
      onward = row_begins a.threshold a.shape wide c.requires.threshold_value.0 a.row c.requires.threshold_value.2 c.requires.threshold_value.3
          (record { plane = a.mat.now; rows = a.rows.now.slice.now; total = a.rows.now.total });
      begun = omega arith;
      in_row = omega (arith, wide);
      few = omega (arith, c.requires.threshold_value.4);
      long = refl;
      room = refl;
      same_loan = refl;
    }

pub pixel_bfs-requires-clause-width_nonzero : goal.pixel_bfs-requires-clause-width_nonzero
pixel_bfs-requires-clause-width_nonzero c =
    let i = c.loop-i.invariant in
    let w = c.args.shape.width in
    let p = plane (goal.at.pixel_bfs-requires-clause-width_nonzero c).Start in
    (p.sides.wide, p.sides.width_le, ap (λ (k : ℕ). k % w) (i.long ∙ p.whole) ∙ mul-mod_right w c.args.shape.height, omega (arith, i.long, p.few))

pub loop-i-preserved : goal.loop-i-preserved
loop-i-preserved c =
    let a = c.args in
    let l = c.loop-i in
    let i = c.in-Some.i in
    let e = c.in-Some.ensures.first in
    let push = c.push.ensures in
    record {
      onward = Onward-trans l.invariant.onward
          (row_goes_on a.threshold a.shape (pos (goal.at.loop-i-preserved c).Start) c.requires.threshold_value.0 a.row c.requires.threshold_value.2 c.requires.threshold_value.3
          (record { plane = l.mat; rows = l.rows.slice.now; total = l.rows.total }) l.from i e.0 e.3 (omega (arith, e.0, l.invariant.begun)) e.1 e.2
          c.pixel_bfs.new.mat c.push.new.self.slice.now c.push.new.self.total c.pixel_bfs.result
          c.pixel_bfs.ensures.0 c.pixel_bfs.ensures.1 push.written push.counted);
      begun = omega (arith, e.0, l.invariant.begun);
      in_row = omega (arith, e.1);
      few = omega (arith, e.0, l.invariant.few, push.counted);
      long = c.pixel_bfs.auto.mat ∙ l.invariant.long;
      room = c.pixel_bfs.auto.worklist ∙ l.invariant.room;
      same_loan = push.same_loan ∙ l.invariant.same_loan;
    }

pub returns-clause-onward : goal.returns-clause-onward
returns-clause-onward c =
    let a = c.args in
    let l = c.loop-i in
    Onward-trans l.invariant.onward
    (row_ends a.threshold a.shape (pos (goal.at.returns-clause-onward c).Start) c.requires.threshold_value.0 a.row c.requires.threshold_value.2 c.requires.threshold_value.3
    (record { plane = l.mat; rows = l.rows.slice.now; total = l.rows.total }) l.from l.invariant.in_row c.in_default.ensures.nothing)
