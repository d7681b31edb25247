-- The loop keeps: all clusters that have a seed before place `from` are found.
use mathlib.Core.Path.{◌≡◌}
use Prim.Native.Nat.{◌+◌, ◌-◌, ◌<◌, ◌≤◌}
use lib.ListN.{length}
use Rattle.clusters.specs.Walk.{Onward}
use Rattle.clusters.proofs.scan_row.Given as goal

abbrev pub invariant-loop-i : goal.invariant-loop-i
invariant-loop-i l = record {
  onward : Onward l.threshold l.shape l.start (record { plane = l.initial.mat; rows = l.initial.rows.slice.now; total = l.initial.rows.total }) l.from (record { plane = l.mat; rows = l.rows.slice.now; total = l.rows.total });
  begun : l.start < l.from;
  in_row : l.from ≤ l.start + l.shape.width;
  few : l.rows.total ≤ l.from;
  long : length l.mat ≡ length l.initial.mat;
  room : length l.worklist ≡ length l.initial.worklist;
  same_loan : l.rows.slice.ghost_name ≡ l.initial.rows.slice.ghost_name;
}

abbrev pub decreases-loop-i : goal.decreases-loop-i
decreases-loop-i l = l.end - l.from
