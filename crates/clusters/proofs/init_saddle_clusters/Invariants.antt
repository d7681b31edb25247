-- The loop keeps: all clusters that have a seed before the row are found, over the plane and the row slice that were lent.
use Rattle.std.proofs.Common.{◌≡◌, ◌*◌, ◌≤◌}
use Rattle.clusters.specs.Clusters.{Found, found_before}
use Rattle.clusters.proofs.init_saddle_clusters.Given as goal

abbrev pub invariant-loop-row : goal.invariant-loop-row
invariant-loop-row l = record {
  found : ◌≡◌ {A = Found} (record { plane = l.h_mat; rows = l.found.slice.now; total = l.found.total }) (found_before l.threshold l.shape.width l.shape.height l.initial.h_mat l.initial.found.slice.now (l.row * l.shape.width));
  few : l.found.total ≤ l.row * l.shape.width;
  inside : l.row ≤ l.shape.height;
  same_loan : l.found.slice.ghost_name ≡ l.initial.found.slice.ghost_name;
}
