-- The loop keeps `State` of the plane that was lent. The measure is the number of samples not yet counted.
use mathlib.Core.Path.{◌≡◌}
use mathlib.Core.Bool.{false}
use mathlib.Core.List.{[]}
use Prim.Native.Nat.{◌-◌, ◌≤◌}
use lib.ListN.{length}
use Rattle.clusters.specs.Connected.{below}
use Rattle.clusters.specs.Walk.{walk}
use Rattle.clusters.proofs.Walk.{State}
use Rattle.clusters.proofs.pixel_bfs.Given as goal

abbrev pub invariant-loop-walker : goal.invariant-loop-walker
invariant-loop-walker l = record {
  state : State l.threshold l.width l.fn.mat l.seed [] (walk l.walker.mat.now l.walker.pending l.walker.worklist.now) l.x l.y l.count;
  gone : below l.threshold l.walker.mat.now l.seed ≡ false;
  inside : l.walker.pending ≤ length l.walker.worklist.now;
  long : length l.walker.worklist.now ≡ length l.fn.worklist;
  same_threshold : l.walker.threshold ≡ l.threshold;
  same_loans : (l.walker.mat.ghost_name ≡ l.initial.walker.mat.ghost_name) × (l.walker.worklist.ghost_name ≡ l.initial.walker.worklist.ghost_name);
}

abbrev pub decreases-loop-walker : goal.decreases-loop-walker
decreases-loop-walker l = length l.fn.mat - l.count
