-- The outcome of `init_saddle_clusters` for all inputs: "clusters 1, 3, 4, 5". Assumes nothing.
use Rattle.std.specs.Prelude.{◌≡◌, ℕ, ◌+◌, ◌*◌, cond, not, List, ltb, length, Float}
use Rattle.std.specs.Float.Ieee.Scale.{finite}
use Rattle.lists.specs.Tab.{all}
use Rattle.refusals.specs.declared.Shape.{Shape}
use Rattle.refusals.specs.Outcome.{Outcome, accepted, refused}
use Rattle.refusals.specs.Plane.{bad_plane}
use Rattle.samples.specs.Samples.{tame}
use Rattle.clusters.specs.Clusters.{saddle_clusters}

-- what a call leaves: its answer, the plane and the row slice
pub record Call : Type 0 where
  pub answer : Outcome ℕ
  pub plane : List Float
  pub rows : List ℕ

abbrev pub call : Outcome ℕ → List Float → List ℕ → Call
call answer plane rows = record { answer = answer; plane = plane; rows = rows }

-- the clusters, with a worklist of the given length; a refused call changes neither plane nor rows
unfoldable pub init_saddle_clusters : List Float → Shape → Float → ℕ → List ℕ → Call
init_saddle_clusters plane shape threshold worklist rows =
    cond (bad_plane (length plane) shape.width shape.height) (call (refused 1) plane rows)
    (cond (not (all tame plane)) (call (refused 3) plane rows)
    (cond (not (finite threshold)) (call (refused 4) plane rows)
    (cond (ltb worklist (3 * shape.width * shape.height + 1)) (call (refused 5) plane rows)
    (let f = saddle_clusters threshold shape plane rows in call (accepted f.total) f.plane f.rows))))

-- What holds of the worklist after a call. "The worklist has no promise", but it is as long as before, and a refused call leaves it
-- as it was.
abbrev pub WorklistKept : Outcome ℕ → List ℕ → List ℕ → Type 0
WorklistKept (accepted n) before after = length after ≡ length before
WorklistKept (refused n) before after = after ≡ before
