-- What the steps of the scan and of the walk do, for the contracts of the functions that make them. No public contract cites
-- these. Assumes nothing.
use Rattle.std.specs.Prelude.{ℕ, ◌+◌, ◌-◌, ◌*◌, ◌%◌, ◌≤◌, ◌<◌, ◌≡◌, Bool, false, cond, List, [], ◌∷◌, ◌++◌, leb, ltb, length, get_or, take, set, Float}
use Rattle.std.specs.Float.{nan}
use Rattle.lists.specs.Tab.{tabulate}
use Rattle.refusals.specs.declared.Shape.{Shape}
use Rattle.clusters.specs.declared.Row.{Row}
use Rattle.clusters.specs.Connected.{below, connected}
use Rattle.clusters.specs.Clusters.{max_f32, Found, found_before}

-- how far a walk has come: the plane, and the samples that wait on the worklist
pub record Walk : Type 0 where
  pub plane : List Float
  pub waiting : List ℕ

abbrev pub walk : List Float → ℕ → List ℕ → Walk
walk plane pending worklist = record { plane = plane; waiting = take pending worklist }

-- a sample that is below the threshold is set to the largest f32, and waits
unfoldable pub claimed : Float → ℕ → Walk → Walk
claimed threshold at v =
    cond (below threshold v.plane at)
    (record { plane = set v.plane at max_f32; waiting = v.waiting ++ (at ∷ []) })
    v

-- a neighbour is claimed, where it lies in the plane
unfoldable pub claimed_if : Float → Bool → ℕ → Walk → Walk
claimed_if threshold inside at v = cond inside (claimed threshold at v) v

-- The neighbours of sample p in a plane of n samples, w wide: the one to its left, to its right, above it and below it.
abbrev pub claimed_beside : Float → ℕ → ℕ → ℕ → Walk → Walk
claimed_beside t w n p v =
    claimed_if t (ltb (p + w) n) (p + w)
    (claimed_if t (leb w p) (p - w)
    (claimed_if t (ltb (p % w + 1) w) (p + 1)
    (claimed_if t (ltb 0 (p % w)) (p - 1) v)))

-- the plane with the connected set of s at the largest f32
abbrev pub erased : Float → ℕ → List Float → ℕ → List Float
erased t w plane s = tabulate (length plane) (λ i. cond (connected t w plane s i) max_f32 (get_or plane i nan))

-- no sample from place a on and before place r is below the threshold
abbrev pub NoneBelow : Float → List Float → ℕ → ℕ → Type 0
NoneBelow threshold plane a r = (j : ℕ) → a ≤ j → j < r → below threshold plane j ≡ false

-- row k of the row slice is written, where there is room for it
unfoldable pub put : List ℕ → ℕ → Row → List ℕ
put rows k row =
    cond (leb (3 * k + 3) (length rows)) (set (set (set rows (3 * k) row.x) (3 * k + 1) row.y) (3 * k + 2) row.count) rows

-- the work goes on from the clusters before place a to those before place b, at whatever plane and row slice it began
pub record Onward (threshold : Float) (shape : Shape) (a : ℕ) (f : Found) (b : ℕ) (g : Found) : Type 0 where
  pub onward : (plane : List Float) (rows : List ℕ)
      → f ≡ found_before threshold shape.width shape.height plane rows a
      → g ≡ found_before threshold shape.width shape.height plane rows b
