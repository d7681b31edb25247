-- Connected samples of a plane, from document 01: "a connected set, by four neighbours, of all samples below the threshold".
-- A plane is the list of its samples, row by row: sample i of a plane w wide lies in column i % w of row i / w.
-- A set of samples is a test of places. Assumes nothing.
use Rattle.std.specs.Prelude.{ℕ, zero, suc, ◌+◌, ◌-◌, ◌%◌, Bool, ◌&&◌, ◌||◌, List, leb, ltb, eqb, length, get_or, Float}
use Rattle.std.specs.Float.{nan}
use Rattle.std.specs.Float.Ieee.{lt}

-- sample i is below the threshold; a place past the plane's end is not
abbrev pub below : Float → List Float → ℕ → Bool
below threshold plane i = lt (get_or plane i nan) threshold

-- a neighbour of sample i is in the set: the one to its left, to its right, above it or below it
unfoldable pub beside : ℕ → (ℕ → Bool) → ℕ → Bool
beside w set i = (ltb 0 (i % w) && set (i - 1)) || (ltb (i % w + 1) w && set (i + 1)) || (leb w i && set (i - w)) || set (i + w)

-- A path of at most k steps leads from s to i: i is s, or a path of one step less leads to a neighbour of i. All samples of the
-- path are in the set.
unfoldable pub reach : ℕ → (ℕ → Bool) → ℕ → ℕ → ℕ → Bool
reach w set s zero i = set i && eqb i s
reach w set s (suc k) i = set i && (eqb i s || beside w (reach w set s k) i)

-- sample i is in the connected set of sample s; no path needs more steps than the plane has samples
abbrev pub connected : Float → ℕ → List Float → ℕ → ℕ → Bool
connected threshold w plane s = reach w (below threshold plane) s (length plane)
