-- The clusters of a plane, from document 01: "A cluster is a connected set, by four neighbours, of all samples below the
-- threshold, with at least one off the border. Clusters come by their first such sample, row by row."
-- All is said of the plane as it was lent, with no order of work. Assumes nothing.
use Rattle.std.specs.Prelude.{ℕ, zero, suc, ◌+◌, ◌*◌, ◌/◌, ◌%◌, Bool, not, ◌&&◌, ◌||◌, cond, List, [], ◌∷◌, ◌++◌, eqb, length, get_or, Float}
use Rattle.std.specs.Float.{nan, binary32}
use Rattle.std.specs.Float.Ieee.{of_bits}
use Rattle.lists.specs.Each.{any}
use Rattle.lists.specs.Tab.{tabulate}
use Rattle.lists.specs.Sum.{sum}
use Rattle.refusals.specs.declared.Shape.{Shape}
use Rattle.clusters.specs.declared.Row.{Row}
use Rattle.clusters.specs.Connected.{below, connected}

-- sample i of a plane w wide and h high lies in the first or the last row or column
unfoldable pub border : ℕ → ℕ → ℕ → Bool
border w h i = eqb (i / w) 0 || eqb (i / w + 1) h || eqb (i % w) 0 || eqb (i % w + 1) w

-- the largest finite f32
abbrev pub max_f32 : Float
max_f32 = of_bits binary32 0x7f7f_ffff

-- the sum of f over the connected set of sample s
abbrev pub sum_over : Float → ℕ → List Float → ℕ → (ℕ → ℕ) → ℕ
sum_over threshold w plane s f = sum (length plane) (λ i. cond (connected threshold w plane s i) (f i) 0)

-- "Each has a row of three u64: sum of x, sum of y, count.": the row of the connected set of s
abbrev pub row_of : Float → ℕ → List Float → ℕ → Row
row_of threshold w plane s =
    record {
      x = sum_over threshold w plane s (λ i. i % w);
      y = sum_over threshold w plane s (λ i. i / w);
      count = sum_over threshold w plane s (λ _. 1);
    }

-- "Whole rows that fit are written, the rest of the row slice keeps its numbers"
unfoldable pub written : List Row → List ℕ → List ℕ
written [] slice = slice
written (row ∷ more) [] = []
written (row ∷ more) (a ∷ []) = a ∷ []
written (row ∷ more) (a ∷ b ∷ []) = a ∷ b ∷ []
written (row ∷ more) (a ∷ b ∷ c ∷ slice) = row.x ∷ row.y ∷ row.count ∷ written more slice

module _ (threshold : Float) (w h : ℕ) (plane : List Float) where
  -- sample s is below the threshold and off the border
  unfoldable pub seed : ℕ → Bool
  seed s = not (border w h s) && below threshold plane s

  -- sample i is in a cluster that has a seed before place k
  unfoldable pub clustered : ℕ → ℕ → Bool
  clustered k i = any k (λ s. seed s && connected threshold w plane s i)

  -- s is the first seed of its cluster
  unfoldable pub first : ℕ → Bool
  first s = seed s && not (clustered s s)

  -- the rows of the clusters that have a seed before place k, in the order of their first seeds
  unfoldable pub rows_of : ℕ → List Row
  rows_of zero = []
  rows_of (suc k) = rows_of k ++ cond (first k) (row_of threshold w plane k ∷ []) []

  -- "Afterwards clustered samples hold the largest finite f32.": here those in a cluster that has a seed before place k
  abbrev pub marked : ℕ → List Float
  marked k = tabulate (length plane) (λ i. cond (clustered k i) max_f32 (get_or plane i nan))

-- what clusters come to: the plane and the row slice afterwards, and the total
pub record Found : Type 0 where
  pub plane : List Float
  pub rows : List ℕ
  pub total : ℕ

-- what the clusters that have a seed before place k come to
abbrev pub found_before : Float → ℕ → ℕ → List Float → List ℕ → ℕ → Found
found_before threshold w h plane rows k =
    record {
      plane = marked threshold w h plane k;
      rows = written (rows_of threshold w h plane k) rows;
      total = length (rows_of threshold w h plane k);
    }

-- what all clusters come to; "the total counts all"
abbrev pub saddle_clusters : Float → Shape → List Float → List ℕ → Found
saddle_clusters threshold shape plane rows = found_before threshold shape.width shape.height plane rows (shape.width * shape.height)
