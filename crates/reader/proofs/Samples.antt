-- One sample, from its row and column in the square, and all of them. Assumes nothing.
use mathlib.Core.Path.{◌≡◌, refl, sym, ap, ap₂, ◌∙◌, subst}
use mathlib.Core.Bool.{Bool, true, false, ◌&&◌, cond, and-false}
use mathlib.Core.List.{List}
use Rattle.std.specs.Prelude.{Option, Some, None}
use Prim.Native.Nat.{ℕ, ◌+◌, ◌*◌, ◌<◌, ◌≤◌}
use borrow.Author.Tests.{lt-ltb, le-ltb}
use lib.Arith.{digits_lt}
use lib.Dec.{ltb}
use native.Mathlib.Nat.{mul-le-mul, mul-pos}
use native.Mathlib.Omega.{arith}
use lib.ListN.{length, take, set, length-set}
use lib.Seq.{length-take-le}
use Rattle.lists.specs.Tab.{tabulate}
use Rattle.lists.specs.Each.{each}
use Rattle.lists.proofs.Tab.{written_none, written_more}
use Rattle.lists.proofs.Each.{each_none, each_more, each_fails}
use Rattle.std.proofs.lemmas.Nat.{div-mul-add, mod-mul-add}
use Rattle.word.proofs.Turn.{place_lt}
use Rattle.refusals.specs.Pixels.{level_at}
use Rattle.refusals.specs.declared.Frame.{Frame}
use Rattle.points.specs.declared.Quad.{Quad}
use Rattle.tables.specs.declared.Family.{Family}
use Rattle.tables.specs.Table.{side_of}
use Rattle.places.specs.declared.Axis.{Axis}
use Rattle.places.specs.declared.Axes.{Axes}
use Rattle.places.specs.Corners.{bad_corners}
use Rattle.places.specs.Place.{axes_of, module_pixel, sample_pixel}
use Rattle.places.proofs.Small.{axes_small}
use Rattle.reader.specs.Reading.{samples, column, row, sample_inside, samples_inside, levels_of}
use Rattle.reader.specs.Sampling.{SmallAxes, sample_of}

-- the sample at row i and column j of the square
pub sample_place : (axis : Axis) (edge border i j : ℕ) → j < edge → sample_pixel axis edge border (i * edge + j) ≡ module_pixel axis (side_of edge border) (border + i) (border + j)
sample_place axis edge border i j h =
    ap₂ (λ (a b : ℕ). module_pixel axis (side_of edge border) (border + a) (border + b)) (div-mul-add i edge j h) (mod-mul-add i edge j h)

module _ (plane : List ℕ) (frame : Frame) (family : Family) (axes : Axes) (k x y : ℕ) (ex : x ≡ column axes family k) (ey : y ≡ row axes family k) where
  abbrev picked : Bool → Option ℕ
  picked t = cond t (Some (level_at plane frame (column axes family k) (row axes family k))) None

  inside_is : ltb x frame.width && ltb y frame.height ≡ sample_inside frame family axes k
  inside_is = ap₂ (λ (a b : ℕ). ltb a frame.width && ltb b frame.height) ex ey

  pub outside_x : frame.width ≤ x → None ≡ sample_of plane frame family axes k
  unfolding sample_of
  outside_x h = sym (ap picked (sym inside_is ∙ ap (λ (t : Bool). t && ltb y frame.height) (le-ltb x frame.width h)))

  pub outside_y : frame.height ≤ y → None ≡ sample_of plane frame family axes k
  unfolding sample_of
  outside_y h = sym (ap picked (sym inside_is ∙ ap (λ (t : Bool). ltb x frame.width && t) (le-ltb y frame.height h) ∙ and-false (ltb x frame.width)))

  pub within : x < frame.width → y < frame.height → Some (level_at plane frame x y) ≡ sample_of plane frame family axes k
  unfolding sample_of
  within hx hy =
      ap₂ (λ (a b : ℕ). Some (level_at plane frame a b)) ex ey
      ∙ sym (ap picked (sym inside_is ∙ ap₂ ◌&&◌ (lt-ltb x frame.width hx) (lt-ltb y frame.height hy)))

-- a row and a column of the square are one of its places, of which there are at most 64
pub place_in : (edge i j : ℕ) → edge ≤ 8 → i < edge → j < edge → (i * edge + j < edge * edge) × (i * edge + j < 64)
place_in edge i j h hi hj = (digits_lt hi hj, omega (arith, place_lt edge i j h hi hj))

-- the axes of a quad that refusal 8 lets through
pub small_axes : (quad : Quad) (axes : Axes) → bad_corners quad ≡ false → axes ≡ axes_of quad → SmallAxes axes
small_axes quad axes good e = subst SmallAxes (sym e) (let s = axes_small quad good in record { x_small = s.0; y_small = s.1 })

-- ---- the loop over all samples

abbrev pub level_of : List ℕ → Frame → Family → Axes → ℕ → ℕ
level_of plane frame family axes k = level_at plane frame (column axes family k) (row axes family k)

-- the first k samples lie in the picture, and their levels are the first k of `levels`
pub record SoFar (plane : List ℕ) (frame : Frame) (family : Family) (axes : Axes) (k : ℕ) (levels : List ℕ) : Type 0 where
  pub all_inside : true ≡ each k (sample_inside frame family axes)
  pub written : take k levels ≡ tabulate k (level_of plane frame family axes)
  pub size : length levels ≡ 64

module _ (plane : List ℕ) (frame : Frame) (family : Family) (axes : Axes) where
  pub SoFar-none : (k : ℕ) (levels : List ℕ) → k ≡ 0 → length levels ≡ 64 → SoFar plane frame family axes k levels
  SoFar-none k levels e h = subst (λ (n : ℕ). SoFar plane frame family axes n levels) (sym e) (record { all_inside = sym (each_none (sample_inside frame family axes)); written = written_none (level_of plane frame family axes) levels; size = h })

  level_is : (k v : ℕ) → Some v ≡ sample_of plane frame family axes k → (sample_inside frame family axes k ≡ true) × (v ≡ level_of plane frame family axes k)
  unfolding sample_of
  level_is k v = go (sample_inside frame family axes k)
    where
      go : (t : Bool) → Some v ≡ cond t (Some (level_at plane frame (column axes family k) (row axes family k))) None → (t ≡ true) × (v ≡ level_at plane frame (column axes family k) (row axes family k))
      go true e = (refl, cc)
      go false e = let z : ◌≡◌ {A = ℕ} 0 1 = cc in absurd (omega arith)

  outside_is : (k : ℕ) → None ≡ sample_of plane frame family axes k → sample_inside frame family axes k ≡ false
  unfolding sample_of
  outside_is k = go (sample_inside frame family axes k)
    where
      go : (t : Bool) → None ≡ cond t (Some (level_at plane frame (column axes family k) (row axes family k))) None → t ≡ false
      go true e = let z : ◌≡◌ {A = ℕ} 0 1 = cc in absurd (omega arith)
      go false e = refl

  pub SoFar-more : (k n v : ℕ) (levels : List ℕ) → n ≡ k + 1 → k < 64 → Some v ≡ sample_of plane frame family axes k → SoFar plane frame family axes k levels → SoFar plane frame family axes n (set levels k v)
  SoFar-more k n v levels next h e s =
      let l = level_is k v e in
      subst (λ (m : ℕ). SoFar plane frame family axes m (set levels k v)) (sym next) (record {
        all_inside = each_more k (sample_inside frame family axes) true true (sym l.0) s.all_inside;
        written = written_more (level_of plane frame family axes) k levels v (omega (arith, s.size)) l.1 s.written;
        size = length-set levels k v ∙ s.size;
      })

  pub some_outside : (k : ℕ) → k < samples family → None ≡ sample_of plane frame family axes k → false ≡ samples_inside frame family axes
  unfolding samples_inside
  some_outside k h e = sym (each_fails (samples family) (sample_inside frame family axes) k h (outside_is k e))

  pub all_inside : (k : ℕ) (levels : List ℕ) → k ≡ samples family → SoFar plane frame family axes k levels → true ≡ samples_inside frame family axes
  unfolding samples_inside
  all_inside k levels e s = s.all_inside ∙ ap (λ (n : ℕ). each n (sample_inside frame family axes)) e

  pub all_sampled : (k : ℕ) (levels : List ℕ) → k ≡ samples family → SoFar plane frame family axes k levels → take (samples family) levels ≡ levels_of plane frame family axes
  unfolding levels_of
  all_sampled k levels e s = subst (λ (n : ℕ). take n levels ≡ tabulate n (λ k. level_at plane frame (column axes family k) (row axes family k))) e s.written

-- the part of the array that holds the levels
pub part_size : (family : Family) (levels : List ℕ) → 0 < family.edge → family.edge ≤ 8 → length levels ≡ 64
    → (samples family ≤ length levels) × (samples family ≡ length (take (samples family) levels)) × (0 < samples family) × (samples family ≤ 64)
part_size family levels p h z =
    let m : samples family ≤ 64 = mul-le-mul h h in
    let l : samples family ≤ length levels = omega arith in
    (l, sym (length-take-le (samples family) levels l), mul-pos p p, m)

-- where all samples lie in the picture, the part of the array is their levels
pub levels_are : (plane : List ℕ) (frame : Frame) (family : Family) (axes : Axes) (levels : List ℕ) (quad : Quad)
    → true ≡ samples_inside frame family axes → take (samples family) levels ≡ levels_of plane frame family axes → axes ≡ axes_of quad
    → (samples_inside frame family (axes_of quad) ≡ true) × (take (samples family) levels ≡ levels_of plane frame family (axes_of quad))
levels_are plane frame family axes levels quad inside sampled e = (ap (samples_inside frame family) (sym e) ∙ sym inside, sampled ∙ ap (levels_of plane frame family) e)
