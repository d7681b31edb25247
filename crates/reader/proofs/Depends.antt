-- A reading depends only on the sides, the corners and the samples taken: two pictures of one width and one height, each at a pitch of
-- its own, read alike where they agree at the samples. Assumes nothing.
use mathlib.Core.Path.{◌≡◌, refl, ap}
use mathlib.Core.Bool.{Bool, true, false, cond, not}
use mathlib.Core.List.{List}
use Prim.Native.Nat.{ℕ, ◌<◌}
use Rattle.lists.proofs.Each.{each_at}
use Rattle.lists.proofs.Rows.{tabulate_ext}
use Rattle.refusals.specs.Outcome.{Outcome, refused}
use Rattle.refusals.specs.Pixels.{at_pitch, level_at}
use Rattle.refusals.specs.declared.Frame.{Frame}
use Rattle.points.specs.declared.Quad.{Quad}
use Rattle.tables.specs.declared.Family.{Family}
use Rattle.places.specs.declared.Axes.{Axes}
use Rattle.places.specs.Corners.{bad_corners, corners_outside}
use Rattle.places.specs.Place.{axes_of}
use Rattle.levels.specs.Levels.{code_of}
use Rattle.reader.specs.Reading.{samples, column, row, sample_inside, samples_inside, levels_of, Tag, tag_of, reading}

-- the level of sample k
abbrev level : List ℕ → Frame → Family → Axes → ℕ → ℕ
level plane frame family axes k = level_at plane frame (column axes family k) (row axes family k)

module _ (plane other : List ℕ) (frame : Frame) (pitch : ℕ) (family : Family) where
  -- the two pictures agree at the samples of a quad that lie in them
  abbrev pub Agree : Axes → Type 0
  Agree axes = (k : ℕ) → k < samples family → sample_inside frame family axes k ≡ true → level plane frame family axes k ≡ level other (at_pitch frame pitch) family axes k

  pub levels_depend : (axes : Axes) → Agree axes → samples_inside frame family axes ≡ true → levels_of plane frame family axes ≡ levels_of other (at_pitch frame pitch) family axes
  unfolding levels_of samples_inside
  levels_depend axes h e =
      tabulate_ext (samples family) (level plane frame family axes) (level other (at_pitch frame pitch) family axes)
      (λ k l. h k l (each_at (samples family) (sample_inside frame family axes) e k l))

  pub reading_depends : (codes : List ℕ) (quad : Quad) → Agree (axes_of quad) → reading plane frame family codes quad ≡ reading other (at_pitch frame pitch) family codes quad
  unfolding reading samples_inside
  reading_depends codes quad h =
      ap (λ (rest : Outcome Tag). cond (bad_corners quad) (refused 8) (cond (corners_outside frame.width frame.height quad) (refused 9) rest))
      (sampled (samples_inside frame family (axes_of quad)) (levels_depend (axes_of quad) h))
    where
      sampled : (t : Bool) → (t ≡ true → levels_of plane frame family (axes_of quad) ≡ levels_of other (at_pitch frame pitch) family (axes_of quad))
          → cond (not t) (refused 10) (tag_of family codes quad (code_of (levels_of plane frame family (axes_of quad)) 10 3))
          ≡ cond (not t) (refused 10) (tag_of family codes quad (code_of (levels_of other (at_pitch frame pitch) family (axes_of quad)) 10 3))
      sampled true e = ap (λ (levels : List ℕ). tag_of family codes quad (code_of levels 10 3)) (e refl)
      sampled false e = refl
