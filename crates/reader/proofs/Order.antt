-- The refusals of a reading in their order, and what is left after them. Assumes nothing.
use mathlib.Core.Path.{◌≡◌, ap, ◌∙◌}
use mathlib.Core.Bool.{Bool, true, false, not, cond}
use mathlib.Core.List.{List}
use Prim.Native.Nat.{ℕ}
use Rattle.refusals.specs.Outcome.{Outcome, accepted, refused}
use Rattle.refusals.specs.declared.Frame.{Frame}
use Rattle.points.specs.declared.Quad.{Quad}
use Rattle.tables.specs.declared.Family.{Family}
use Rattle.places.specs.Corners.{bad_corners, corners_outside}
use Rattle.places.specs.Place.{axes_of}
use Rattle.levels.specs.Levels.{code_of}
use Rattle.reader.specs.Reading.{samples_inside, levels_of, Tag, with_corners, tag_of, reading}
use Rattle.search.specs.Search.{search}

module _ (plane : List ℕ) (frame : Frame) (family : Family) (codes : List ℕ) (quad : Quad) where
  -- what the word of the levels shows
  abbrev rest : Outcome Tag
  rest = tag_of family codes quad (code_of (levels_of plane frame family (axes_of quad)) 10 3)

  pub reading_8 : bad_corners quad ≡ true → reading plane frame family codes quad ≡ refused 8
  unfolding reading
  reading_8 a = simp a

  module _ (good : bad_corners quad ≡ false) where
    pub reading_9 : corners_outside frame.width frame.height quad ≡ true → reading plane frame family codes quad ≡ refused 9
    unfolding reading
    reading_9 b = simp (good, b)

    module _ (within : corners_outside frame.width frame.height quad ≡ false) where
      pub reading_10 : samples_inside frame family (axes_of quad) ≡ false → reading plane frame family codes quad ≡ refused 10
      unfolding reading
      reading_10 c = simp (good, within, c)

      pub reading_on : samples_inside frame family (axes_of quad) ≡ true
          → reading plane frame family codes quad ≡ tag_of family codes quad (code_of (levels_of plane frame family (axes_of quad)) 10 3)
      unfolding reading
      reading_on c = simp (good, within, c)

      module _ (inside : samples_inside frame family (axes_of quad) ≡ true) where
        -- 11 and 12, of the levels
        pub reading_levels : (n : ℕ) → code_of (levels_of plane frame family (axes_of quad)) 10 3 ≡ refused n → reading plane frame family codes quad ≡ refused n
        unfolding tag_of
        reading_levels n e = reading_on inside ∙ ap (tag_of family codes quad) e

        -- 13 or a tag, of the word that they make
        pub reading_word : (w : ℕ) → code_of (levels_of plane frame family (axes_of quad)) 10 3 ≡ accepted w
            → reading plane frame family codes quad ≡ with_corners quad (search w family.hamming_distance codes family.edge)
        unfolding tag_of
        reading_word w e = reading_on inside ∙ ap (tag_of family codes quad) e

  -- what holds of 8, of 9, of 10 and of what the word of the levels shows holds of a reading
  pub reading_cases : (P : Outcome Tag → Type 0) → P (refused 8) → P (refused 9) → P (refused 10)
      → P rest → P (reading plane frame family codes quad)
  unfolding reading
  reading_cases P p8 p9 p10 p = go (bad_corners quad) (corners_outside frame.width frame.height quad) (samples_inside frame family (axes_of quad))
    where
      go : (a b c : Bool) → P (cond a (refused 8) (cond b (refused 9) (cond (not c) (refused 10) rest)))
      go true b c = p8
      go false true c = p9
      go false false false = p10
      go false false true = p
