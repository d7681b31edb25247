-- A reading of one quad, from 01's "Quad to tag" and 02's ticket 2. Assumes nothing.
use Rattle.std.specs.Prelude.{ℕ, ◌*◌, Bool, not, ◌&&◌, cond, List, ltb}
use Rattle.lists.specs.Tab.{tabulate}
use Rattle.lists.specs.Each.{each}
use Rattle.refusals.specs.Outcome.{Outcome, accepted, refused}
use Rattle.refusals.specs.Pixels.{level_at}
use Rattle.refusals.specs.declared.Frame.{Frame}
use Rattle.points.specs.declared.Quad.{Quad}
use Rattle.points.specs.Turned.{turned_left, answer_corners}
use Rattle.tables.specs.declared.Family.{Family}
use Rattle.places.specs.declared.Axes.{Axes}
use Rattle.places.specs.Rounding.{bad_coordinate, pixel_of, in_1024ths}
use Rattle.places.specs.Corners.{bad_corners, corners_outside}
use Rattle.places.specs.Place.{axes_of, sample_pixel}
use Rattle.levels.specs.Levels.{code_of}
use Rattle.search.specs.Search.{Seen, search, search_from}

-- how many samples there are: the modules inside the border
abbrev pub samples : Family → ℕ
samples family = family.edge * family.edge

-- the column and the row of sample k
abbrev pub column : Axes → Family → ℕ → ℕ
column axes family k = sample_pixel axes.x family.edge family.border k

abbrev pub row : Axes → Family → ℕ → ℕ
row axes family k = sample_pixel axes.y family.edge family.border k

-- sample k lies in the picture
abbrev pub sample_inside : Frame → Family → Axes → ℕ → Bool
sample_inside frame family axes k = ltb (column axes family k) frame.width && ltb (row axes family k) frame.height

unfoldable pub samples_inside : Frame → Family → Axes → Bool
unfolding each
samples_inside frame family axes = each (samples family) (sample_inside frame family axes)

-- the levels of the samples, in their order
unfoldable pub levels_of : List ℕ → Frame → Family → Axes → List ℕ
unfolding tabulate
levels_of plane frame family axes =
    tabulate (samples family) (λ k. level_at plane frame (column axes family k) (row axes family k))

-- "The answer is a tag with its corners as floats"; "the number of differing modules .., and the quad reader and the list reader pass it on"
pub record Tag : Type 0 where
  pub id : ℕ
  pub turn : ℕ
  pub differing : ℕ
  pub corners : Quad

-- what the search sees, with "the quad turned left by the turn, then reversed"
abbrev pub with_corners : Quad → Outcome Seen → Outcome Tag
with_corners quad (accepted seen) =
    accepted (record { id = seen.id; turn = seen.turn; differing = seen.differing; corners = answer_corners quad seen.turn })
with_corners quad (refused n) = refused n

-- what the word of the levels shows
unfoldable pub tag_of : Family → List ℕ → Quad → Outcome ℕ → Outcome Tag
unfolding search_from turned_left
tag_of family codes quad (accepted word) = with_corners quad (search word family.hamming_distance codes family.edge)
tag_of family codes quad (refused n) = refused n

-- 8, a corner coordinate too large; 9, "a corner rounds outside the picture"; 10, "a sample rounds outside the picture"; then 11, 12 and 13.
-- "The quad reader uses band 10 and allows 3."
unfoldable pub reading : List ℕ → Frame → Family → List ℕ → Quad → Outcome Tag
unfolding bad_coordinate pixel_of in_1024ths samples_inside levels_of code_of tag_of
reading plane frame family codes quad =
    cond (bad_corners quad) (refused 8)
    (cond (corners_outside frame.width frame.height quad) (refused 9)
    (cond (not (samples_inside frame family (axes_of quad))) (refused 10)
    (tag_of family codes quad (code_of (levels_of plane frame family (axes_of quad)) 10 3))))
