-- What a reading is, from 02's ticket 7: "A reading here is any list of rows with id below 1,024 and in no two unrefused rows, turn at most 3,
-- differing modules at most 63, corners that 8 lets through, and refusals 8 to 13 or 18 with every other bit of the row and its corners zero."
-- A row is a tag with its corners or a refusal, as the list reader says it of a quad; Rows has its numbers. Assumes nothing.
use Rattle.std.specs.Prelude.{ℕ, Bool, true, false, not, ◌&&◌, ◌||◌, leb, ltb, eqb}
use mathlib.Core.List.{List, [], ◌∷◌, flat_map}
use Rattle.lists.specs.Tab.{all}
use Rattle.refusals.specs.Outcome.{Outcome, accepted, refused}
use Rattle.places.specs.Corners.{bad_corners}
use Rattle.reader.specs.Reading.{Tag}

-- "refusals 8 to 13 or 18"
abbrev pub row_refusal : ℕ → Bool
row_refusal n = (leb 8 n && leb n 13) || eqb n 18

-- a row that may stand in a reading, whatever the others are
abbrev pub good_row : Outcome Tag → Bool
good_row (accepted tag) = ltb tag.id 1024 && (leb tag.turn 3 && (leb tag.differing 63 && not (bad_corners tag.corners)))
good_row (refused n) = row_refusal n

-- the id of an unrefused row; a refused one has none
abbrev pub id_of : Outcome Tag → List ℕ
id_of (accepted tag) = tag.id ∷ []
id_of (refused n) = []

-- whether a number stands in a list
unfoldable pub holds : ℕ → List ℕ → Bool
holds n [] = false
holds n (m ∷ l) = eqb m n || holds n l

-- whether no number of a list stands in it again
unfoldable pub distinct : List ℕ → Bool
unfolding holds
distinct [] = true
distinct (n ∷ l) = not (holds n l) && distinct l

-- "any list of rows with id .. in no two unrefused rows", each of them good
unfoldable pub is_reading : List (Outcome Tag) → Bool
unfolding all flat_map distinct
is_reading said = all good_row said && distinct (flat_map id_of said)
