-- A list reading, from 01's "Quad to tag" and refusal 16, with 02's tickets 2, "a list row becomes four numbers .., and 16 measures by that",
-- and 4, which refuses quads that share their id (Repeated). Assumes nothing.
use Rattle.std.specs.Prelude.{ℕ, ◌*◌, ◌/◌, ◌%◌, Bool, not, ◌||◌, eqb, ltb, Float, length, take, drop, replicate}
use mathlib.Core.List.{List, [], ◌∷◌, ◌++◌, flat_map}
use Rattle.std.specs.Float.{binary32}
use Rattle.std.specs.Float.Ieee.{of_bits}
use Rattle.lists.specs.Tab.{tabulate}
use Rattle.lists.specs.Front.{in_front}
use Rattle.refusals.specs.Outcome.{Outcome, accepted, refused}
use Rattle.refusals.specs.declared.Frame.{Frame}
use Rattle.points.specs.Numbers.{quad_size, quad_at, numbers_of}
use Rattle.tables.specs.declared.Family.{Family}
use Rattle.reader.specs.Reading.{Tag, reading}
use Rattle.listing.specs.Repeated.{listed}

-- the numbers of a row, and the most quads of a list
abbrev pub row_size : ℕ
row_size = 4

abbrev pub most_quads : ℕ
most_quads = 1024

-- how many quads a list of so many numbers has
abbrev pub quad_count : ℕ → ℕ
quad_count numbers = numbers / quad_size

-- refusal 16, of the lengths of the quad list and the two outputs: "quad list not a multiple of 8 numbers or above 1,024 quads,
-- or an output shorter than three numbers and eight corner numbers a quad"; a row has four numbers now, "and 16 measures by that"
unfoldable pub bad_list : ℕ → ℕ → ℕ → Bool
bad_list quads rows corners =
    not (eqb (quads % quad_size) 0) || (ltb most_quads (quad_count quads)
    || (ltb rows (row_size * quad_count quads) || ltb corners (quad_size * quad_count quads)))

-- "a list row becomes four numbers, refusal, id, turn, differing modules" (the refusal 0 where there is none), and "beside it eight corner
-- numbers". "Rows of refused quads and their corner numbers are zero in every bit but for the number."
abbrev pub row_of : Outcome Tag → List ℕ
row_of (accepted tag) = 0 ∷ tag.id ∷ tag.turn ∷ tag.differing ∷ []
row_of (refused n) = n ∷ 0 ∷ 0 ∷ 0 ∷ []

abbrev pub corners_of : Outcome Tag → List Float
corners_of (accepted tag) = numbers_of tag.corners
corners_of (refused n) = replicate quad_size (of_bits binary32 0)

-- "A list reading gives each quad by itself a row": what each quad reads as by itself, in order
unfoldable pub readings : List ℕ → Frame → Family → List ℕ → List Float → List (Outcome Tag)
unfolding tabulate reading
readings plane frame family codes quads =
    tabulate (quad_count (length quads)) (λ q. reading plane frame family codes (quad_at quads q))

-- what a call leaves: its answer, which is the number of quads, and the two outputs
pub record Listing : Type 0 where
  pub answer : Outcome ℕ
  pub rows : List ℕ
  pub corners : List Float

abbrev pub listing_of : Outcome ℕ → List ℕ → List Float → Listing
listing_of answer rows corners = record { answer = answer; rows = rows; corners = corners }

-- a list reading that nothing refuses
unfoldable pub listing : List ℕ → Frame → Family → List ℕ → List Float → List ℕ → List Float → Listing
unfolding readings listed flat_map
listing plane frame family codes quads rows corners =
    let said = listed (readings plane frame family codes quads) in
    listing_of (accepted (quad_count (length quads))) (in_front (flat_map row_of said) rows) (in_front (flat_map corners_of said) corners)

-- the row of quad q in the output
abbrev pub row_at : List ℕ → ℕ → List ℕ
row_at rows q = take row_size (drop (row_size * q) rows)

-- all of a row but the turn, which is its third number
abbrev pub but_turn : List ℕ → List ℕ
but_turn row = take 2 row ++ drop 3 row
