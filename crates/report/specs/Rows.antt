-- The numbers of a reading: four a row and eight corner numbers a row, and which numbers are a reading's. Assumes nothing.
use Rattle.std.specs.Prelude.{ℕ, zero, suc, ◌/◌, Bool, true, false, ◌&&◌, cond, eqb, Float, length, get_or, drop}
use mathlib.Core.List.{List, [], ◌∷◌, map, flat_map}
use Rattle.std.specs.Float.{binary32}
use Rattle.std.specs.Float.Ieee.{to_bits}
use Rattle.refusals.specs.Outcome.{Outcome, accepted, refused}
use Rattle.points.specs.Numbers.{quad_size, quad_at}
use Rattle.reader.specs.Reading.{Tag}
use Rattle.listing.specs.Listing.{row_size, row_of, corners_of}
use Rattle.report.specs.Reading.{is_reading}

-- whether two lists are the same
unfoldable pub same : List ℕ → List ℕ → Bool
same [] [] = true
same [] (b ∷ m) = false
same (a ∷ l) [] = false
same (a ∷ l) (b ∷ m) = eqb a b && same l m

-- the same bit for bit: +0.0 is not -0.0
abbrev pub bits_of : List Float → List ℕ
bits_of l = map (to_bits binary32) l

abbrev pub same_bits : List Float → List Float → Bool
same_bits l m = same (bits_of l) (bits_of m)

-- what the first row says: a tag where its first number is 0, else that refusal
abbrev pub front_row : List ℕ → List Float → Outcome Tag
front_row rows corners =
    cond (eqb (get_or rows 0 0) 0)
    (accepted (record { id = get_or rows 1 0; turn = get_or rows 2 0; differing = get_or rows 3 0; corners = quad_at corners 0 }))
    (refused (get_or rows 0 0))

-- what the first n rows say
unfoldable pub front_rows : ℕ → List ℕ → List Float → List (Outcome Tag)
front_rows zero rows corners = []
front_rows (suc n) rows corners = front_row rows corners ∷ front_rows n (drop row_size rows) (drop quad_size corners)

-- the whole rows of so many numbers
abbrev pub row_count : ℕ → ℕ
row_count numbers = numbers / row_size

-- what all of them say
abbrev pub rows_say : List ℕ → List Float → List (Outcome Tag)
rows_say rows corners = front_rows (row_count (length rows)) rows corners

-- "20, rows that are not whole, are no such reading or have not eight corner numbers each": all others are a reading, and its rows and
-- corner numbers, every bit of them
unfoldable pub is_rows : List ℕ → List Float → Bool
unfolding front_rows is_reading flat_map same
is_rows rows corners =
    let said = rows_say rows corners in
    is_reading said && (same (flat_map row_of said) rows && same_bits (flat_map corners_of said) corners)
