-- What only the loops of the list reader need: how often each id was given so far, and the row that is looked at again. Assumes nothing.
use Rattle.std.specs.Prelude.{◌≡◌, Bool, ◌&&◌, cond, List, ℕ, ◌+◌, ◌*◌, ◌<◌, eqb, ltb, Float, get_or, set}
use Rattle.std.proofs.lemmas.List.Edits.{sets}
use Rattle.lists.specs.Sum.{sum, one_if}
use Rattle.refusals.specs.Outcome.{Outcome, accepted, refused}
use Rattle.points.specs.Numbers.{quad_size}
use Rattle.reader.specs.Reading.{Tag}
use Rattle.listing.specs.Repeated.{gives_id}
use Rattle.listing.specs.Listing.{row_size, row_of, corners_of}

-- the most ids: a table has at most 1,024 codes
abbrev pub most_ids : ℕ
most_ids = 1024

-- how many of the first n quads give this id
abbrev pub times_given : (ℕ → Outcome Tag) → ℕ → ℕ → ℕ
times_given read n id = sum n (λ p. one_if (gives_id id (read p)))

-- a reading that can be counted: its id has a count, which has room for one more. Of a refused one it says what always holds
abbrev pub Countable : List ℕ → Outcome Tag → Type 0
Countable times (accepted tag) = (tag.id < most_ids) × (get_or times tag.id 0 < 65535)
Countable times (refused n) = 0 < most_ids

-- the counts with one reading more
abbrev pub counted : List ℕ → Outcome Tag → List ℕ
counted times (accepted tag) = set times tag.id (get_or times tag.id 0 + 1)
counted times (refused n) = times

-- whether row q is that of a tag whose id was given more than once
abbrev pub repeated_row : List ℕ → List ℕ → ℕ → Bool
repeated_row rows times q = eqb (get_or rows (row_size * q) 0) 0 && ltb 1 (get_or times (get_or rows (row_size * q + 1) 0) 0)

-- the outputs after row q was looked at again
pub record LookedAt (rows : List ℕ) (corners : List Float) (times : List ℕ) (q : ℕ) (rows' : List ℕ) (corners' : List Float) : Type 0 where
  pub row : rows' ≡ cond (repeated_row rows times q) (sets rows (row_size * q) (row_of (refused 18))) rows
  pub corner : corners' ≡ cond (repeated_row rows times q) (sets corners (quad_size * q) (corners_of (refused 18))) corners
