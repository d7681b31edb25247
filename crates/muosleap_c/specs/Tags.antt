-- What the calls for C that read tags return and leave, told by what the entry's own definition says. Assumes nothing.
use Rattle.std.specs.Prelude.{ℕ, ◌≡◌, List, Float}
use Rattle.refusals.specs.Outcome.{Outcome, number}
use Rattle.search.specs.Search.{Seen}
use Rattle.reader.specs.Reading.{Tag}
use Rattle.points.specs.Numbers.{numbers_of}
use Rattle.listing.specs.Listing.{Listing}
use Rattle.outputs.specs.Outputs.{Output, Written, whole}

-- a code's search: the code's number, the turn and the number of differing modules; and the count of codes compared, which stands beside 13 too
pub record FindsTag (found : Outcome Seen) (count : Outcome ℕ) (r : ℕ) (id turn differing compared : Output ℕ) : Type 0 where
  pub answered : r ≡ number found
  pub id_written : Written found (λ (s : Seen). s.id) id
  pub turn_written : Written found (λ (s : Seen). s.turn) turn
  pub differing_written : Written found (λ (s : Seen). s.differing) differing
  pub compared_written : Written count whole compared

-- a quad's reading: the tag's number, its turn, its number of differing modules and its corners
pub record ReadsTag (read : Outcome Tag) (r : ℕ) (id turn differing : Output ℕ) (corners : Output (List Float)) : Type 0 where
  pub answered : r ≡ number read
  pub id_written : Written read (λ (t : Tag). t.id) id
  pub turn_written : Written read (λ (t : Tag). t.turn) turn
  pub differing_written : Written read (λ (t : Tag). t.differing) differing
  pub corners_written : Written read (λ (t : Tag). numbers_of t.corners) corners

-- a list's reading: rows and corners
pub record ReadsTags (list : Listing) (r : ℕ) (rows : Output (List ℕ)) (corners : Output (List Float)) : Type 0 where
  pub answered : r ≡ number list.answer
  pub rows_left : rows.after ≡ list.rows
  pub corners_left : corners.after ≡ list.corners
