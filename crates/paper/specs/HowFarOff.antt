-- Ticket 2 of document 02: "The code search gives, beside id and turn, the number of differing modules (the fewest that answered, bits above
-- the square included), and the quad reader and the list reader pass it on". Said of the definitions that the public entries are proved
-- equal to. Assumes nothing.
use Rattle.std.specs.Prelude.{◌≡◌, List, ℕ, ◌≤◌, ◌<◌, Float, length, get_or}
use Rattle.refusals.specs.Outcome.{Outcome, accepted}
use Rattle.refusals.specs.declared.Frame.{Frame}
use Rattle.points.specs.declared.Quad.{Quad}
use Rattle.points.specs.Numbers.{quad_at, corners_at}
use Rattle.tables.specs.declared.Family.{Family}
use Rattle.tag_families.specs.Families.{family_of, codes_of}
use Rattle.word.specs.Word.{turns, differing}
use Rattle.places.specs.Place.{axes_of}
use Rattle.levels.specs.Levels.{code_of}
use Rattle.search.specs.Search.{Seen}
use Rattle.reader.specs.Reading.{levels_of, Tag}
use Rattle.listing.specs.Listing.{row_of, corners_of, row_at}
use Rattle.muosleap.specs.Codes.{best_tag}
use Rattle.muosleap.specs.Quad.{decode_quad, decode_quad_in}
use Rattle.muosleap.specs.Quads.{decode_quads, decode_quads_in}
use Rattle.paper.specs.Others.{Unshared}

-- in how many bits, of all 64, the word turned r times differs from the code at position k. A turn leaves no bit above the square, so such bits
-- count at turn 0 alone
abbrev pub distance : (edge : ℕ) (codes : List ℕ) (word r k : ℕ) → ℕ
distance edge codes word r k = differing (turns edge r word) (get_or codes k 0)

-- "the number of differing modules (the fewest that answered ..)"
pub record FewestAnswered (threshold : ℕ) (codes : List ℕ) (edge word : ℕ) (seen : Seen) : Type 0 where
  pub known : seen.id < length codes
  pub turned : seen.turn < 4
  -- it is the distance of the answered code from the word turned `turn` times,
  pub counted : seen.differing ≡ distance edge codes word seen.turn seen.id
  -- it is below the match threshold, which is at most 64,
  pub below : seen.differing < threshold
  pub most : seen.differing ≤ 63
  -- and no code is nearer at that turn
  pub fewest : (k : ℕ) → k < length codes → seen.differing ≤ distance edge codes word seen.turn k

-- "the quad reader .. pass it on": the tag is what the search gives for the word of the samples
pub record PassedOn (plane : List ℕ) (frame : Frame) (family : Family) (codes : List ℕ) (quad : Quad) (tag : Tag) : Type 0 where
  pub word : ℕ
  pub sampled : code_of (levels_of plane frame family (axes_of quad)) 10 3 ≡ accepted word
  pub searched : best_tag word family.hamming_distance codes family.edge ≡ accepted (record { id = tag.id; turn = tag.turn; differing = tag.differing })

-- ---- what the number means, and that all readers pass it on. What a row is and what 16 measures is listing's `row_of` and `bad_list`; that a painted
-- tag has "exactly as many differing modules as were misprinted" is demand 3's

pub record HowFarOff : Type 0 where
  pub search : (word threshold : ℕ) (codes : List ℕ) (edge : ℕ) (seen : Seen) → best_tag word threshold codes edge ≡ accepted seen
      → FewestAnswered threshold codes edge word seen
  pub quad : (plane : List ℕ) (frame : Frame) (family : Family) (codes : List ℕ) (quad : Quad) (tag : Tag)
      → decode_quad plane frame family codes quad ≡ accepted tag → PassedOn plane frame family codes quad tag
  pub quad_in : (plane : List ℕ) (frame : Frame) (number : ℕ) (quad : Quad) (tag : Tag)
      → decode_quad_in plane frame number quad ≡ accepted tag → PassedOn plane frame (family_of number) (codes_of number) quad tag
  -- "and the list reader": the row and the corner numbers of each quad are those of its reading alone, where it shares its id with no other (ticket 4)
  pub list : (plane : List ℕ) (frame : Frame) (family : Family) (codes : List ℕ) (quads : List Float) (rows : List ℕ) (corners : List Float) (n i : ℕ)
      → let result = decode_quads plane frame family codes quads rows corners in
      let read : ℕ → Outcome Tag = λ j. decode_quad plane frame family codes (quad_at quads j) in
      result.answer ≡ accepted n → i < n → Unshared read n i → (row_at result.rows i ≡ row_of (read i)) × (corners_at result.corners i ≡ corners_of (read i))
  pub list_in : (plane : List ℕ) (frame : Frame) (number : ℕ) (quads : List Float) (rows : List ℕ) (corners : List Float) (n i : ℕ)
      → let result = decode_quads_in plane frame number quads rows corners in
      let read : ℕ → Outcome Tag = λ j. decode_quad_in plane frame number (quad_at quads j) in
      result.answer ≡ accepted n → i < n → Unshared read n i → (row_at result.rows i ≡ row_of (read i)) × (corners_at result.corners i ≡ corners_of (read i))
