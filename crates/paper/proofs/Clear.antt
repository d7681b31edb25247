-- A picture whose samples are clear reads as the word that they show. Assumes nothing.
use mathlib.Core.Path.{◌≡◌, ap, ◌∙◌}
use mathlib.Core.Bool.{true, false}
use mathlib.Core.List.{List}
use Prim.Native.Nat.{ℕ, ◌-◌, ◌*◌, ◌^◌, ◌≤◌, ◌<◌}
use native.Mathlib.Nat.{mod-eq_of_lt, zero-lt-suc}
use native.Mathlib.Omega.{arith}
use lib.ListN.{length, get_or}
use Rattle.refusals.specs.Outcome.{accepted}
use Rattle.refusals.specs.declared.Frame.{Frame}
use Rattle.points.specs.declared.Quad.{Quad}
use Rattle.points.specs.Turned.{answer_corners}
use Rattle.tables.specs.Table.{bad_table}
use Rattle.tables.specs.declared.Family.{Family}
use Rattle.tables.proofs.Table.{good_table}
use Rattle.word.specs.Word.{bit, word, turns, differing}
use Rattle.word.proofs.Bits.{word-mod}
use Rattle.places.specs.Corners.{bad_corners, corners_outside}
use Rattle.places.specs.Place.{axes_of}
use Rattle.levels.specs.Levels.{least_of, greatest_of, middle_of, code_of}
use Rattle.levels.proofs.Clear.{Clear, Clear-code}
use Rattle.likeness.specs.Likeness.{likeness}
use Rattle.likeness.proofs.Apart.{unlike}
use Rattle.likeness.proofs.Reading.{near_read}
use Rattle.reader.specs.Reading.{samples, samples_inside, levels_of, with_corners, tag_of, reading}
use Rattle.reader.proofs.Order.{reading_on}
use Rattle.reader.proofs.Starts.{levels_size}

-- the quad passes 8, 9 and 10
pub record Taken (frame : Frame) (family : Family) (q : Quad) : Type 0 where
  pub small : bad_corners q ≡ false
  pub within : corners_outside frame.width frame.height q ≡ false
  pub sampled : samples_inside frame family (axes_of q) ≡ true

-- a table that passes 6 and the likeness check, a code of it, and a word that differs from it in fewer bits than the threshold
pub record Printed (family : Family) (codes : List ℕ) (id w : ℕ) : Type 0 where
  pub table : bad_table family codes ≡ false
  pub passes : likeness family.edge family.hamming_distance codes ≡ true
  pub known : id < length codes
  pub square : w < 2 ^ (family.edge * family.edge)
  pub near : differing w (get_or codes id 0) < family.hamming_distance

module _ (plane : List ℕ) (frame : Frame) (family : Family) (codes : List ℕ) (q : Quad) (id w : ℕ) (taken : Taken frame family q) (printed : Printed family codes id w) where
  -- the levels show the word: the tag is read under its own number, at turn 0, with its misprints
  word_read : code_of (levels_of plane frame family (axes_of q)) 10 3 ≡ accepted w
      → reading plane frame family codes q ≡ accepted (record { id = id; turn = 0; differing = differing w (get_or codes id 0); corners = answer_corners q 0 })
  unfolding tag_of turns
  word_read e =
      reading_on plane frame family codes q taken.small taken.within taken.sampled
      ∙ ap (tag_of family codes q) e
      ∙ ap (with_corners q) (near_read family.edge family.hamming_distance codes (good_table family codes printed.table).coded
      (unlike family.edge family.hamming_distance codes printed.passes) w 0 id printed.square (zero-lt-suc 3) printed.known printed.near)

  square_word : word (samples family) (bit w) ≡ w
  square_word = word-mod (samples family) w ∙ mod-eq_of_lt printed.square

  -- "each sampled dark module is at least 10 below the middle, each light one at least 10 above it, and greatest and least are at
  -- least 50 apart": whatever else the picture holds
  pub Clear-read : let l = levels_of plane frame family (axes_of q) in (gap : ℕ) → 10 ≤ gap → 50 ≤ greatest_of l - least_of l
      → ((k : ℕ) → k < length l → Clear (middle_of l) gap (bit w (length l - 1 - k)) (get_or l k 0))
      → reading plane frame family codes q ≡ accepted (record { id = id; turn = 0; differing = differing w (get_or codes id 0); corners = answer_corners q 0 })
  Clear-read gap wide contrast clear =
      let l = levels_of plane frame family (axes_of q) in
      word_read (Clear-code l 10 3 gap (bit w) (omega arith) wide contrast clear ∙ ap (λ (n : ℕ). accepted (word n (bit w))) (levels_size family q frame plane) ∙ ap accepted square_word)
