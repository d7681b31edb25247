-- What `readbits` prints. Assumes nothing.
use Rattle.std.specs.Prelude.{ℕ, cond}
use mathlib.Core.List.{List, [], ◌∷◌, ◌++◌, flat_map}
use Rattle.refusals.specs.Outcome.{Outcome, accepted, refused}
use Rattle.search.specs.Search.{Seen, search}
use Rattle.tag_families.specs.Families.{family_of, codes_of}
use Rattle.readbits_lines.specs.Lines.{lines_of}
use Rattle.readbits_lines.specs.Word.{is_word, number_of}
use Rattle.text.specs.Text.{space, line_feed, decimal}

-- `none`
abbrev pub none : List ℕ
none = 110 ∷ 111 ∷ 110 ∷ 101 ∷ []

-- `bad`
abbrev pub bad : List ℕ
bad = 98 ∷ 97 ∷ 100 ∷ []

-- the search for a word among the codes of T16H5, which is family 0
unfoldable pub searched : ℕ → Outcome Seen
searched word = search word (family_of 0).hamming_distance (codes_of 0) (family_of 0).edge

-- "It prints the word, id and turn in decimal; or the word and `none`": what it prints after the word
unfoldable pub after_word : Outcome Seen → List ℕ
after_word (accepted seen) = (space ∷ decimal seen.id) ++ (space ∷ decimal seen.turn)
after_word (refused n) = space ∷ none

-- "or `bad`": what it prints for a line
unfoldable pub printed_line : List ℕ → List ℕ
unfolding is_word searched after_word
printed_line line = cond (is_word line) (line ++ after_word (searched (number_of line))) bad ++ (line_feed ∷ [])

-- what it prints for an input
unfoldable pub readbits : List ℕ → List ℕ
unfolding lines_of printed_line
readbits input = flat_map printed_line (lines_of input)
