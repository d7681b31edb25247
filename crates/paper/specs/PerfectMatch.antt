-- Ticket 6 of document 02, "Stop at a perfect match": what the count of codes compared comes to, told by the answer that it stands beside.
-- Said of the definitions that the public entry is proved equal to. The answer's own definition, `best_tag`, knows of no stop: it is the full
-- search's. Assumes nothing.
use Rattle.std.specs.Prelude.{◌≡◌, List, ℕ, ◌+◌, ◌*◌, ◌≤◌, ◌<◌, length}
use Rattle.refusals.specs.Outcome.{Outcome, accepted, refused}
use Rattle.word.specs.Word.{turn}
use Rattle.tag_families.specs.Families.{family_of, codes_of}
use Rattle.search.specs.Search.{Seen}
use Rattle.muosleap.specs.Codes.{best_tag, codes_compared}

-- over a table of n codes: an answer, and the count beside it
pub record Counted (n : ℕ) (answer : Outcome Seen) (count : Outcome ℕ) : Type 0 where
  -- "never above four times the table's length"
  pub most : (c : ℕ) → count ≡ accepted c → c ≤ 4 * n
  -- "Each code met in each turn begun counts one, the code that ends the search included": where no bit differs, the whole table for each
  -- turn before, and in the last turn the codes up to the answered one
  pub clean : (seen : Seen) → answer ≡ accepted seen → seen.differing ≡ 0 → count ≡ accepted (seen.turn * n + seen.id + 1)
  -- where bits differ, no code ends the search: the whole table for each turn begun
  pub misread : (seen : Seen) → answer ≡ accepted seen → 0 < seen.differing → count ≡ accepted ((seen.turn + 1) * n)
  -- "an unread word has four times the length, given beside 13"
  pub unread : answer ≡ refused 13 → count ≡ accepted (4 * n)
  -- beside 6 there is none, and beside everything else there is one
  pub none : answer ≡ refused 6 → count ≡ refused 6
  pub given : (m : ℕ) → count ≡ refused m → (m ≡ 6) × (answer ≡ refused 6)

-- T16H5 is family 0
abbrev counted16 : ℕ → Outcome ℕ
counted16 word = codes_compared word (family_of 0).hamming_distance (codes_of 0) (family_of 0).edge

pub record PerfectMatch : Type 0 where
  pub counted : (word threshold : ℕ) (codes : List ℕ) (edge : ℕ) → Counted (length codes) (best_tag word threshold codes edge) (codes_compared word threshold codes edge)
  -- "Two starts of a quad may have different counts." The word of the next start is one turn of the word: 01's 231B and 7D01
  pub first_start : counted16 0x231B ≡ accepted 1
  pub next_start : counted16 (turn 4 0x231B) ≡ accepted 91
