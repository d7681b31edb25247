-- Refusal 6: "table with edge outside 1..8, border outside 1..4, no code or above 1,024 codes, match threshold outside 1..64,
-- or a code of 2^(edge²) or more". The ranges include both ends. Assumes nothing.
use Rattle.std.specs.Prelude.{ℕ, ◌+◌, ◌*◌, ◌^◌, Bool, not, ◌||◌, List, ltb, length}
use Rattle.lists.specs.Tab.{all}
use Rattle.tables.specs.declared.Family.{Family}

-- n is not one of lo, .., hi
abbrev pub outside : ℕ → ℕ → ℕ → Bool
outside lo hi n = ltb n lo || ltb hi n

abbrev pub bad_edge : ℕ → Bool
bad_edge edge = outside 1 8 edge

abbrev pub bad_border : ℕ → Bool
bad_border border = outside 1 4 border

abbrev pub below : ℕ → ℕ → Bool
below limit code = ltb code limit

-- a code is a word of edge² bits
abbrev pub in_square : ℕ → ℕ → Bool
in_square edge = below (2 ^ (edge * edge))

-- the codes with their edge and match threshold
unfoldable pub bad_codes : ℕ → ℕ → List ℕ → Bool
unfolding all
bad_codes edge threshold codes =
    bad_edge edge || (outside 1 1024 (length codes) || (outside 1 64 threshold || not (all (in_square edge) codes)))

-- the whole table
unfoldable pub bad_table : Family → List ℕ → Bool
unfolding bad_codes
bad_table family codes = bad_border family.border || bad_codes family.edge family.hamming_distance codes

-- "side = edge + 2 × border": the modules of a tag's side, its border included
abbrev pub side_of : ℕ → ℕ → ℕ
side_of edge border = edge + 2 * border
