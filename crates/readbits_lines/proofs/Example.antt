-- Document 01's example, worked out by the definition: `231B`, `7D01`, `231A`, `x` on four lines. Assumes nothing.
use mathlib.Core.Path.{◌≡◌, refl}
use mathlib.Core.List.{List, [], ◌∷◌, ◌++◌, flat_map}
use Prim.Native.Nat.{ℕ}
use Rattle.search.specs.Search.{search_from}
use Rattle.readbits_lines.specs.Word.{number_from}
use Rattle.text.specs.Text.{line_feed, decimal_within}
use Rattle.readbits_lines.specs.Readbits.{bad, readbits}

abbrev input : List ℕ
input =
    50 ∷ 51 ∷ 49 ∷ 66 ∷ 10 ∷
    55 ∷ 68 ∷ 48 ∷ 49 ∷ 10 ∷
    50 ∷ 51 ∷ 49 ∷ 65 ∷ 10 ∷
    120 ∷ 10 ∷ []

-- `231B 0 0`, `7D01 0 3`, `231A none`, `bad`
abbrev output : List ℕ
output =
    50 ∷ 51 ∷ 49 ∷ 66 ∷ 32 ∷ 48 ∷ 32 ∷ 48 ∷ 10 ∷
    55 ∷ 68 ∷ 48 ∷ 49 ∷ 32 ∷ 48 ∷ 32 ∷ 51 ∷ 10 ∷
    50 ∷ 51 ∷ 49 ∷ 65 ∷ 32 ∷ 110 ∷ 111 ∷ 110 ∷ 101 ∷ 10 ∷
    98 ∷ 97 ∷ 100 ∷ 10 ∷ []

example : readbits input ≡ output
unfolding readbits flat_map number_from search_from decimal_within
example = refl

-- an empty input has no line, and a line feed alone ends one empty line
nothing : readbits [] ≡ []
unfolding readbits flat_map
nothing = refl

one_feed : readbits (line_feed ∷ []) ≡ bad ++ (line_feed ∷ [])
unfolding readbits flat_map
one_feed = refl
