-- What `turning` prints. Assumes nothing.
use Rattle.std.specs.Prelude.{ℕ}
use mathlib.Core.List.{List, [], ◌∷◌, ◌++◌, flat_map}
use Rattle.text.specs.Text.{space, line_feed, decimal}
use Rattle.word.specs.Sources.{sources}

-- numbers "in decimal, one space between"
unfoldable pub spaced : List ℕ → List ℕ
unfolding flat_map
spaced [] = []
spaced (n ∷ more) = decimal n ++ flat_map (λ m. space ∷ decimal m) more

-- the line of an edge: "for every turned place from 0 on, the place its bit comes from"; a line feed ends it
unfoldable pub line : ℕ → List ℕ
unfolding spaced
line edge = spaced (sources edge) ++ (line_feed ∷ [])

-- what `turning` prints: "one line for each edge from 4 up", to 6, and nothing else
unfoldable pub turning : List ℕ
unfolding flat_map line
turning = flat_map line (4 ∷ 5 ∷ 6 ∷ [])
