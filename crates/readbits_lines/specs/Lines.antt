-- The lines of an input: "Each line, ended by line feed or the end"; "nothing after a final line feed makes a line". Assumes nothing.
use Rattle.std.specs.Prelude.{ℕ, cond, List, [], ◌∷◌, eqb}
use Rattle.text.specs.Text.{line_feed}

-- byte b, which is no line feed, stands before the first of the lines; before none it is a line by itself
unfoldable pub before : ℕ → List (List ℕ) → List (List ℕ)
before b [] = (b ∷ []) ∷ []
before b (line ∷ more) = (b ∷ line) ∷ more

-- the lines without their line feeds: a line feed ends a line that holds nothing yet
unfoldable pub lines_of : List ℕ → List (List ℕ)
unfolding before
lines_of [] = []
lines_of (b ∷ bs) =
    let more = lines_of bs in
    cond (eqb b line_feed) ([] ∷ more) (before b more)
