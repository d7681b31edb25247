-- What the steps of a pass over a plane promise each other. No entry's contract cites these. Assumes nothing.
use Rattle.std.specs.Prelude.{◌≡◌, cond, List, ◌++◌, ℕ, ◌+◌, ◌<◌, length, get_or, Float}
use Rattle.std.specs.Float.{nan}
use Rattle.lists.specs.Tab.{tabulate}
use Rattle.samples.specs.Samples.{zero_f}
use Rattle.response.specs.Response.{determinant_at, at_end}

-- a row off the border, by its own samples and those of the rows above and below
abbrev pub row_response : List Float → List Float → List Float → ℕ → ℕ → Float
row_response above here below n x =
    cond (at_end n x) zero_f (determinant_at (λ p. get_or above p nan) (λ p. get_or here p nan) (λ p. get_or below p nan) x)

-- four rows of one width, and room for two
abbrev pub FourRows : (pair above upper lower below : List Float) → Type 0
FourRows pair above upper lower below =
    (0 < length above)
    × (length pair ≡ length above + length above)
    × (length upper ≡ length above)
    × (length lower ≡ length above)
    × (length below ≡ length above)

-- the response at the two inner ones of four rows, one behind the other
abbrev pub pair_response : (above upper lower below : List Float) → List Float
pair_response above upper lower below =
    tabulate (length above) (row_response above upper lower (length above))
    ++ tabulate (length above) (row_response upper lower below (length above))
