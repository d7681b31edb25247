-- What the loop over a table makes. Assumes nothing.
use Rattle.std.specs.Prelude.{ℕ, List, length, get_or}
use Rattle.word.specs.Word.{bit, word}

-- the word that has at each place the bit of w from the place that the table names there
unfoldable pub gathered : List ℕ → ℕ → ℕ
unfolding word
gathered table w = word (length table) (λ k. bit w (get_or table k 0))
