-- "The likeness check passes when each code has at least t ones and t zeros in its square (t the match threshold), and any two
-- codes in any turns, or one code in two turns, differ in at least 2t − 1 bits." Assumes nothing.
use Rattle.std.specs.Prelude.{ℕ, ◌-◌, ◌*◌, Bool, ◌&&◌, ◌||◌, List, leb, eqb, length, get_or}
use Rattle.lists.specs.Each.{each}
use Rattle.lists.specs.Sum.{sum}
use Rattle.word.specs.Word.{bit, turns, differing, differing_in}

-- the ones in the square
unfoldable pub ones : ℕ → ℕ → ℕ
unfolding sum
ones edge code = sum (edge * edge) (bit code)

-- "at least t ones and t zeros in its square"
unfoldable pub mixed : ℕ → ℕ → ℕ → Bool
unfolding ones
mixed edge t code = leb t (ones edge code) && leb t (edge * edge - ones edge code)

-- "differ in at least 2t − 1 bits"
unfoldable pub apart : ℕ → ℕ → ℕ → Bool
unfolding differing_in
apart t a b = leb (2 * t - 1) (differing a b)

-- two codes in any turns
unfoldable pub apart_in_turns : ℕ → ℕ → ℕ → ℕ → Bool
unfolding each apart turns
apart_in_turns edge t a b = each 4 (λ p. each 4 (λ q. apart t (turns edge p a) (turns edge q b)))

-- one code in two turns
unfoldable pub apart_from_itself : ℕ → ℕ → ℕ → Bool
unfolding each apart turns
apart_from_itself edge t a = each 4 (λ p. each 4 (λ q. eqb p q || apart t (turns edge p a) (turns edge q a)))

-- the code at position i by itself, and against the codes before it
unfoldable pub passes_at : ℕ → ℕ → List ℕ → ℕ → Bool
unfolding each mixed apart_in_turns apart_from_itself
passes_at edge t codes i =
    mixed edge t (get_or codes i 0) && apart_from_itself edge t (get_or codes i 0) && each i (λ j. apart_in_turns edge t (get_or codes i 0) (get_or codes j 0))

unfoldable pub likeness : ℕ → ℕ → List ℕ → Bool
unfolding each passes_at
likeness edge t codes = each (length codes) (passes_at edge t codes)
