-- The word of a line: "four digits 0 to 9 or A to F. Any other line, an empty one too, is bad". Assumes nothing.
use Rattle.std.specs.Prelude.{ℕ, ◌+◌, ◌-◌, ◌*◌, Bool, cond, ◌&&◌, ◌||◌, List, [], ◌∷◌, length, leb, eqb}
use Rattle.lists.specs.Tab.{all}

-- the bytes of 0 to 9
unfoldable pub is_decimal : ℕ → Bool
is_decimal b = leb 48 b && leb b 57

-- the bytes of A to F
unfoldable pub is_letter : ℕ → Bool
is_letter b = leb 65 b && leb b 70

unfoldable pub is_digit : ℕ → Bool
unfolding is_decimal is_letter
is_digit b = is_decimal b || is_letter b

-- the number of a digit: 0 to 9, and 10 to 15 for A to F
unfoldable pub digit_number : ℕ → ℕ
unfolding is_decimal
digit_number b = cond (is_decimal b) (b - 48) (b - 65 + 10)

unfoldable pub is_word : List ℕ → Bool
unfolding is_digit all
is_word line = eqb (length line) 4 && all is_digit line

-- the number of the digits read so far, n, and of those of the line
unfoldable pub number_from : ℕ → List ℕ → ℕ
unfolding digit_number
number_from n [] = n
number_from n (b ∷ bs) = number_from (n * 16 + digit_number b) bs

-- the number of a word, its first digit the highest
abbrev pub number_of : List ℕ → ℕ
number_of line = number_from 0 line
