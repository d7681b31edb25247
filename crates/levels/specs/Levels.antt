-- Levels to bits, as document 01 says it. A level is a number from 0 to 255; what is said here holds of any numbers. Assumes nothing.
use Rattle.std.specs.Prelude.{ℕ, ◌+◌, ◌-◌, ◌/◌, min, max, cond, ltb, length, get_or}
use mathlib.Core.List.{List, [], ◌∷◌, foldl}
use Rattle.lists.specs.Sum.{sum, one_if}
use Rattle.refusals.specs.Outcome.{Outcome, accepted, refused}
use Rattle.word.specs.Word.{word}

-- f of the first level and the second, f of that and the third, and so on; 0 where there are no levels
unfoldable pub over_all : (ℕ → ℕ → ℕ) → List ℕ → ℕ
over_all f [] = 0
over_all f (v ∷ vs) = foldl f v vs

-- the least level
abbrev pub least_of : List ℕ → ℕ
least_of levels = over_all min levels

-- the greatest level
abbrev pub greatest_of : List ℕ → ℕ
greatest_of levels = over_all max levels

-- "Middle is half of least plus greatest level, rounded, halves up."
abbrev pub middle_of : List ℕ → ℕ
middle_of levels = (least_of levels + greatest_of levels + 1) / 2

-- "A level above the middle gives 1."
abbrev pub above : ℕ → ℕ → ℕ
above middle level = one_if (ltb middle level)

-- "The first level is the highest bit.": of n levels, level k stands at place n - 1 - k
unfoldable pub word_of : ℕ → List ℕ → ℕ
unfolding word
word_of middle levels = word (length levels) (λ place. above middle (get_or levels (length levels - 1 - place) 0))

-- how far two levels are apart
abbrev pub distance : ℕ → ℕ → ℕ
distance a b = (a - b) + (b - a)

-- "A level nearer to the middle than the band is unsure."
abbrev pub unsure : ℕ → ℕ → ℕ → ℕ
unsure middle band level = one_if (ltb (distance level middle) band)

-- the number of unsure levels
unfoldable pub unsure_of : ℕ → ℕ → List ℕ → ℕ
unfolding sum
unsure_of middle band levels = sum (length levels) (λ k. unsure middle band (get_or levels k 0))

-- 11, "greatest minus least level below 50"; 12, "more unsure modules than allowed"; else the word
unfoldable pub code_of : List ℕ → ℕ → ℕ → Outcome ℕ
unfolding over_all word_of unsure_of
code_of levels band allowed =
    cond (ltb (greatest_of levels - least_of levels) 50) (refused 11)
    (cond (ltb allowed (unsure_of (middle_of levels) band levels)) (refused 12)
    (accepted (word_of (middle_of levels) levels)))
