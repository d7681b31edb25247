-- The outcome of `bit_code` for all inputs: "levels to bits 15, 11, 12". Assumes nothing.
use Rattle.std.specs.Prelude.{ℕ, cond, ◌||◌, List, ltb, eqb, length}
use Rattle.refusals.specs.Outcome.{Outcome, refused}
use Rattle.levels.specs.Levels.{code_of}

-- 15, "no levels, or more than 64"; then 11, 12 or the word
unfoldable pub bit_code : List ℕ → ℕ → ℕ → Outcome ℕ
unfolding code_of
bit_code levels band allowed =
    cond (eqb (length levels) 0 || ltb 64 (length levels)) (refused 15)
    (code_of levels band allowed)
