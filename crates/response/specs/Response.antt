-- The response: "Response and its order of f32 operations are `hessian_response`'s, border 0." Assumes nothing.
use Rattle.std.specs.Prelude.{ℕ, ◌+◌, ◌-◌, ◌*◌, ◌/◌, ◌%◌, Bool, ◌||◌, cond, List, eqb, get_or, Float}
use Rattle.std.specs.Float.{nan, binary32}
use Rattle.std.specs.Float.Ieee.{of_bits, add, sub, mul}
use Rattle.lists.specs.Tab.{tabulate}
use Rattle.samples.specs.Samples.{zero_f}

-- 2.0 and 0.25
abbrev pub two : Float
two = of_bits binary32 0x4000_0000

abbrev pub quarter : Float
quarter = of_bits binary32 0x3e80_0000

-- "nine f32 samples combined in the fixed order": v11 v12 v13 stand above, v21 v22 v23 in the sample's row, v31 v32 v33 below
abbrev pub determinant : (v11 v12 v13 v21 v22 v23 v31 v32 v33 : Float) → Float
determinant v11 v12 v13 v21 v22 v23 v31 v32 v33 =
    let lxx = add binary32 (sub binary32 v21 (mul binary32 v22 two)) v23 in
    let lyy = add binary32 (sub binary32 v12 (mul binary32 v22 two)) v32 in
    let lxy = mul binary32 (sub binary32 (add binary32 (sub binary32 v13 v11) v31) v33) quarter in
    sub binary32 (mul binary32 lxx lyy) (mul binary32 lxy lxy)

-- the determinant at place x of three rows that stand one above the other
abbrev pub determinant_at : (above here below : ℕ → Float) (x : ℕ) → Float
determinant_at above here below x =
    determinant
    (above (x - 1))
    (above x)
    (above (x + 1))
    (here (x - 1))
    (here x)
    (here (x + 1))
    (below (x - 1))
    (below x)
    (below (x + 1))

-- the first and the last place of a line of n
abbrev pub at_end : ℕ → ℕ → Bool
at_end n p = eqb p 0 || eqb (p + 1) n

-- sample i of a plane stands in row i / width and column i % width. On the border, and so everywhere in a plane narrower or lower than 3, it is +0.0
abbrev pub response_at : List Float → ℕ → ℕ → ℕ → Float
response_at img width height i =
    let row : ℕ → ℕ → Float = λ y x. get_or img (y * width + x) nan in
    let y = i / width in
    let x = i % width in
    cond (at_end height y || at_end width x) zero_f (determinant_at (row (y - 1)) (row y) (row (y + 1)) x)

-- the whole plane
abbrev pub response : List Float → ℕ → ℕ → List Float
response img width height = tabulate (width * height) (response_at img width height)
