-- One direction of the grid: `count` tags of `size` pixels, `step` pixels from one to the next, the first at pixel `first`. Assumes nothing.
use mathlib.Core.Path.{◌≡◌, ap, ◌∙◌}
use mathlib.Core.Bool.{true, ◌&&◌}
use Prim.Native.Nat.{ℕ, ◌+◌, ◌-◌, ◌*◌, ◌/◌, ◌%◌, ◌≤◌, ◌<◌}
use native.Mathlib.Nat.{div-add-mod', add-mul, mul-add, mul_assoc, mul-le-mul_right}
use native.Mathlib.Omega.{arith}
use borrow.Author.Tests.{lt-ltb, le-leb, ltb-true, leb-true}
use lib.Arith.{digits_div, digits_mod}
use lib.Dec.{ltb, leb}
use Rattle.std.specs.Cmp.{first_so, second_so}
use Rattle.lists.proofs.Grid.{next_row}
use Rattle.painter.proofs.Runs.{Within}
use Rattle.grid.specs.Sheet.{line_tag, in_tag}

-- pixel n lies in tag c
pub record InTag (first step size count c n : ℕ) : Type 0 where
  pub among : c < count
  pub within : Within (first + c * step) size n

module _ (first step size count n : ℕ) where
  -- the tag that the test finds
  pub is_in_tag : in_tag first step size count n ≡ true → InTag first step size count (line_tag first step n) n
  is_in_tag e =
      let a = leb first n in
      let b = ltb (line_tag first step n) count in
      let c = ltb ((n - first) % step) size in
      let from = leb-true first n (first_so a (b && c) e) in
      let rest = second_so a (b && c) e in
      let inside = ltb-true ((n - first) % step) size (second_so b c rest) in
      let parts = div-add-mod' (n - first) step in
      record { among = ltb-true (line_tag first step n) count (first_so b c rest); within = record { from = omega arith; to = omega arith } }

  module _ (c : ℕ) (apart : size ≤ step) (i : InTag first step size count c n) where
    abbrev d : ℕ
    d = n - first - c * step

    pixel_is : n - first ≡ c * step + d
    pixel_is = omega (arith, i.within.from)

    near : d < size
    near = omega (arith, i.within.from, i.within.to)

    near_step : d < step
    near_step = omega (arith, near)

    -- it is the tag that the test finds
    pub tag_found : line_tag first step n ≡ c
    tag_found = ap (λ (k : ℕ). k / step) pixel_is ∙ digits_div c near_step

    pub in_tag_lem : in_tag first step size count n ≡ true
    in_tag_lem =
        let rest : (n - first) % step ≡ d = ap (λ (k : ℕ). k % step) pixel_is ∙ digits_mod c near_step in
        let from : first ≤ n = omega (arith, i.within.from) in
        let inside : (n - first) % step < size = omega (arith, rest, near) in
        let among : line_tag first step n < count = omega (arith, tag_found, i.among) in
        simp (le-leb first n from, lt-ltb (line_tag first step n) count among, lt-ltb ((n - first) % step) size inside)

-- each of n tags ends where the line of them does, or before: in cells, and in pixels
cells_end : (side gap n c : ℕ) → c < n → c * (side + gap) + side ≤ n * side + (n - 1) * gap
cells_end side gap n c h =
    let l : c + 1 ≤ n = omega arith in
    let g : c ≤ n - 1 = omega arith in
    omega (arith, mul-add c side gap, next_row side c, mul-le-mul_right side l, mul-le-mul_right gap g)

pub tag_ends : (side gap cell n c : ℕ) → c < n → c * ((side + gap) * cell) + side * cell ≤ (n * side + (n - 1) * gap) * cell
tag_ends side gap cell n c h =
    omega (arith, mul-le-mul_right cell (cells_end side gap n c h), add-mul (c * (side + gap)) side cell, mul_assoc c (side + gap) cell)
