-- The cell that has a pixel, and the loop that draws a tag's rows of cells one after another. Assumes nothing.
use mathlib.Core.Path.{◌≡◌, sym, ap, ap₂, ◌∙◌}
use mathlib.Core.Bool.{Bool, cond}
use mathlib.Core.List.{List}
use Prim.Native.Nat.{ℕ, ◌+◌, ◌-◌, ◌*◌, ◌/◌, ◌<◌}
use native.Mathlib.Nat.{zero-mul}
use native.Mathlib.Omega.{arith}
use lib.Arith.{digits_div}
use lib.ListN.{length, get_or}
use Rattle.lists.proofs.Grid.{next_row}
use Rattle.lists.proofs.Bools.{overlay}
use Rattle.lists.proofs.Tab.{length-tabulate, get_or-tabulate}
use Rattle.refusals.specs.declared.Frame.{Frame}
use Rattle.painter.specs.Picture.{in_block, repainted, block_pixel}
use Rattle.painter.specs.Tag.{cell_at, shade_of, cell_of, size_of}
use Rattle.painter.specs.Part.{row_line, row_shade, part_pixel}
use Rattle.painter.specs.declared.Print.{Print}
use Rattle.painter.proofs.Runs.{Within}
use Rattle.painter.proofs.Picture.{repainted_none, repainted_twice}
use Rattle.painter.proofs.Block.{is_in, more_rows, no_rows}

-- x lies in cell n of those of `cell` pixels from x0 on
pub cell_at_lem : (x0 cell n x : ℕ) → Within (x0 + n * cell) cell x → (x - x0) / cell ≡ n
cell_at_lem x0 cell n x i =
    let d = x - x0 - n * cell in
    let e : x - x0 ≡ n * cell + d = omega arith in
    let l : d < cell = omega arith in
    ap (λ (k : ℕ). k / cell) e ∙ digits_div n l

pub pixel_cell : (print : Print) (row column x y : ℕ) → Within (print.x + column * print.cell) print.cell x → Within (print.y + row * print.cell) print.cell y
    → cell_of print x y ≡ cell_at row column
pixel_cell print row column x y i j =
    ap₂ cell_at (cell_at_lem print.y print.cell row y j) (cell_at_lem print.x print.cell column x i)

-- ---- rows of cells, one after another

module _ (frame : Frame) (edge border word : ℕ) (print : Print) (plane : List ℕ) where
  -- the shade of the pixel's cell
  abbrev shade : ℕ → ℕ → ℕ
  shade x y = shade_of edge border word print (cell_of print x y)

  pub no_row : plane ≡ repainted frame (part_pixel edge border word print (0 * print.cell)) plane
  no_row =
      repainted_none frame (part_pixel edge border word print (0 * print.cell)) plane (λ x y old.
      ap (λ (n : ℕ). part_pixel edge border word print n x y old) (zero-mul print.cell)
      ∙ ap (λ (t : Bool). cond t (shade x y) old) (no_rows print.x print.y (size_of edge border print) x y))

  -- the line of the next row of cells is copied to each of that row's rows of pixels
  pub one_row_more : (row : ℕ) (line out next : List ℕ) → out ≡ repainted frame (part_pixel edge border word print (row * print.cell)) plane
      → line ≡ row_line edge border word print row
      → next ≡ repainted frame (block_pixel print.x (print.y + row * print.cell) (length line) print.cell (λ i. get_or line i 0)) out
      → next ≡ repainted frame (part_pixel edge border word print ((row + 1) * print.cell)) plane
  one_row_more row line out next e l r =
      let cell = print.cell in
      let size = size_of edge border print in
      let n = row * cell in
      let x0 = print.x in
      let y0 = print.y in
      let long : length line ≡ size = ap length l ∙ length-tabulate size (row_shade edge border word print row) in
      let new : ℕ → ℕ = λ i. get_or line i 0 in
      let part = part_pixel edge border word print in
      r ∙ (λ j. repainted frame (block_pixel x0 (y0 + n) (long j) cell new) (e j))
      ∙ repainted_twice frame (part n) (block_pixel x0 (y0 + n) size cell new) (part ((row + 1) * cell)) plane (λ x y old.
      overlay (in_block x0 y0 size n x y) (in_block x0 (y0 + n) size cell x y) (shade x y) (new (x - x0)) old
      (λ t.
      let i = is_in x0 (y0 + n) size cell x y t in
      let b : x - x0 < size = omega (arith, i.across.from, i.across.to) in
      ap (λ (k : List ℕ). get_or k (x - x0) 0) l
      ∙ get_or-tabulate size (row_shade edge border word print row) (x - x0) 0 b
      ∙ ap (λ (v : ℕ). shade_of edge border word print (cell_at v ((x - x0) / cell))) (sym (cell_at_lem y0 cell row y i.down)))
      ∙ ap (λ (t : Bool). cond t (shade x y) old) (sym (more_rows x0 y0 size n cell x y))
      ∙ ap (λ (m : ℕ). part m x y old) (next_row cell row))
