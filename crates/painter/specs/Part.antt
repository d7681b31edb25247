-- A part of the tag, as the functions that draw its rows of cells one after another promise it. Assumes nothing.
use Rattle.std.specs.Prelude.{ℕ, ◌/◌, cond, List}
use Rattle.lists.specs.Tab.{tabulate}
use Rattle.painter.specs.Picture.{in_block}
use Rattle.painter.specs.Tag.{cell_at, shade_of, cell_of, size_of}
use Rattle.painter.specs.declared.Print.{Print}

-- the shade of pixel k of a line through that row, counted from the tag's left side
abbrev pub row_shade : (edge border word : ℕ) → Print → (row k : ℕ) → ℕ
row_shade edge border word print row k = shade_of edge border word print (cell_at row (k / print.cell))

-- the whole line
abbrev pub row_line : (edge border word : ℕ) → Print → ℕ → List ℕ
row_line edge border word print row = tabulate (size_of edge border print) (row_shade edge border word print row)

-- a line through a border
abbrev pub dark_line : (edge border : ℕ) → Print → List ℕ
dark_line edge border print = tabulate (size_of edge border print) (λ k. print.dark)

-- pixel (x, y), which was `old`, after the tag's first `high` rows of pixels are drawn
abbrev pub part_pixel : (edge border word : ℕ) → Print → (high x y old : ℕ) → ℕ
part_pixel edge border word print high x y old =
    cond (in_block print.x print.y (size_of edge border print) high x y) (shade_of edge border word print (cell_of print x y)) old
