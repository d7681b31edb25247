-- The painted tag, from 01's "Painter". Its square has side × side cells, each of print.cell × print.cell pixels; its upper left pixel
-- is (print.x, print.y). Assumes nothing.
use Rattle.std.specs.Prelude.{ℕ, zero, suc, ◌+◌, ◌-◌, ◌*◌, ◌/◌, Bool, ◌&&◌, cond, List, eqb}
use Rattle.refusals.specs.declared.Frame.{Frame}
use Rattle.word.specs.Word.{bit}
use Rattle.tables.specs.Table.{side_of}
use Rattle.painter.specs.Picture.{between, in_block, repainted}
use Rattle.painter.specs.declared.Cell.{Cell}
use Rattle.painter.specs.declared.Print.{Print}

abbrev pub cell_at : ℕ → ℕ → Cell
cell_at row column = record { row = row; column = column }

-- A square's cell by its row and column from one corner, rows running from there clockwise; and the same cell from the next corner clockwise.
--     0 1 2      the upper left corner is first: cell 2 is in row 0 and column 2
--     3 4 5
--     6 7 8      the upper right corner is first, row 0 is 2 5 8: cell 2 is in row 0 and column 0, cell 1 in row 1 and column 0
abbrev pub quarter : ℕ → Cell → Cell
quarter side c = cell_at (side - 1 - c.column) c.row

-- "At turn 0, 1, 2, 3 the print's first corner is upper left, upper right, lower right, lower left; rows run from it clockwise."
-- The print's row and column of the cell that the picture has at c.
unfoldable pub turned_cell : ℕ → ℕ → Cell → Cell
turned_cell side zero c = c
turned_cell side (suc turn) c = quarter side (turned_cell side turn c)

-- "module (i, j), counted from 0 inside the border, of the word at bit edge² − 1 − (i × edge + j)"
abbrev pub module_bit : (edge word i j : ℕ) → ℕ
module_bit edge word i j = bit word (edge * edge - 1 - (i * edge + j))

-- "dark borders, and module (i, j) .., 1 light": the print's cell at c is light
unfoldable pub is_light : (edge border word : ℕ) → Cell → Bool
is_light edge border word c =
    between border edge c.row
    && (between border edge c.column && eqb (module_bit edge word (c.row - border) (c.column - border)) 1)

-- the cell that the picture has at c, rows and columns counted from the tag's upper left corner, is light; and its shade
abbrev pub shows_light : (edge border word : ℕ) → Print → Cell → Bool
shows_light edge border word print c = is_light edge border word (turned_cell (side_of edge border) print.turn c)

abbrev pub shade_of : (edge border word : ℕ) → Print → Cell → ℕ
shade_of edge border word print c = cond (shows_light edge border word print c) print.light print.dark

-- the cell that has pixel (x, y) of the tag
abbrev pub cell_of : Print → ℕ → ℕ → Cell
cell_of print x y = cell_at ((y - print.y) / print.cell) ((x - print.x) / print.cell)

-- the tag's width and height in pixels
abbrev pub size_of : (edge border : ℕ) → Print → ℕ
size_of edge border print = side_of edge border * print.cell

-- pixel (x, y), which was `old`, after the tag is drawn: within the tag's square its cell's shade, outside as it was
abbrev pub tag_pixel : (edge border word : ℕ) → Print → (x y old : ℕ) → ℕ
tag_pixel edge border word print x y old =
    cond (in_block print.x print.y (size_of edge border print) (size_of edge border print) x y)
    (shade_of edge border word print (cell_of print x y))
    old

-- the plane after the tag is drawn
abbrev pub drawn : Frame → (edge border word : ℕ) → Print → List ℕ → List ℕ
drawn frame edge border word print plane = repainted frame (tag_pixel edge border word print) plane

-- "It fills the plane with light, then draws the tag with its upper left pixel at a given place"
abbrev pub painted_pixel : (edge border word : ℕ) → Print → (x y : ℕ) → ℕ
painted_pixel edge border word print x y = tag_pixel edge border word print x y print.light

abbrev pub painted : Frame → (edge border word : ℕ) → Print → List ℕ → List ℕ
painted frame edge border word print plane = repainted frame (λ x y old. painted_pixel edge border word print x y) plane
