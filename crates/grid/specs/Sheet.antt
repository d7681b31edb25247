-- A whole sheet, from ticket 3 of 02: "Given rows, columns, cell, gap in cells, one turn for all tags, light, dark and the grid's upper left
-- pixel, the painter draws a grid of a table's codes on one plane." The grid's upper left pixel is (print.x, print.y); its rows are counted
-- from the top, its columns from the left, both from 0. Assumes nothing.
use Rattle.std.specs.Prelude.{ℕ, ◌+◌, ◌-◌, ◌*◌, ◌/◌, ◌%◌, Bool, ◌&&◌, cond, List, ltb, leb, get_or}
use Rattle.refusals.specs.declared.Frame.{Frame}
use Rattle.tables.specs.declared.Family.{Family}
use Rattle.tables.specs.Table.{side_of}
use Rattle.painter.specs.Picture.{repainted}
use Rattle.painter.specs.Tag.{size_of, shade_of, cell_of}
use Rattle.painter.specs.declared.Print.{Print}
use Rattle.grid.specs.declared.Grid.{Grid}

-- a tag's width and height in pixels
abbrev pub tag_size : Family → Print → ℕ
tag_size family print = size_of family.edge family.border print

-- the pixels from one tag's first to the next one's: a tag and the gap behind it
abbrev pub step_of : Family → Grid → Print → ℕ
step_of family grid print = (side_of family.edge family.border + grid.gap) * print.cell

-- the single painter's print of the tag in this row and column of the grid: "one turn for all tags, light, dark"
abbrev pub print_at : Family → Grid → Print → (row column : ℕ) → Print
print_at family grid print row column =
    record {
      x = print.x + column * step_of family grid print;
      y = print.y + row * step_of family grid print;
      cell = print.cell;
      turn = print.turn;
      light = print.light;
      dark = print.dark;
    }

-- "The lower left tag is position 0, numbers rise along a row and then upward."
--     4 5      the positions of a grid of three rows and two columns
--     2 3
--     0 1
abbrev pub position_at : Grid → (row column : ℕ) → ℕ
position_at grid row column = (grid.rows - 1 - row) * grid.columns + column

-- ---- one direction: `count` tags of `size` pixels, `step` pixels from one to the next, the first at pixel `first`

-- pixel n lies in this tag, or in the gap behind it
abbrev pub line_tag : (first step n : ℕ) → ℕ
line_tag first step n = (n - first) / step

-- pixel n lies in a tag
abbrev pub in_tag : (first step size count n : ℕ) → Bool
in_tag first step size count n = leb first n && (ltb (line_tag first step n) count && ltb ((n - first) % step) size)

-- ---- the plane

-- the row and the column of the grid that pixel (x, y) lies in, and whether it lies in the tag there: if not, in a gap or beside the grid
abbrev pub pixel_column : Family → Grid → Print → ℕ → ℕ
pixel_column family grid print x = line_tag print.x (step_of family grid print) x

abbrev pub pixel_row : Family → Grid → Print → ℕ → ℕ
pixel_row family grid print y = line_tag print.y (step_of family grid print) y

abbrev pub in_grid : Family → Grid → Print → (x y : ℕ) → Bool
in_grid family grid print x y =
    in_tag print.x (step_of family grid print) (tag_size family print) grid.columns x
    && in_tag print.y (step_of family grid print) (tag_size family print) grid.rows y

-- pixel (x, y)'s shade in the tag of this row and column, which shows the code of its position: that of its cell
abbrev pub shade_at : Family → List ℕ → Grid → Print → (row column x y : ℕ) → ℕ
shade_at family codes grid print row column x y =
    shade_of family.edge family.border (get_or codes (position_at grid row column) 0) print (cell_of (print_at family grid print row column) x y)

-- pixel (x, y), which was `old`, after the tags are drawn: in a tag that tag's shade, elsewhere as it was
abbrev pub sheet_pixel : Family → List ℕ → Grid → Print → (x y old : ℕ) → ℕ
sheet_pixel family codes grid print x y old =
    cond (in_grid family grid print x y) (shade_at family codes grid print (pixel_row family grid print y) (pixel_column family grid print x) x y) old

-- the plane is filled with light, then the tags are drawn
abbrev pub sheet : Frame → Family → List ℕ → Grid → Print → List ℕ → List ℕ
sheet frame family codes grid print plane = repainted frame (λ x y old. sheet_pixel family codes grid print x y print.light) plane
