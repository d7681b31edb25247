-- The quads of a sheet: "It also writes the quads, in that order." Assumes nothing.
use Rattle.std.specs.Prelude.{ℕ, ◌-◌, ◌*◌, ◌/◌, ◌%◌, Float}
use mathlib.Core.List.{List, flat_map}
use Rattle.lists.specs.Tab.{tabulate}
use Rattle.points.specs.declared.Quad.{Quad}
use Rattle.points.specs.Numbers.{numbers_of}
use Rattle.tables.specs.declared.Family.{Family}
use Rattle.painter.specs.Corners.{print_quad}
use Rattle.painter.specs.declared.Print.{Print}
use Rattle.grid.specs.Sheet.{print_at}
use Rattle.grid.specs.declared.Grid.{Grid}

-- how many tags the grid has
abbrev pub tag_count : Grid → ℕ
tag_count grid = grid.rows * grid.columns

-- the row and the column of a position: position 0 stands in the last row from the top
abbrev pub position_row : Grid → ℕ → ℕ
position_row grid position = grid.rows - 1 - position / grid.columns

abbrev pub position_column : Grid → ℕ → ℕ
position_column grid position = position % grid.columns

-- the single painter's print of the tag at a position
abbrev pub position_print : Family → Grid → Print → ℕ → Print
position_print family grid print position = print_at family grid print (position_row grid position) (position_column grid position)

-- and its quad, which is the single painter's
abbrev pub position_quad : Family → Grid → Print → ℕ → Quad
position_quad family grid print position = print_quad family.edge family.border (position_print family grid print position)

-- eight numbers a tag, in the order of positions
unfoldable pub sheet_quads : Family → Grid → Print → List Float
unfolding flat_map tabulate
sheet_quads family grid print = flat_map numbers_of (tabulate (tag_count grid) (position_quad family grid print))
