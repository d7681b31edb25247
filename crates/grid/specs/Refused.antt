-- Refusals 17 and 16 of a sheet. Assumes nothing.
use Rattle.std.specs.Prelude.{ℕ, ◌+◌, ◌-◌, ◌*◌, Bool, ◌||◌, ltb}
use Rattle.refusals.specs.declared.Frame.{Frame}
use Rattle.points.specs.Numbers.{quad_size}
use Rattle.tables.specs.Table.{outside, side_of}
use Rattle.tables.specs.declared.Family.{Family}
use Rattle.painter.specs.Printable.{ends_late}
use Rattle.painter.specs.declared.Print.{Print}
use Rattle.grid.specs.Quads.{tag_count}
use Rattle.grid.specs.declared.Grid.{Grid}

-- so many tags in a line, with the gaps between them, in pixels: "columns × side + (columns − 1) × gap" cells
abbrev pub line_size : Family → Grid → Print → ℕ → ℕ
line_size family grid print count = (count * side_of family.edge family.border + (count - 1) * grid.gap) * print.cell

-- "a side of 0 or above 32 tags, a bad gap, more tags than codes": "Gap is 1 to 16 cells."
abbrev pub bad_counts : ℕ → Grid → Bool
bad_counts codes grid = outside 1 32 grid.rows || (outside 1 32 grid.columns || (outside 1 16 grid.gap || ltb codes (tag_count grid)))

-- "a grid that does not end at least one pixel before the right and lower edges"
abbrev pub bad_end : Frame → Family → Grid → Print → Bool
bad_end frame family grid print =
    ends_late frame.width print.x (line_size family grid print grid.columns) || ends_late frame.height print.y (line_size family grid print grid.rows)

-- refusal 17, with a table of so many codes
unfoldable pub bad_grid : Frame → Family → ℕ → Grid → Print → Bool
bad_grid frame family codes grid print = bad_counts codes grid || bad_end frame family grid print

-- "16 covers an output below eight numbers a tag"
abbrev pub bad_output : Grid → ℕ → Bool
bad_output grid numbers = ltb numbers (quad_size * tag_count grid)
