-- The numbers that C lends, as the structs of the entries, in C's order. Assumes nothing.
use Rattle.std.specs.Prelude.{ℕ}
use Rattle.refusals.specs.declared.Frame.{Frame}
use Rattle.refusals.specs.declared.Shape.{Shape}
use Rattle.tables.specs.declared.Family.{Family}
use Rattle.painter.specs.declared.Print.{Print}
use Rattle.grid.specs.declared.Grid.{Grid}

abbrev pub frame_of : (width height pitch : ℕ) → Frame
frame_of width height pitch = record { width = width; height = height; pitch = pitch }

abbrev pub shape_of : (width height : ℕ) → Shape
shape_of width height = record { width = width; height = height }

abbrev pub table_of : (edge border threshold : ℕ) → Family
table_of edge border threshold = record { edge = edge; border = border; hamming_distance = threshold }

abbrev pub print_of : (x y cell turn light dark : ℕ) → Print
print_of x y cell turn light dark = record { x = x; y = y; cell = cell; turn = turn; light = light; dark = dark }

abbrev pub grid_of : (rows columns gap : ℕ) → Grid
grid_of rows columns gap = record { rows = rows; columns = columns; gap = gap }
