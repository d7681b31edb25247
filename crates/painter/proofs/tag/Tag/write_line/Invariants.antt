-- The line has the row's cells before `column`, and is dark from there on.
use mathlib.Core.Path.{◌≡◌}
use Prim.Native.Nat.{◌*◌}
use Rattle.painter.specs.Picture.{run_written}
use Rattle.painter.specs.Part.{row_shade, dark_line}
use Rattle.painter.proofs.tag.Tag.write_line.Given as goal

abbrev pub invariant-loop-column : goal.invariant-loop-column
invariant-loop-column l =
    l.line ≡ run_written 0 (l.column * l.self.print.cell) (row_shade l.self.square.edge l.self.square.border l.self.word l.self.print l.row) (dark_line l.self.square.edge l.self.square.border l.self.print)
