-- After `row` turns so many rows of cells are drawn, and all other pixels are as they were.
use mathlib.Core.Path.{◌≡◌}
use Prim.Native.Nat.{◌*◌}
use lib.ListN.{length}
use Rattle.painter.specs.Picture.{repainted}
use Rattle.painter.specs.Part.{part_pixel}
use Rattle.painter.proofs.canvas.Canvas.draw_rows.Given as goal

abbrev pub invariant-loop-row : goal.invariant-loop-row
invariant-loop-row l = record {
  drawn : l.self.bytes.now ≡ repainted l.fn.self.frame (part_pixel l.fn.tag.square.edge l.fn.tag.square.border l.fn.tag.word l.fn.tag.print (l.row * l.fn.tag.print.cell)) l.fn.self.bytes.now;
  same_frame : l.self.frame ≡ l.fn.self.frame;
  same_loan : l.self.bytes.ghost_name ≡ l.fn.self.bytes.ghost_name;
  same_size : length l.line ≡ length l.fn.line;
}
