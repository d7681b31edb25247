-- After `row` turns that many rows of pixels are light, and all other bytes are as they were.
use mathlib.Core.Path.{◌≡◌}
use Rattle.painter.specs.Picture.{repainted, block_pixel}
use Rattle.painter.proofs.canvas.Canvas.fill.Given as goal

abbrev pub invariant-loop-row : goal.invariant-loop-row
invariant-loop-row l = record {
  painted : l.self.bytes.now ≡ repainted l.fn.self.frame (block_pixel 0 0 l.fn.self.frame.width l.row (λ i. l.fn.light)) l.fn.self.bytes.now;
  same_frame : l.self.frame ≡ l.fn.self.frame;
  same_loan : l.self.bytes.ghost_name ≡ l.fn.self.bytes.ghost_name;
}
