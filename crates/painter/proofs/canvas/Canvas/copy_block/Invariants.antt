-- After `row` turns that many rows of the block are the line's, and all other bytes are as they were.
use mathlib.Core.Path.{◌≡◌}
use lib.ListN.{length, get_or}
use Rattle.painter.specs.Picture.{repainted, block_pixel}
use Rattle.painter.proofs.canvas.Canvas.copy_block.Given as goal

abbrev pub invariant-loop-row : goal.invariant-loop-row
invariant-loop-row l = record {
  copied : l.self.bytes.now ≡ repainted l.fn.self.frame (block_pixel l.fn.x l.fn.y (length l.fn.line) l.row (λ i. get_or l.fn.line i 0)) l.fn.self.bytes.now;
  same_frame : l.self.frame ≡ l.fn.self.frame;
  same_loan : l.self.bytes.ghost_name ≡ l.fn.self.bytes.ghost_name;
}
