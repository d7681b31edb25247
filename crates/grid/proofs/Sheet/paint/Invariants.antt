-- Before a position all tags before it are drawn and their quads written.
use mathlib.Core.Path.{◌≡◌}
use lib.ListN.{length}
use Rattle.painter.specs.Picture.{repainted, filled}
use Rattle.grid.proofs.Tags.{first_tags}
use Rattle.grid.proofs.Quads.{first_quads}
use Rattle.grid.proofs.Sheet.paint.Given as goal

abbrev pub invariant-loop-position : goal.invariant-loop-position
invariant-loop-position l = record {
  drawn : l.canvas.bytes.now ≡ repainted l.fn.canvas.frame (first_tags l.fn.self.table.family l.fn.self.table.codes.now l.fn.self.grid l.fn.self.print l.position) (filled l.fn.canvas.frame l.fn.self.print.light l.fn.canvas.bytes.now);
  written : l.quads ≡ first_quads l.fn.self.table.family l.fn.self.grid l.fn.self.print l.fn.quads l.position;
  same_frame : l.canvas.frame ≡ l.fn.canvas.frame;
  same_loan : l.canvas.bytes.ghost_name ≡ l.fn.canvas.bytes.ghost_name;
  same_length : length l.quads ≡ length l.fn.quads;
}
