-- What the entries that paint a sheet have tested; the laws of sheets are said of it. Assumes nothing.
use Rattle.std.specs.Prelude.{ℕ, ◌≡◌, false, List, length}
use Rattle.refusals.specs.Pixels.{bad_frame}
use Rattle.refusals.specs.declared.Frame.{Frame}
use Rattle.tables.specs.Table.{bad_table}
use Rattle.tables.specs.declared.Family.{Family}
use Rattle.painter.specs.Printable.{bad_style}
use Rattle.painter.specs.declared.Print.{Print}
use Rattle.grid.specs.Refused.{bad_grid, bad_output}
use Rattle.grid.specs.declared.Grid.{Grid}

-- what an entry has tested when a sheet is drawn on a plane of len bytes, with an output of so many numbers
pub record Sheetable (len : ℕ) (frame : Frame) (family : Family) (codes : List ℕ) (grid : Grid) (print : Print) (numbers : ℕ) : Type 0 where
  pub planes : bad_frame len frame ≡ false
  pub tables : bad_table family codes ≡ false
  pub styles : bad_style print ≡ false
  pub grids : bad_grid frame family (length codes) grid print ≡ false
  pub outputs : bad_output grid numbers ≡ false
