-- What a sheet that 1, 6, 14, 17 and 16 let through is like: each of its tags is a print that the single painter takes. Assumes nothing.
use mathlib.Core.Path.{◌≡◌}
use mathlib.Core.Bool.{false, ◌||◌}
use mathlib.Core.List.{List}
use Prim.Native.Nat.{ℕ, ◌+◌, ◌*◌, ◌≤◌, ◌<◌}
use native.Mathlib.Nat.{mul-le-mul_right}
use native.Mathlib.Omega.{arith}
use borrow.Author.Tests.{lt-ltb, le-ltb, ltb-false}
use lib.Dec.{ltb}
use lib.ListN.{length, get_or}
use Rattle.std.proofs.lemmas.Bool.{or_parts}
use Rattle.refusals.specs.declared.Frame.{Frame}
use Rattle.refusals.proofs.Pixels.{good_frame}
use Rattle.points.specs.Numbers.{quad_size}
use Rattle.tables.specs.Table.{outside, side_of}
use Rattle.tables.specs.declared.Family.{Family}
use Rattle.tables.proofs.Table.{Within, within, good_table, table_edge, table_border}
use Rattle.painter.specs.Printable.{bad_print, ends_late, Printable}
use Rattle.painter.specs.declared.Print.{Print}
use Rattle.grid.specs.Sheet.{tag_size, step_of}
use Rattle.grid.specs.Quads.{tag_count, position_row, position_column, position_print}
use Rattle.grid.specs.Refused.{line_size, bad_counts, bad_end, bad_grid}
use Rattle.grid.specs.Sheetable.{Sheetable}
use Rattle.grid.specs.declared.Grid.{Grid}
use Rattle.grid.proofs.Line.{tag_ends}
use Rattle.grid.proofs.Place.{row_lt, column_lt}

pub record Counts (codes : ℕ) (grid : Grid) : Type 0 where
  pub rows : Within 1 32 grid.rows
  pub columns : Within 1 32 grid.columns
  pub gaps : Within 1 16 grid.gap
  pub enough : tag_count grid ≤ codes

pub good_counts : (codes : ℕ) (grid : Grid) → bad_counts codes grid ≡ false → Counts codes grid
good_counts codes grid e =
    let r = outside 1 32 grid.rows in
    let c = outside 1 32 grid.columns in
    let g = outside 1 16 grid.gap in
    let m = ltb codes (tag_count grid) in
    let e₁ = (or_parts r (c || (g || m)) e).1 in
    let e₂ = (or_parts c (g || m) e₁).1 in
    record {
      rows = within 1 32 grid.rows (or_parts r (c || (g || m)) e).0;
      columns = within 1 32 grid.columns (or_parts c (g || m) e₁).0;
      gaps = within 1 16 grid.gap (or_parts g m e₂).0;
      enough = ltb-false codes (tag_count grid) (or_parts g m e₂).1;
    }

-- the grid and one pixel more lie within the picture
pub record Ends (frame : Frame) (family : Family) (grid : Grid) (print : Print) : Type 0 where
  pub right : print.x + line_size family grid print grid.columns < frame.width
  pub low : print.y + line_size family grid print grid.rows < frame.height

good_end : (frame : Frame) (family : Family) (grid : Grid) (print : Print) → bad_end frame family grid print ≡ false → Ends frame family grid print
good_end frame family grid print e =
    let wide = line_size family grid print grid.columns in
    let high = line_size family grid print grid.rows in
    let across = ends_late frame.width print.x wide in
    let down = ends_late frame.height print.y high in
    let r = ltb-false frame.width (print.x + wide + 1) (or_parts across down e).0 in
    let l = ltb-false frame.height (print.y + high + 1) (or_parts across down e).1 in
    record { right = omega arith; low = omega arith }

pub record Good (frame : Frame) (family : Family) (codes : ℕ) (grid : Grid) (print : Print) : Type 0 where
  pub counts : Counts codes grid
  pub ends : Ends frame family grid print

pub Good-grid : (frame : Frame) (family : Family) (codes : ℕ) (grid : Grid) (print : Print) → bad_grid frame family codes grid print ≡ false → Good frame family codes grid print
unfolding bad_grid
Good-grid frame family codes grid print e =
    let c = bad_counts codes grid in
    let d = bad_end frame family grid print in
    record { counts = good_counts codes grid (or_parts c d e).0; ends = good_end frame family grid print (or_parts c d e).1 }

-- tags do not overlap
pub tags_apart : (family : Family) (grid : Grid) (print : Print) → tag_size family print ≤ step_of family grid print
tags_apart family grid print =
    let l : side_of family.edge family.border ≤ side_of family.edge family.border + grid.gap = omega arith in
    mul-le-mul_right print.cell l

-- each tag ends where the grid does, or before
module _ (family : Family) (grid : Grid) (print : Print) (position : ℕ) (h : position < tag_count grid) where
  pub across_ends : position_column grid position * step_of family grid print + tag_size family print ≤ line_size family grid print grid.columns
  across_ends = tag_ends (side_of family.edge family.border) grid.gap print.cell grid.columns (position_column grid position) (column_lt grid position h)

  pub down_ends : position_row grid position * step_of family grid print + tag_size family print ≤ line_size family grid print grid.rows
  down_ends = tag_ends (side_of family.edge family.border) grid.gap print.cell grid.rows (position_row grid position) (row_lt grid position h)

module _ {len : ℕ} {frame : Frame} {family : Family} {codes : List ℕ} {grid : Grid} {print : Print} {numbers : ℕ}
    (p : Sheetable len frame family codes grid print numbers) where
  good : Good frame family (length codes) grid print
  good = Good-grid frame family (length codes) grid print p.grids

  -- its end is no large number
  pub across_small : print.x + line_size family grid print grid.columns ≤ 4096
  across_small = omega (arith, good.ends.right, (good_frame p.planes).sides.width_le)

  pub down_small : print.y + line_size family grid print grid.rows ≤ 4096
  down_small = omega (arith, good.ends.low, (good_frame p.planes).sides.height_le)

  -- there is room for each quad, and a code for each tag
  pub room : quad_size * tag_count grid ≤ numbers
  room = ltb-false numbers (quad_size * tag_count grid) p.outputs

  pub code_known : (position : ℕ) → position < tag_count grid → position < length codes
  code_known position h = omega (arith, good.counts.enough)

  -- the single painter takes the tag of each position
  pub tag_printable : (position : ℕ) → position < tag_count grid
      → Printable len frame family.edge family.border (get_or codes position 0) (position_print family grid print position)
  unfolding bad_print
  tag_printable position h =
      let t = good_table family codes p.tables in
      let tag = position_print family grid print position in
      let size = tag_size family print in
      let small = t.coded.small position (code_known position h) in
      let right : tag.x + size + 1 ≤ frame.width = omega (arith, good.ends.right, across_ends family grid print position h) in
      let low : tag.y + size + 1 ≤ frame.height = omega (arith, good.ends.low, down_ends family grid print position h) in
      record {
        planes = p.planes;
        edges = table_edge family codes p.tables;
        borders = table_border family codes p.tables;
        prints = simp (lt-ltb _ _ small, p.styles, le-ltb frame.width (tag.x + size + 1) right, le-ltb frame.height (tag.y + size + 1) low);
      }
