-- What a print that refusal 14 lets through is like. Assumes nothing.
use mathlib.Core.Path.{◌≡◌}
use mathlib.Core.Bool.{false, ◌||◌, and-true}
use mathlib.Core.List.{[], ◌∷◌}
use Prim.Native.Nat.{ℕ, ◌+◌, ◌*◌, ◌^◌, ◌<◌, ◌≤◌}
use native.Mathlib.Nat.{mul-le-mul_right}
use native.Mathlib.Omega.{arith}
use borrow.Author.Tests.{ltb-true, ltb-false, not-false}
use lib.Dec.{ltb}
use Rattle.std.proofs.lemmas.Bool.{or_parts}
use Rattle.lists.proofs.Grid.{next_row}
use Rattle.lists.specs.Tab.{all}
use Rattle.refusals.specs.declared.Frame.{Frame}
use Rattle.refusals.proofs.Pixels.{Framed, good_frame}
use Rattle.tables.specs.Table.{outside, in_square, bad_edge, bad_border, side_of}
use Rattle.tables.proofs.Table.{Within, good_edge, good_border}
use Rattle.painter.specs.Tag.{size_of}
use Rattle.painter.specs.Printable.{bad_word, bad_style, ends_late, bad_place, bad_print, Printable}
use Rattle.painter.specs.declared.Print.{Print}

pub record Style (print : Print) : Type 0 where
  pub some : 1 ≤ print.cell
  pub small : print.cell ≤ 64
  pub turns : print.turn ≤ 3
  pub apart : print.dark + 50 ≤ print.light

pub good_style : (print : Print) → bad_style print ≡ false → Style print
good_style print e =
    let cells = outside 1 64 print.cell in
    let turns = ltb 3 print.turn in
    let shades = ltb print.light (print.dark + 50) in
    let c = (or_parts cells (turns || shades) e).0 in
    let r = (or_parts cells (turns || shades) e).1 in
    record {
      some = ltb-false print.cell 1 (or_parts (ltb print.cell 1) (ltb 64 print.cell) c).0;
      small = ltb-false 64 print.cell (or_parts (ltb print.cell 1) (ltb 64 print.cell) c).1;
      turns = ltb-false 3 print.turn (or_parts turns shades r).0;
      apart = ltb-false print.light (print.dark + 50) (or_parts turns shades r).1;
    }

-- the tag and one pixel more lie within the picture
pub record Placed (frame : Frame) (edge border : ℕ) (print : Print) : Type 0 where
  pub right : print.x + size_of edge border print < frame.width
  pub low : print.y + size_of edge border print < frame.height

pub good_place : (frame : Frame) (edge border : ℕ) (print : Print) → bad_place frame edge border print ≡ false → Placed frame edge border print
good_place frame edge border print e =
    let size = size_of edge border print in
    let across = ends_late frame.width print.x size in
    let down = ends_late frame.height print.y size in
    let r = ltb-false frame.width (print.x + size + 1) (or_parts across down e).0 in
    let l = ltb-false frame.height (print.y + size + 1) (or_parts across down e).1 in
    record { right = omega arith; low = omega arith }

pub record Good (len : ℕ) (frame : Frame) (edge border word : ℕ) (print : Print) : Type 0 where
  pub framed : Framed len frame
  pub edges : Within 1 8 edge
  pub borders : Within 1 4 border
  pub words : word < 2 ^ (edge * edge)
  pub style : Style print
  pub placed : Placed frame edge border print

-- what refusal 14 tests, part by part
pub record Parts (frame : Frame) (edge border word : ℕ) (print : Print) : Type 0 where
  pub words : bad_word edge word ≡ false
  pub styles : bad_style print ≡ false
  pub placed : bad_place frame edge border print ≡ false

pub print_parts : (frame : Frame) (edge border word : ℕ) (print : Print) → bad_print frame edge border word print ≡ false → Parts frame edge border word print
unfolding bad_print
print_parts frame edge border word print e =
    let w = bad_word edge word in
    let s = bad_style print in
    let q = bad_place frame edge border print in
    let r = (or_parts w (s || q) e).1 in
    record { words = (or_parts w (s || q) e).0; styles = (or_parts s q r).0; placed = (or_parts s q r).1 }

pub Good-print : {len : ℕ} {frame : Frame} {edge border word : ℕ} {print : Print} → Printable len frame edge border word print → Good len frame edge border word print
Good-print {len} {frame} {edge} {border} {word} {print} p =
    let t = print_parts frame edge border word print p.prints in
    record {
      framed = good_frame p.planes;
      edges = good_edge edge p.edges;
      borders = good_border border p.borders;
      words = ltb-true word (2 ^ (edge * edge)) (not-false (in_square edge word) t.words);
      style = good_style print t.styles;
      placed = good_place frame edge border print t.placed;
    }

-- the test of one word
pub one_word : (edge word : ℕ) → all (in_square edge) (word ∷ []) ≡ in_square edge word
unfolding all
one_word edge word = and-true (in_square edge word)

-- the tag has this row of cells, and its numbers are small enough to work out the row's line
pub record RowOf (edge border : ℕ) (print : Print) (row : ℕ) : Type 0 where
  pub edges : edge ≤ 8
  pub borders : border ≤ 4
  pub some : 0 < print.cell
  pub small : print.cell ≤ 64
  pub turns : print.turn ≤ 3
  pub inside : row < side_of edge border

-- what the tag's own facts say of each of its rows of cells
pub row_of : (edge border : ℕ) (print : Print) (row : ℕ) → bad_edge edge ≡ false → bad_border border ≡ false → bad_style print ≡ false
    → row < side_of edge border → RowOf edge border print row
row_of edge border print row e b p h =
    let s = good_style print p in
    record { edges = (good_edge edge e).most; borders = (good_border border b).most; some = s.some; small = s.small; turns = s.turns; inside = h }

-- n cells and one more are no more than m of them
pub cells_le : (n m cell : ℕ) → n < m → n * cell + cell ≤ m * cell
cells_le n m cell h = let l : n + 1 ≤ m = omega arith in omega (arith, next_row cell n, mul-le-mul_right cell l)

-- cell n of a row and of a column lies within the picture
pub record CellInside (frame : Frame) (print : Print) (n : ℕ) : Type 0 where
  pub across : print.x + n * print.cell + print.cell ≤ frame.width
  pub down : print.y + n * print.cell + print.cell ≤ frame.height
  pub width_le : frame.width ≤ 4096
  pub height_le : frame.height ≤ 4096

pub cell_inside : {len : ℕ} {frame : Frame} {edge border word : ℕ} {print : Print} → Printable len frame edge border word print
    → (n : ℕ) → n < side_of edge border → CellInside frame print n
cell_inside {len} {frame} {edge} {border} {word} {print} p n h =
    let g = Good-print p in
    let e = cells_le n (side_of edge border) print.cell h in
    record {
      across = omega (arith, g.placed.right);
      down = omega (arith, g.placed.low);
      width_le = g.framed.sides.width_le;
      height_le = g.framed.sides.height_le;
    }
