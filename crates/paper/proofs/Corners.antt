-- The painter's quad passes 8 and 9. From its other starts any quad takes the same samples in another order, and a turned print shows its own module at
-- each. Assumes nothing.
use mathlib.Core.Path.{◌≡◌, refl, ap, ap₂, ◌∙◌}
use mathlib.Core.Bool.{Bool, false}
use Prim.Native.Nat.{ℕ, zero, suc, ◌+◌, ◌-◌, ◌*◌, ◌/◌, ◌%◌, ◌≤◌, ◌<◌}
use native.Mathlib.Omega.{arith}
use borrow.Author.Tests.{lt-leb}
use lib.Arith.{digits_div, digits_mod}
use lib.Dec.{leb}
use Rattle.std.proofs.lemmas.Bool.{or_from}
use Rattle.lists.proofs.Grid.{square_row, square_column}
use Rattle.refusals.specs.declared.Frame.{Frame}
use Rattle.points.specs.declared.Point.{Point}
use Rattle.points.specs.declared.Quad.{Quad}
use Rattle.points.specs.Turned.{turned_left, any_corner}
use Rattle.tables.specs.declared.Family.{Family}
use Rattle.word.specs.Word.{source}
use Rattle.word.proofs.Turn.{source-lt}
use Rattle.places.specs.Rounding.{bad_coordinate, pixel_of, in_1024ths}
use Rattle.places.specs.Corners.{bad_corner, bad_corners, corner_outside, corners_outside}
use Rattle.places.specs.Place.{axes_of}
use Rattle.places.proofs.Painted.{HalfBefore, half_before as half_in_1024ths, half_1024ths, half_pixel, half_good}
use Rattle.places.proofs.Turned.{bad_turned, outside_turned}
use Rattle.painter.specs.Corners.{half_before, outer_corners, print_quad}
use Rattle.painter.specs.Printable.{Printable}
use Rattle.painter.specs.Tag.{size_of, cell_at, turned_cell, quarter}
use Rattle.painter.specs.declared.Cell.{Cell}
use Rattle.painter.specs.declared.Print.{Print}
use Rattle.painter.proofs.Half.{half_zero, half_suc}
use Rattle.painter.proofs.Printable.{Good-print, Good}
use Rattle.painter.proofs.Turned.{quarter_back, CellIn}
use Rattle.reader.specs.Reading.{samples, column, row}
use Rattle.reader.proofs.Starts.{column_turned, row_turned}

-- the painter's coordinate lies half a pixel before pixel n
half_is : (n : ℕ) → HalfBefore (half_before n) n
half_is zero = half_zero
half_is (suc n) = half_suc n

-- in 1024ths
pub half_at : (n : ℕ) → in_1024ths (half_before n) ≡ half_in_1024ths n
half_at n = half_1024ths (half_before n) n (half_is n)

-- ---- 8 and 9

no_corner : (test : Point → Bool) (q : Quad) → test q.q0 ≡ false → test q.q1 ≡ false → test q.q2 ≡ false → test q.q3 ≡ false → any_corner test q ≡ false
no_corner test q a b c d = simp (a, b, c, d)

-- the corner half a pixel before column u and row v
abbrev corner : ℕ → ℕ → Point
corner u v = record { x = half_before u; y = half_before v }

good_corner : (u v : ℕ) → u ≤ 4096 → v ≤ 4096 → bad_corner (corner u v) ≡ false
good_corner u v hu hv =
    or_from (bad_coordinate (half_before u)) (bad_coordinate (half_before v)) (half_good (half_before u) u (omega arith) (half_is u)) (half_good (half_before v) v (omega arith) (half_is v))

near_corner : (width height u v : ℕ) → u < width → v < height → corner_outside width height (corner u v) ≡ false
near_corner width height u v hu hv =
    or_from (leb width (pixel_of (half_before u))) (leb height (pixel_of (half_before v)))
    (ap (leb width) (half_pixel (half_before u) u (half_is u)) ∙ lt-leb width u hu) (ap (leb height) (half_pixel (half_before v) v (half_is v)) ∙ lt-leb height v hv)

module _ (len : ℕ) (frame : Frame) (edge border word : ℕ) (print : Print) (p : Printable len frame edge border word print) where
  good : Good len frame edge border word print
  good = Good-print p

  pub print_small : bad_corners (print_quad edge border print) ≡ false
  print_small =
      let x = print.x in
      let y = print.y in
      let x' = x + size_of edge border print in
      let y' = y + size_of edge border print in
      let hx : x' ≤ 4096 = omega (arith, good.placed.right, good.framed.sides.width_le) in
      let hy : y' ≤ 4096 = omega (arith, good.placed.low, good.framed.sides.height_le) in
      bad_turned print.turn (outer_corners edge border print)
      ∙ no_corner bad_corner (outer_corners edge border print) (good_corner x y (omega arith) (omega arith)) (good_corner x' y hx (omega arith)) (good_corner x' y' hx hy) (good_corner x y' (omega arith) hy)

  pub print_within : corners_outside frame.width frame.height (print_quad edge border print) ≡ false
  print_within =
      let x = print.x in
      let y = print.y in
      let x' = x + size_of edge border print in
      let y' = y + size_of edge border print in
      let w = frame.width in
      let h = frame.height in
      let hx : x' < w = good.placed.right in
      let hy : y' < h = good.placed.low in
      outside_turned w h print.turn (outer_corners edge border print)
      ∙ no_corner (corner_outside w h) (outer_corners edge border print) (near_corner w h x y (omega arith) (omega arith)) (near_corner w h x' y hx (omega arith)) (near_corner w h x' y' hx hy) (near_corner w h x y' (omega arith) hy)

-- ---- the samples

-- T times the place from which a turn takes place k
unfoldable pub sources : ℕ → ℕ → ℕ → ℕ
sources e zero k = k
sources e (suc t) k = sources e t (source e k)

pub sources-lt : (e t k : ℕ) → k < e * e → sources e t k < e * e
unfolding sources
sources-lt e zero k h = h
sources-lt e (suc t) k h = sources-lt e t (source e k) (source-lt e k h)

-- sample k of the start t is sample `sources t k` of start 0
pub column_start : (family : Family) (q : Quad) (t k : ℕ) → k < samples family → column (axes_of (turned_left t q)) family k ≡ column (axes_of q) family (sources family.edge t k)
unfolding turned_left sources
column_start family q zero k h = refl
column_start family q (suc t) k h = column_turned family (turned_left t q) k h ∙ column_start family q t (source family.edge k) (source-lt family.edge k h)

pub row_start : (family : Family) (q : Quad) (t k : ℕ) → k < samples family → row (axes_of (turned_left t q)) family k ≡ row (axes_of q) family (sources family.edge t k)
unfolding turned_left sources
row_start family q zero k h = refl
row_start family q (suc t) k h = row_turned family (turned_left t q) k h ∙ row_start family q t (source family.edge k) (source-lt family.edge k h)

-- the cell of place k of the square
abbrev pub cell_of : ℕ → ℕ → Cell
cell_of e k = cell_at (k / e) (k % e)

pub cell_in : (e k : ℕ) → k < e * e → CellIn e (cell_of e k)
cell_in e k h = record { rows = square_row e k h; columns = square_column e k h }

-- the turned print shows its own module k there
pub cell_back : (e t k : ℕ) → k < e * e → turned_cell e t (cell_of e (sources e t k)) ≡ cell_of e k
unfolding turned_cell sources
cell_back e zero k h = refl
cell_back e (suc t) k h =
    let i = cell_in e k h in
    let c : e - 1 - k / e < e = omega (arith, i.rows) in
    ap (quarter e) (cell_back e t (source e k) (source-lt e k h) ∙ ap₂ cell_at (digits_div (k % e) c) (digits_mod (k % e) c))
    ∙ quarter_back e (k / e) (k % e) i.rows
