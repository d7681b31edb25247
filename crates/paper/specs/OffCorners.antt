-- Corners that are a little off: how far the corners of a quad may be off the painter's before a sample leaves its module. The papers do not ask for
-- it; docs/LIGHT.md tells users. Said of the definitions that the public entries are proved equal to. Assumes nothing.
use Rattle.std.specs.Prelude.{◌≡◌, true, false, List, ℕ, ◌+◌, ◌-◌, ◌*◌, ◌<◌, ◌≤◌, max, Float, ◌-ℤ◌, nat_abs}
use Rattle.refusals.specs.declared.Frame.{Frame}
use Rattle.points.specs.declared.Point.{Point}
use Rattle.points.specs.declared.Quad.{Quad}
use Rattle.tables.specs.declared.Family.{Family}
use Rattle.tables.specs.Table.{side_of}
use Rattle.places.specs.Rounding.{in_1024ths}
use Rattle.places.specs.Corners.{bad_corners, corners_outside}
use Rattle.places.specs.Place.{axes_of}
use Rattle.painter.specs.Corners.{print_quad}
use Rattle.painter.specs.Picture.{in_block}
use Rattle.painter.specs.Printable.{Printable}
use Rattle.painter.specs.Tag.{size_of, cell_of}
use Rattle.painter.specs.declared.Print.{Print}
use Rattle.reader.specs.Reading.{samples, column, row}
use Rattle.paper.specs.Demand3.{Painted, ReadsOwn}
use Rattle.paper.specs.Light.{Lit}

-- a coordinate, taken to the nearest 1/1024 pixel as sampling takes it, is at most e 1024ths off another
abbrev pub NearNumber : ℕ → Float → Float → Type 0
NearNumber e a b = nat_abs (in_1024ths a -ℤ in_1024ths b) ≤ e

-- both coordinates of a point are so near to those of another
abbrev pub NearPoint : ℕ → Point → Point → Type 0
NearPoint e a b = NearNumber e a.x b.x × NearNumber e a.y b.y

-- each corner of a quad is so near to the same corner of another
pub record Near (e : ℕ) (a b : Quad) : Type 0 where
  pub corner0 : NearPoint e a.q0 b.q0
  pub corner1 : NearPoint e a.q1 b.q1
  pub corner2 : NearPoint e a.q2 b.q2
  pub corner3 : NearPoint e a.q3 b.q3

-- how far a sample moves at most where each corner coordinate moves by one 1024th, counted in parts of which a 1024th has 4 × side: one
-- 1024th, as far as the corners, and more where the outermost modules lie near the tag's corners, at an edge above 2 × border + 2
abbrev pub spread : (edge border : ℕ) → ℕ
spread edge border = max (4 * side_of edge border) (2 * side_of edge border + 4 * (edge - 1))

-- sample k of the quad lies in the cell of the print in which sample k of the painter's quad lies
pub record Stays (family : Family) (print : Print) (quad : Quad) (k : ℕ) : Type 0 where
  -- it lies in the tag's square,
  pub inside : let size = size_of family.edge family.border print in
      in_block print.x print.y size size (column (axes_of quad) family k) (row (axes_of quad) family k) ≡ true
  -- and in the same cell of it
  pub cell : let own = axes_of (print_quad family.edge family.border print) in
      cell_of print (column (axes_of quad) family k) (row (axes_of quad) family k) ≡ cell_of print (column own family k) (row own family k)

-- no sample moves by half a cell where the corners move by at most e 1024ths; in the same parts half a cell is 512 × cell × 4 × side. So e is below
-- 512 × cell where the spread is 4 × side, and somewhat less where it is more
abbrev pub UnderHalfCell : (e : ℕ) → Family → Print → Type 0
UnderHalfCell e family print = e * spread family.edge family.border < 2048 * side_of family.edge family.border * print.cell

pub record OffCorners : Type 0 where
  -- each sample of a quad whose corners are so little off the painter's stays in its cell, so in its module
  pub stays : (len : ℕ) (frame : Frame) (family : Family) (word : ℕ) (print : Print) → Printable len frame family.edge family.border word print
      → (e : ℕ) → UnderHalfCell e family print → (found : Quad) → Near e found (print_quad family.edge family.border print)
      → (k : ℕ) → k < samples family → Stays family print found k
  -- and such a quad, if 8 and 9 let it through, is read as ticket 8 has it of the painter's own quad, in every picture in which the samples
  -- that it takes are lit well enough; the answer's corners are its own
  pub reads : (family : Family) (codes : List ℕ) (id word : ℕ) (plane : List ℕ) (frame : Frame) (print : Print) (quad : Quad) (shown : List ℕ)
      → Painted family codes id word plane frame print quad shown → (e : ℕ) → UnderHalfCell e family print → (found : Quad) → Near e found quad
      → bad_corners found ≡ false → corners_outside frame.width frame.height found ≡ false
      → (picture : List ℕ) (seen : Frame) → Lit shown frame print.light family found picture seen → (s : ℕ) → s < 4 → ReadsOwn family codes id word seen found picture s
