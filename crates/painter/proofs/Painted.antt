-- The painted plane: its length, and its pixels inside the tag. Assumes nothing.
use mathlib.Core.Path.{◌≡◌, refl, ap, ◌∙◌}
use mathlib.Core.Bool.{Bool, cond}
use mathlib.Core.List.{List}
use Prim.Native.Nat.{ℕ, ◌+◌, ◌*◌, ◌<◌}
use native.Mathlib.Omega.{arith}
use lib.ListN.{length, get_or}
use Rattle.refusals.specs.declared.Frame.{Frame}
use Rattle.refusals.specs.Pixels.{place_of}
use Rattle.tables.specs.Table.{side_of}
use Rattle.painter.specs.Picture.{filled}
use Rattle.painter.specs.Tag.{cell_at, shade_of, cell_of, size_of, tag_pixel, drawn, painted_pixel, painted}
use Rattle.painter.specs.Printable.{Printable}
use Rattle.painter.specs.declared.Print.{Print}
use Rattle.painter.proofs.Picture.{length-repainted, repainted_twice, pixel_repainted}
use Rattle.painter.proofs.Block.{block_in}
use Rattle.painter.proofs.Part.{pixel_cell}
use Rattle.painter.proofs.Printable.{Good-print, cell_inside, cells_le}

module _ (frame : Frame) (edge border word : ℕ) (print : Print) (plane : List ℕ) where
  -- "It fills the plane with light, then draws the tag"
  pub drawn-filled : drawn frame edge border word print (filled frame print.light plane) ≡ painted frame edge border word print plane
  drawn-filled =
      repainted_twice frame (λ x y old. print.light) (tag_pixel edge border word print) (λ x y old. painted_pixel edge border word print x y) plane (λ x y old. refl)

  pub length-painted : length (painted frame edge border word print plane) ≡ length plane
  length-painted = length-repainted frame (λ x y old. painted_pixel edge border word print x y) plane

-- pixel (d, d') of the cell that the picture has in row v and column u of the tag has the cell's shade, whatever lay there
module _ (edge border word : ℕ) (print : Print) (u v d d' : ℕ) (hu : u < side_of edge border) (hv : v < side_of edge border) (hd : d < print.cell) (hd' : d' < print.cell) where
  pub cell_pixel : (old : ℕ)
      → tag_pixel edge border word print (print.x + u * print.cell + d) (print.y + v * print.cell + d') old ≡ shade_of edge border word print (cell_at v u)
  cell_pixel old =
      let cell = print.cell in
      let size = size_of edge border print in
      let x = print.x + u * cell + d in
      let y = print.y + v * cell + d' in
      let lu = cells_le u (side_of edge border) cell hu in
      let lv = cells_le v (side_of edge border) cell hv in
      ap (λ (t : Bool). cond t (shade_of edge border word print (cell_of print x y)) old)
      (block_in print.x print.y size size x y (omega arith) (omega arith) (omega arith) (omega arith))
      ∙ ap (shade_of edge border word print)
      (pixel_cell print v u x y (record { from = omega arith; to = omega arith }) (record { from = omega arith; to = omega arith }))

  pub painted_cell : (frame : Frame) (plane : List ℕ) → Printable (length plane) frame edge border word print
      → get_or (painted frame edge border word print plane) (place_of frame (print.x + u * print.cell + d) (print.y + v * print.cell + d')) 0
      ≡ shade_of edge border word print (cell_at v u)
  painted_cell frame plane p =
      let g = Good-print p in
      let x = print.x + u * print.cell + d in
      let y = print.y + v * print.cell + d' in
      pixel_repainted frame (λ x y old. painted_pixel edge border word print x y) plane x y 0 g.framed
      (omega (arith, (cell_inside p u hu).across)) (omega (arith, (cell_inside p v hv).down))
      ∙ cell_pixel print.light
