-- The quads of a sheet at the front of an output. Assumes nothing.
use mathlib.Core.Path.{◌≡◌, refl, ap, ◌∙◌}
use mathlib.Core.List.{List, flat_map}
use Prim.Native.Nat.{ℕ, ◌+◌, ◌*◌, ◌≤◌, ◌<◌}
use native.Mathlib.Omega.{arith}
use lib.Ieee.{Float}
use lib.ListN.{length, drop}
use lib.Seq.{sets}
use Rattle.lists.specs.Front.{in_front}
use Rattle.lists.specs.Tab.{tabulate}
use Rattle.lists.proofs.Flat.{part_at, parts_none, parts_more}
use Rattle.lists.proofs.Tab.{length-tabulate, get_or-tabulate}
use Rattle.points.specs.declared.Quad.{Quad}
use Rattle.points.specs.Numbers.{quad_size, quad_at, numbers_of}
use Rattle.points.proofs.Numbers.{quad_of_numbers}
use Rattle.tables.specs.declared.Family.{Family}
use Rattle.painter.specs.declared.Print.{Print}
use Rattle.grid.specs.Quads.{tag_count, position_quad, sheet_quads}
use Rattle.grid.specs.declared.Grid.{Grid}

size : (quad : Quad) → length (numbers_of quad) ≡ quad_size
size quad = refl

module _ (family : Family) (grid : Grid) (print : Print) (output : List Float) where
  -- the output after the quads before a position are written
  abbrev pub first_quads : ℕ → List Float
  first_quads position = in_front (flat_map numbers_of (tabulate position (position_quad family grid print))) output

  pub no_quads : output ≡ first_quads 0
  no_quads = parts_none numbers_of quad_size size (position_quad family grid print) output

  pub quad_more : (position : ℕ) (out : List Float) → quad_size * position + quad_size ≤ length output → out ≡ first_quads position
      → sets out (quad_size * position) (numbers_of (position_quad family grid print position)) ≡ first_quads (position + 1)
  quad_more position out h e = parts_more numbers_of quad_size size (position_quad family grid print) position output out h e

  pub all_quads : first_quads (tag_count grid) ≡ in_front (sheet_quads family grid print) output
  unfolding sheet_quads
  all_quads = refl

  -- each position has its own quad
  pub quad_is : (position : ℕ) → position < tag_count grid → quad_at (in_front (sheet_quads family grid print) output) position ≡ position_quad family grid print position
  unfolding sheet_quads
  quad_is position h =
      let quads = tabulate (tag_count grid) (position_quad family grid print) in
      let none = position_quad family grid print 0 in
      let numbers = flat_map numbers_of quads in
      quad_of_numbers (in_front numbers output) position (position_quad family grid print position)
      (part_at numbers_of quad_size size quads (drop (length numbers) output) position none (omega (arith, length-tabulate (tag_count grid) (position_quad family grid print)))
      ∙ ap numbers_of (get_or-tabulate (tag_count grid) (position_quad family grid print) position none h))
