-- The painter's entries: "the painter 1, 6 for edge and border, 14". Assumes nothing.
use Rattle.std.specs.Prelude.{ℕ, not, ◌||◌, cond, List, length}
use Rattle.refusals.specs.Outcome.{Outcome, accepted, refused}
use Rattle.refusals.specs.Pixels.{bad_frame}
use Rattle.refusals.specs.declared.Frame.{Frame}
use Rattle.points.specs.declared.Quad.{Quad}
use Rattle.tables.specs.Table.{bad_edge, bad_border}
use Rattle.tag_families.specs.Families.{is_family, family_of}
use Rattle.painter.specs.Picture.{repainted}
use Rattle.painter.specs.Tag.{painted}
use Rattle.painter.specs.Corners.{print_quad}
use Rattle.painter.specs.Printable.{bad_print}
use Rattle.painter.specs.declared.Print.{Print}

-- a painting: what it answers, and the plane afterwards
pub record Painting : Type 0 where
  pub answer : Outcome Quad
  pub plane : List ℕ

-- a refused painting leaves the plane as it was
abbrev pub unpainted : List ℕ → ℕ → Painting
unpainted plane n = record { answer = refused n; plane = plane }

unfoldable pub paint_tag : List ℕ → Frame → (edge border word : ℕ) → Print → Painting
unfolding bad_frame bad_print repainted
paint_tag plane frame edge border word print =
    cond (bad_frame (length plane) frame) (unpainted plane 1)
    (cond (bad_edge edge || bad_border border) (unpainted plane 6)
    (cond (bad_print frame edge border word print) (unpainted plane 14)
    (record { answer = accepted (print_quad edge border print); plane = painted frame edge border word print plane })))

-- the same by the number of a family, with its edge and border; 6 where there is no such family
unfoldable pub paint_tag_in : List ℕ → Frame → (family word : ℕ) → Print → Painting
unfolding bad_frame paint_tag
paint_tag_in plane frame family word print =
    cond (bad_frame (length plane) frame) (unpainted plane 1)
    (cond (not (is_family family)) (unpainted plane 6)
    (paint_tag plane frame (family_of family).edge (family_of family).border word print))
