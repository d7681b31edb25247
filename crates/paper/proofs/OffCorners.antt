-- Corners that are a little off: each sample stays in its cell and has its module's shade on the painted plane (Stays). So the quad is read as the
-- painter's own (Lit). Assumes nothing.
use mathlib.Core.Path.{◌≡◌, refl, ap, ◌∙◌, subst}
use mathlib.Core.Bool.{false}
use mathlib.Core.List.{List}
use Prim.Native.Nat.{ℕ, ◌-◌, ◌<◌}
use lib.ListN.{length, get_or}
use Rattle.lists.proofs.Tab.{get_or-tabulate}
use Rattle.refusals.specs.Pixels.{level_at}
use Rattle.refusals.specs.declared.Frame.{Frame}
use Rattle.points.specs.declared.Quad.{Quad}
use Rattle.tables.specs.declared.Family.{Family}
use Rattle.word.specs.Word.{bit}
use Rattle.places.specs.Corners.{bad_corners, corners_outside}
use Rattle.places.specs.Place.{axes_of}
use Rattle.painter.specs.Corners.{print_quad}
use Rattle.painter.specs.declared.Print.{Print}
use Rattle.reader.specs.Reading.{samples, column, row, levels_of}
use Rattle.paper.specs.Demand3.{Painted}
use Rattle.paper.specs.OffCorners.{Near, UnderHalfCell, OffCorners}
use Rattle.paper.proofs.Given.{Took, took}
use Rattle.paper.proofs.Clear.{Taken}
use Rattle.paper.proofs.Stays.{stays, Near-sampled, Near-level}
use Rattle.paper.proofs.Painted.{shade_of_bit}
use Rattle.paper.proofs.Lit.{found_own}

module _ (family : Family) (codes : List ℕ) (id word : ℕ) (plane : List ℕ) (frame : Frame) (print : Print) (quad : Quad) (shown : List ℕ)
    (h : Painted family codes id word plane frame print quad shown) (e : ℕ) (small : UnderHalfCell e family print) (found : Quad) (near : Near e found quad) where
  tag : Took plane frame family.edge family.border word print quad shown
  tag = took plane frame family.edge family.border word print quad shown h.painted

  Near-own : Near e found (print_quad family.edge family.border print)
  Near-own = subst (Near e found) tag.quad_is near

  shades : (k : ℕ) → k < samples family → get_or (levels_of shown frame family (axes_of found)) k 0 ≡ shade_of_bit print.light print.dark (bit word (samples family - 1 - k))
  unfolding levels_of
  shades k l =
      get_or-tabulate (samples family) (λ j. level_at shown frame (column (axes_of found) family j) (row (axes_of found) family j)) k 0 l
      ∙ ap (λ (p : List ℕ). level_at p frame (column (axes_of found) family k) (row (axes_of found) family k)) tag.shown_is
      ∙ Near-level (length plane) frame family word print tag.prints e small plane refl found Near-own k l

  passed : bad_corners found ≡ false → corners_outside frame.width frame.height found ≡ false → Taken frame family found
  passed a b = record { small = a; within = b; sampled = Near-sampled (length plane) frame family word print tag.prints e small found Near-own }

pub off_corners : OffCorners
off_corners = record {
  stays = stays;
  reads = λ family codes id word plane frame print quad shown h e small found near a b.
      found_own family codes id word plane frame print quad shown h found
      (passed family codes id word plane frame print quad shown h e small found near a b) (shades family codes id word plane frame print quad shown h e small found near);
}
