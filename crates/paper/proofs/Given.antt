-- What the hypotheses of demand 3 say: a table that passes the likeness check, and a tag that the painter takes. Assumes nothing.
use mathlib.Core.Path.{◌≡◌, refl, sym, ap, ◌∙◌}
use mathlib.Core.Bool.{Bool, true, false, cond}
use mathlib.Core.List.{List}
use Prim.Native.Nat.{ℕ}
use native.Mathlib.Omega.{arith}
use lib.ListN.{length}
use Rattle.refusals.specs.Outcome.{Outcome, accepted, refused, Done}
use Rattle.refusals.specs.declared.Frame.{Frame}
use Rattle.points.specs.declared.Quad.{Quad}
use Rattle.tables.specs.Table.{bad_table}
use Rattle.tables.specs.declared.Family.{Family}
use Rattle.likeness.specs.Likeness.{likeness}
use Rattle.painter.specs.Corners.{print_quad}
use Rattle.painter.specs.Printable.{Printable}
use Rattle.painter.specs.Tag.{painted}
use Rattle.painter.specs.declared.Print.{Print}
use Rattle.muosleap.specs.Likeness.{check_likeness}
use Rattle.muosleap_paint.specs.PaintTag.{Painting, paint_tag}
use Rattle.muosleap_paint.proofs.PaintTag.{paint_done, paint_accepted}
use Rattle.paper.specs.Demand3.{Passes}

-- a table that the likeness check's entry lets through
pub record Checked (family : Family) (codes : List ℕ) : Type 0 where
  pub table : bad_table family codes ≡ false
  pub passes : likeness family.edge family.hamming_distance codes ≡ true

pub checked : (family : Family) (codes : List ℕ) → Passes family codes → Checked family codes
unfolding check_likeness
checked family codes = go (bad_table family codes) (likeness family.edge family.hamming_distance codes) refl refl
  where
    done : Outcome Done
    done = accepted (record {})

    go : (b l : Bool) → bad_table family codes ≡ b → likeness family.edge family.hamming_distance codes ≡ l
        → cond b (refused 6) (cond l done (refused 7)) ≡ done → Checked family codes
    go true l p q e = let z : ◌≡◌ {A = ℕ} 0 1 = cc in absurd (omega arith)
    go false true p q e = record { table = p; passes = q }
    go false false p q e = let z : ◌≡◌ {A = ℕ} 0 1 = cc in absurd (omega arith)

-- a painting that the painter's entry takes
pub record Took (plane : List ℕ) (frame : Frame) (edge border word : ℕ) (print : Print) (quad : Quad) (shown : List ℕ) : Type 0 where
  pub prints : Printable (length plane) frame edge border word print
  pub quad_is : quad ≡ print_quad edge border print
  pub shown_is : shown ≡ painted frame edge border word print plane

pub took : (plane : List ℕ) (frame : Frame) (edge border word : ℕ) (print : Print) (quad : Quad) (shown : List ℕ)
    → paint_tag plane frame edge border word print ≡ record { answer = accepted quad; plane = shown } → Took plane frame edge border word print quad shown
took plane frame edge border word print quad shown e =
    let prints = paint_accepted plane frame edge border word print quad (ap (λ (x : Painting). x.answer) e) in
    let both = sym e ∙ paint_done plane frame edge border word print prints in
    let quads : accepted quad ≡ accepted (print_quad edge border print) = ap (λ (x : Painting). x.answer) both in
    record { prints = prints; quad_is = cc; shown_is = ap (λ (x : Painting). x.plane) both }
