-- Ticket 8 of 02 of the definitions, carried to answers that equal them. Assumes nothing.
use mathlib.Core.Path.{◌≡◌, refl, sym, ap, ap₂, ◌∙◌, subst}
use mathlib.Core.Bool.{Bool, true, false, not}
use mathlib.Core.List.{List}
use Prim.Native.Nat.{ℕ, ◌<◌}
use borrow.Author.Tests.{not-true}
use lib.Ieee.{Float}
use lib.ListN.{length}
use Rattle.std.specs.Cmp.{first_so, second_so}
use Rattle.refusals.specs.Outcome.{Outcome, accepted, Done}
use Rattle.refusals.specs.Pixels.{bad_frame, at_pitch}
use Rattle.refusals.specs.declared.Frame.{Frame}
use Rattle.points.specs.declared.Quad.{Quad}
use Rattle.points.specs.Numbers.{quad_at}
use Rattle.tables.specs.declared.Family.{Family}
use Rattle.painter.specs.Corners.{print_quad}
use Rattle.painter.specs.Printable.{Printable}
use Rattle.painter.specs.declared.Print.{Print}
use Rattle.painter.proofs.Painted.{length-painted}
use Rattle.painter.proofs.Printable.{Good-print}
use Rattle.grid.specs.Quads.{tag_count}
use Rattle.grid.specs.declared.Grid.{Grid}
use Rattle.reader.specs.Reading.{Tag}
use Rattle.muosleap_paint.specs.PaintTag.{Painting, paint_tag}
use Rattle.muosleap_paint.specs.PaintSheet.{SheetPainting, painting_of, paint_sheet}
use Rattle.muosleap_paint.proofs.PaintTag.{paint_done, paint_accepted}
use Rattle.paper.specs.Sheet.{SheetPainted}
use Rattle.paper.specs.Light.{is_lit, Lit}
use Rattle.paper.proofs.Corners.{print_small}
use Rattle.paper.proofs.Stays.{print_sampled}
use Rattle.paper.proofs.Sheet.{tag, word, prints, written_is, good_shown}
use Rattle.paper.proofs.Light.{light}
use Rattle.lit_reading.specs.Said.{lit_picture, lit_print, read_picture, LitThenRead, lit_sheet, read_sheet_picture, SheetLitThenRead}
use Rattle.lit_reading.specs.Sampleable.{Sampleable}

-- a picture that was found to be lit
Lit-is : (shown : List ℕ) (frame : Frame) (shade : ℕ) (family : Family) (quad : Quad) (picture : List ℕ) (pitch : ℕ)
    → lit_picture shown frame shade family quad picture pitch ≡ true → Lit shown frame shade family quad picture (at_pitch frame pitch)
Lit-is shown frame shade family quad picture pitch e =
    let bad = bad_frame (length picture) (at_pitch frame pitch) in
    let lit = is_lit shown frame shade family quad picture (at_pitch frame pitch) in
    record { wide = refl; high = refl; planes = not-true bad (first_so (not bad) lit e); samples = second_so (not bad) lit e }

-- the painter's quad can be sampled on a plane that refusal 1 lets through
print_sampleable : (len : ℕ) (frame : Frame) (family : Family) (w : ℕ) (print : Print) (shown : List ℕ) → Printable len frame family.edge family.border w print
    → bad_frame (length shown) frame ≡ false → Sampleable shown frame family (print_quad family.edge family.border print)
print_sampleable len frame family w print shown p f =
    let g = Good-print p in
    record {
      readable = record { framed = f; edge_pos = g.edges.least; edge_le = g.edges.most; border_le = g.borders.most };
      small = print_small len frame family.edge family.border w print p;
      inside = print_sampled len frame family w print p;
    }

-- ---- a tag

-- the quad of an accepted painting, on the plane that it left
pub tag_sampleable : (plane : List ℕ) (frame : Frame) (family : Family) (w : ℕ) (print : Print) (quad : Quad) (left : List ℕ)
    → ◌≡◌ {A = Painting} (record { answer = accepted quad; plane = left }) (paint_tag plane frame family.edge family.border w print) → Sampleable left frame family quad
tag_sampleable plane frame family w print quad left e =
    let p = paint_accepted plane frame family.edge family.border w print quad (sym (ap (λ (x : Painting). x.answer) e)) in
    let both = e ∙ paint_done plane frame family.edge family.border w print p in
    let quads : accepted quad ≡ accepted (print_quad family.edge family.border print) = ap (λ (x : Painting). x.answer) both in
    let same : quad ≡ print_quad family.edge family.border print = cc in
    let size = ap (λ (x : Painting). length x.plane) both ∙ length-painted frame family.edge family.border w print plane in
    subst (Sampleable left frame family) (sym same)
    (print_sampleable (length plane) frame family w print left p (ap (λ (n : ℕ). bad_frame n frame) size ∙ p.planes))

-- a painting that answers and leaves what `paint_tag` says, and what was worked out and read in a picture
pub lit_then_read : (plane : List ℕ) (frame : Frame) (family : Family) (codes : List ℕ) (w : ℕ) (print : Print) (picture : List ℕ) (pitch s : ℕ)
    (painting : Outcome Quad) (left : List ℕ) (lit : Bool) (answer : Outcome Tag)
    → ◌≡◌ {A = Painting} (record { answer = painting; plane = left }) (paint_tag plane frame family.edge family.border w print)
    → lit ≡ lit_print frame family print picture pitch left painting → answer ≡ read_picture frame family codes picture pitch s painting
    → LitThenRead plane frame family codes w print picture pitch s lit answer left
lit_then_read plane frame family codes w print picture pitch s painting left lit answer e l r =
    record {
      shown = ap (λ (x : Painting). x.plane) e;
      worked_out = l ∙ ap (lit_print frame family print picture pitch left) (ap (λ (x : Painting). x.answer) e);
      read = r ∙ ap (read_picture frame family codes picture pitch s) (ap (λ (x : Painting). x.answer) e);
      own = λ id quad painted h start found.
          let both : ◌≡◌ {A = Painting} (record { answer = painting; plane = left }) (record { answer = accepted quad; plane = painted }) = e ∙ h.painted in
          let same : left ≡ painted = ap (λ (x : Painting). x.plane) both in
          let took : painting ≡ accepted quad = ap (λ (x : Painting). x.answer) both in
          let yes : lit_picture painted frame print.light family quad picture pitch ≡ true =
          sym (l ∙ ap₂ (λ (p : List ℕ) (o : Outcome Quad). lit_print frame family print picture pitch p o) same took) ∙ found in
          let law = light.tags family codes id w plane frame print quad painted h picture (at_pitch frame pitch) (Lit-is painted frame print.light family quad picture pitch yes) s start in
          (r ∙ ap (read_picture frame family codes picture pitch s) took ∙ law.alone, law);
    }

-- ---- a sheet

module _ (plane : List ℕ) (frame : Frame) (family : Family) (codes : List ℕ) (grid : Grid) (print : Print) (quads : List Float) (position : ℕ) (known : position < tag_count grid)
    (left : List ℕ) (written : List Float) where
  -- the quad at a position of an accepted sheet, on the plane that was left
  pub position_sampleable : SheetPainted family codes grid print plane frame quads left written → Sampleable left frame family (quad_at written position)
  position_sampleable took =
      subst (Sampleable left frame family) (sym (written_is family codes grid print plane frame quads left written took position known))
      (print_sampleable (length plane) frame family (word family codes grid print plane frame quads left written took position known)
      (tag family codes grid print plane frame quads left written took position known) left
      (prints family codes grid print plane frame quads left written took position known) (good_shown family codes grid print plane frame quads left written took position known))

  pub sheet_lit_then_read : (picture : List ℕ) (pitch s : ℕ) (painting : Outcome Done) (lit : Bool) (answer : Outcome Tag)
      → painting_of painting left written ≡ paint_sheet plane frame family codes grid print quads
      → lit ≡ lit_sheet frame family print position picture pitch left written painting → answer ≡ read_sheet_picture frame family codes position picture pitch s written painting
      → SheetLitThenRead plane frame family codes grid print quads position picture pitch s lit answer left written
  sheet_lit_then_read picture pitch s painting lit answer e l r =
      record {
        shown = ap (λ (x : SheetPainting). x.plane) e;
        quads_written = ap (λ (x : SheetPainting). x.quads) e;
        worked_out = l ∙ ap (lit_sheet frame family print position picture pitch left written) (ap (λ (x : SheetPainting). x.answer) e);
        read = r ∙ ap (read_sheet_picture frame family codes position picture pitch s written) (ap (λ (x : SheetPainting). x.answer) e);
        own = λ took passes start found.
            let done : painting ≡ accepted (record {}) = ap (λ (x : SheetPainting). x.answer) e ∙ took in
            let painted = sym e ∙ ap (λ (o : Outcome Done). painting_of o left written) done in
            let yes : lit_picture left frame print.light family (quad_at written position) picture pitch ≡ true =
            sym (l ∙ ap (lit_sheet frame family print position picture pitch left written) done) ∙ found in
            let law = light.sheet_tags family codes grid print plane frame quads left written painted passes position known picture (at_pitch frame pitch)
            (Lit-is left frame print.light family (quad_at written position) picture pitch yes) s start in
            (r ∙ ap (read_sheet_picture frame family codes position picture pitch s written) done ∙ law.0.alone ∙ ap accepted law.1, law.0);
      }
