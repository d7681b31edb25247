-- When a painting is accepted, and that a family's painting is the one with its edge and border. Assumes nothing.
use mathlib.Core.Path.{◌≡◌, refl, sym, ap, ap₂, ◌∙◌}
use mathlib.Core.Bool.{Bool, true, false, ◌||◌, cond}
use mathlib.Core.List.{List}
use Prim.Native.Nat.{ℕ}
use native.Mathlib.Omega.{arith}
use lib.ListN.{length}
use Rattle.std.proofs.lemmas.Bool.{or_parts}
use Rattle.refusals.specs.Outcome.{accepted}
use Rattle.refusals.specs.Pixels.{bad_frame}
use Rattle.refusals.specs.declared.Frame.{Frame}
use Rattle.points.specs.declared.Quad.{Quad}
use Rattle.tables.specs.Table.{bad_edge, bad_border}
use Rattle.tag_families.specs.Families.{is_family, family_of}
use Rattle.painter.specs.Picture.{filled}
use Rattle.painter.specs.Tag.{drawn, painted}
use Rattle.painter.specs.Corners.{print_quad}
use Rattle.painter.specs.Printable.{bad_print, Printable}
use Rattle.painter.specs.declared.Print.{Print}
use Rattle.painter.proofs.Painted.{drawn-filled}
use Rattle.muosleap_paint.specs.PaintTag.{Painting, unpainted, paint_tag, paint_tag_in}

-- the outcome by the three tests
abbrev by_tests : List ℕ → Painting → (one six fourteen : Bool) → Painting
by_tests plane done one six fourteen = cond one (unpainted plane 1) (cond six (unpainted plane 6) (cond fourteen (unpainted plane 14) done))

-- what refuses no painting
none_refuses : (plane : List ℕ) (done : Painting) (one six fourteen : Bool) (quad : Quad) → (by_tests plane done one six fourteen).answer ≡ accepted quad
    → (one ≡ false) × (six ≡ false) × (fourteen ≡ false)
none_refuses plane done true six fourteen quad e = let z : ◌≡◌ {A = ℕ} 0 1 = cc in absurd (omega arith)
none_refuses plane done false true fourteen quad e = let z : ◌≡◌ {A = ℕ} 0 1 = cc in absurd (omega arith)
none_refuses plane done false false true quad e = let z : ◌≡◌ {A = ℕ} 0 1 = cc in absurd (omega arith)
none_refuses plane done false false false quad e = (refl, refl, refl)

module _ (plane : List ℕ) (frame : Frame) (edge border word : ℕ) (print : Print) where
  done : Painting
  done = record { answer = accepted (print_quad edge border print); plane = painted frame edge border word print plane }

  is_by_tests : paint_tag plane frame edge border word print
      ≡ by_tests plane done (bad_frame (length plane) frame) (bad_edge edge || bad_border border) (bad_print frame edge border word print)
  unfolding paint_tag done
  is_by_tests = refl

  -- a painting that nothing refuses
  pub paint_done : Printable (length plane) frame edge border word print
      → paint_tag plane frame edge border word print ≡ record { answer = accepted (print_quad edge border print); plane = painted frame edge border word print plane }
  unfolding done
  paint_done p =
      is_by_tests
      ∙ ap (λ (b : Bool). by_tests plane done b (bad_edge edge || bad_border border) (bad_print frame edge border word print)) p.planes
      ∙ ap₂ (λ (a b : Bool). by_tests plane done false (a || b) (bad_print frame edge border word print)) p.edges p.borders
      ∙ ap (λ (b : Bool). by_tests plane done false false b) p.prints

  -- the plane is filled, the tag is drawn, and the quad is the print's
  pub paint_steps : (light out : List ℕ) (quad : Quad) → Printable (length plane) frame edge border word print → light ≡ filled frame print.light plane
      → out ≡ drawn frame edge border word print light → quad ≡ print_quad edge border print
      → ◌≡◌ {A = Painting} (record { answer = accepted quad; plane = out }) (paint_tag plane frame edge border word print)
  paint_steps light out quad p f d q =
      ap₂ (λ (x : Quad) (l : List ℕ). record { answer = accepted x; plane = l }) q
      (d ∙ ap (drawn frame edge border word print) f ∙ drawn-filled frame edge border word print plane)
      ∙ sym (paint_done p)

  -- nothing refuses an accepted painting
  pub paint_accepted : (quad : Quad) → (paint_tag plane frame edge border word print).answer ≡ accepted quad → Printable (length plane) frame edge border word print
  paint_accepted quad e =
      let one = bad_frame (length plane) frame in
      let fourteen = bad_print frame edge border word print in
      let t = none_refuses plane done one (bad_edge edge || bad_border border) fourteen quad (ap (λ (o : Painting). o.answer) (sym is_by_tests) ∙ e) in
      record {
        planes = t.0;
        edges = (or_parts (bad_edge edge) (bad_border border) t.1).0;
        borders = (or_parts (bad_edge edge) (bad_border border) t.1).1;
        prints = t.2;
      }

-- the painting of a family is the painting with its edge and border, for all inputs
pub paint_in : (plane : List ℕ) (frame : Frame) (family word : ℕ) (print : Print) → is_family family ≡ true
    → paint_tag_in plane frame family word print ≡ paint_tag plane frame (family_of family).edge (family_of family).border word print
unfolding paint_tag paint_tag_in
paint_in plane frame family word print e = go (bad_frame (length plane) frame) refl
  where
    go : (t : Bool) → bad_frame (length plane) frame ≡ t → paint_tag_in plane frame family word print ≡ paint_tag plane frame (family_of family).edge (family_of family).border word print
    go true f = simp f
    go false f = simp (f, e)
