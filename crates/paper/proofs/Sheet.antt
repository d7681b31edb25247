-- Ticket 3 of document 02: each tag of a sheet reads as the single painted tag does, since the sheet shows the same in its square. From ticket 8's law
-- of single tags: the sheet is a picture in which each of them is lit. Assumes nothing.
use mathlib.Core.Path.{◌≡◌, refl, sym, ap, ap₂, ◌∙◌, subst}
use mathlib.Core.Bool.{true, false}
use mathlib.Core.List.{List}
use Prim.Native.Nat.{ℕ, ◌<◌}
use native.Mathlib.Omega.{arith}
use borrow.Author.Tests.{lt-ltb, ltb-true}
use lib.Dec.{ltb}
use lib.Ieee.{Float}
use lib.ListN.{length, get_or}
use Rattle.std.specs.Cmp.{first_so, second_so}
use Rattle.refusals.specs.Outcome.{accepted}
use Rattle.refusals.specs.Pixels.{bad_frame, level_at}
use Rattle.refusals.specs.declared.Frame.{Frame}
use Rattle.refusals.proofs.Pixels.{good_frame}
use Rattle.points.specs.declared.Quad.{Quad}
use Rattle.points.specs.Turned.{turned_left}
use Rattle.points.specs.Numbers.{quad_at}
use Rattle.tables.specs.declared.Family.{Family}
use Rattle.tables.proofs.Table.{good_table}
use Rattle.word.proofs.Differing.{differing_same}
use Rattle.places.specs.Place.{axes_of}
use Rattle.levels.specs.Levels.{middle_of}
use Rattle.painter.specs.Corners.{print_quad}
use Rattle.painter.specs.Picture.{in_block}
use Rattle.painter.specs.Printable.{Printable}
use Rattle.painter.specs.Tag.{painted_pixel, painted}
use Rattle.painter.specs.declared.Print.{Print}
use Rattle.painter.proofs.Picture.{length-repainted, pixel_repainted}
use Rattle.grid.specs.Sheet.{tag_size, sheet_pixel, sheet}
use Rattle.grid.specs.Quads.{tag_count, position_print}
use Rattle.grid.specs.Sheetable.{Sheetable}
use Rattle.grid.specs.declared.Grid.{Grid}
use Rattle.grid.proofs.Quads.{quad_is}
use Rattle.grid.proofs.Sheetable.{code_known, tag_printable}
use Rattle.grid.proofs.Tags.{own_pixel}
use Rattle.reader.specs.Reading.{column, row, levels_of}
use Rattle.reader.proofs.Depends.{Agree, levels_depend}
use Rattle.muosleap.specs.Quad.{decode_quad}
use Rattle.muosleap_paint.specs.PaintTag.{Painting}
use Rattle.muosleap_paint.specs.PaintSheet.{SheetPainting}
use Rattle.muosleap_paint.proofs.PaintTag.{paint_done}
use Rattle.muosleap_paint.proofs.PaintSheet.{sheet-done, sheet_accepted, sheet_in}
use Rattle.paper.specs.Demand3.{Passes, Painted, print_order, own_turn, own_tag, ReadsOwn}
use Rattle.paper.specs.Light.{lit_levels, is_lit, Lit}
use Rattle.paper.specs.Sheet.{SheetPainted, single, Shows, Reads, Sheets}
use Rattle.paper.proofs.Stays.{print_square, print_sampled}
use Rattle.paper.proofs.Given.{checked}
use Rattle.paper.proofs.Lit.{shown_lit, Lit-own}

-- the tag of a position, whose code itself is painted: no module is misprinted
pub clean_tag : (codes : List ℕ) (position : ℕ) (quad : Quad) (s : ℕ)
    → own_tag codes position (get_or codes position 0) quad s ≡ record { id = position; turn = own_turn s; differing = 0; corners = print_order quad }
clean_tag codes position quad s =
    ap (λ (d : ℕ). record { id = position; turn = own_turn s; differing = d; corners = print_order quad }) (differing_same 64 (get_or codes position 0))

module _ (family : Family) (codes : List ℕ) (grid : Grid) (print : Print) (plane : List ℕ) (frame : Frame) (quads : List Float) (shown : List ℕ) (written : List Float)
    (took : SheetPainted family codes grid print plane frame quads shown written) (position : ℕ) (known : position < tag_count grid) where
  abbrev pub tag : Print
  tag = position_print family grid print position

  abbrev pub word : ℕ
  word = get_or codes position 0

  abbrev quad : Quad
  quad = print_quad family.edge family.border tag

  abbrev alone : List ℕ
  alone = painted frame family.edge family.border word tag plane

  -- ---- what the entry's answer says

  sheets : Sheetable (length plane) frame family codes grid print (length quads)
  sheets = sheet_accepted plane frame family codes grid print quads (ap (λ (o : SheetPainting). o.answer) took)

  pub prints : Printable (length plane) frame family.edge family.border word tag
  prints = tag_printable sheets position known

  shown_is : shown ≡ sheet frame family codes grid print plane
  shown_is = ap (λ (o : SheetPainting). o.plane) (sym took ∙ sheet-done plane frame family codes grid print quads sheets)

  pub written_is : quad_at written position ≡ quad
  written_is =
      ap (λ (o : SheetPainting). quad_at o.quads position) (sym took ∙ sheet-done plane frame family codes grid print quads sheets)
      ∙ quad_is family grid print quads position known

  painted-alone : single family codes grid print plane frame position ≡ record { answer = accepted quad; plane = alone }
  painted-alone = paint_done plane frame family.edge family.border word tag prints

  -- ---- in its own square

  square : (x y : ℕ) → x < frame.width → y < frame.height → in_block tag.x tag.y (tag_size family print) (tag_size family print) x y ≡ true
      → level_at shown frame x y ≡ level_at alone frame x y
  square x y hx hy e =
      let framed = good_frame sheets.planes in
      ap (λ (p : List ℕ). level_at p frame x y) shown_is
      ∙ pixel_repainted frame (λ x y old. sheet_pixel family codes grid print x y print.light) plane x y 0 framed hx hy
      ∙ own_pixel family codes grid print position x y print.light print.light known e
      ∙ sym (pixel_repainted frame (λ x y old. painted_pixel family.edge family.border word tag x y) plane x y 0 framed hx hy)

  tag_shows : Shows family codes grid print plane frame shown written position
  tag_shows = record {
    quad = ap (λ (p : Painting). p.answer) painted-alone ∙ ap accepted (sym written_is);
    square = λ x y hx hy e. square x y hx hy e ∙ ap (λ (p : Painting). level_at p.plane frame x y) (sym painted-alone);
  }

  -- ---- its samples lie there, so it shows the same at them

  agree : Agree shown alone frame frame.pitch family (axes_of quad)
  agree k l inside =
      let x = column (axes_of quad) family k in
      let y = row (axes_of quad) family k in
      let wide = ltb x frame.width in
      let high = ltb y frame.height in
      square x y (ltb-true x frame.width (first_so wide high inside)) (ltb-true y frame.height (second_so wide high inside))
      (print_square (length plane) frame family word tag prints k l)

  same_levels : levels_of shown frame family (axes_of quad) ≡ levels_of alone frame family (axes_of quad)
  same_levels = levels_depend shown alone frame frame.pitch family (axes_of quad) agree (print_sampled (length plane) frame family word tag prints)

  pub good_shown : bad_frame (length shown) frame ≡ false
  good_shown =
      ap (λ (n : ℕ). bad_frame n frame) (ap length shown_is ∙ length-repainted frame (λ x y old. sheet_pixel family codes grid print x y print.light) plane) ∙ sheets.planes

  module _ (passes : Passes family codes) where
    -- the code itself is painted: nothing is misprinted
    clean : Painted family codes position word plane frame tag quad alone
    clean =
        let t = good_table family codes (checked family codes passes).table in
        record { passes = passes; known = code_known sheets position known; misprinted = omega (arith, differing_same 64 word, t.coded.near.least); painted = painted-alone }

    -- so a picture in which the sheet's tag is lit is one in which the single tag is, and reads as its own
    lit_alone : (picture : List ℕ) (seen : Frame) → is_lit shown frame print.light family quad picture seen ≡ is_lit alone frame print.light family quad picture seen
    unfolding is_lit
    lit_alone picture seen =
        let levels = levels_of picture seen family (axes_of quad) in
        ap (λ (p : List ℕ). lit_levels (middle_of levels) print.light p levels) same_levels

    quad_lit : (picture : List ℕ) (seen : Frame) → Lit shown frame print.light family quad picture seen → (s : ℕ) → s < 4 → ReadsOwn family codes position word seen quad picture s
    quad_lit picture seen l =
        Lit-own family codes position word plane frame tag quad alone clean picture seen
        (record { wide = l.wide; high = l.high; planes = l.planes; samples = sym (lit_alone picture seen) ∙ l.samples })

    -- the sheet itself is such a picture
    quad_lit_shown : Lit shown frame print.light family quad shown frame
    unfolding is_lit
    quad_lit_shown = record {
      wide = refl;
      high = refl;
      planes = good_shown;
      samples = ap₂ (λ (p l : List ℕ). lit_levels (middle_of l) print.light p l) same_levels same_levels ∙ (shown_lit family codes position word plane frame tag quad alone clean).samples;
    }

    -- ---- the same of the quad that the sheet's painter wrote

    pub tag_lit : (picture : List ℕ) (seen : Frame) → Lit shown frame print.light family (quad_at written position) picture seen → (s : ℕ) → s < 4
        → ReadsOwn family codes position (get_or codes position 0) seen (quad_at written position) picture s
    tag_lit picture seen l s start =
        subst (λ (q : Quad). ReadsOwn family codes position word seen q picture s) (sym written_is)
        (quad_lit picture seen (subst (λ (q : Quad). Lit shown frame print.light family q picture seen) written_is l) s start)

    pub sheet_lit : Lit shown frame print.light family (quad_at written position) shown frame
    sheet_lit = subst (λ (q : Quad). Lit shown frame print.light family q shown frame) (sym written_is) quad_lit_shown

    module _ (s : ℕ) (start : s < 4) where
      Reads-quad : Reads family codes grid print plane frame quad shown position s
      Reads-quad =
          let own = quad_lit shown frame quad_lit_shown s start in
          let by_itself = Lit-own family codes position word plane frame tag quad alone clean alone frame (shown_lit family codes position word plane frame tag quad alone clean) s start in
          record {
            as_single = own.alone ∙ sym by_itself.alone ∙ ap (λ (p : Painting). decode_quad p.plane frame family codes (turned_left s quad)) (sym painted-alone);
            own = own;
            tag = clean_tag codes position quad s;
          }

      tag_reads : Reads family codes grid print plane frame (quad_at written position) shown position s
      tag_reads = subst (λ (q : Quad). Reads family codes grid print plane frame q shown position s) (sym written_is) Reads-quad

pub Sheets-read : Sheets
Sheets-read = record {
  shows = λ family codes grid print plane frame quads shown written took position known. tag_shows family codes grid print plane frame quads shown written took position known;
  reads = λ family codes grid print plane frame quads shown written took passes position known s start.
      tag_reads family codes grid print plane frame quads shown written took position known passes s start;
  by_number = λ number known plane frame grid print quads. sheet_in plane frame number grid print quads (lt-ltb number 5 known);
}
