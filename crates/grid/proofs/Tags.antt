-- The loop that draws one tag after another, in the order of positions. Assumes nothing.
use mathlib.Core.Path.{◌≡◌, refl, sym, ap, ap₂, ◌∙◌}
use mathlib.Core.Bool.{Bool, true, false, ◌&&◌, ◌||◌, cond, and-or_distrib_left, and-false}
use mathlib.Core.List.{List}
use Prim.Native.Nat.{ℕ, ◌+◌, ◌*◌, ◌<◌}
use native.Mathlib.Omega.{arith}
use borrow.Author.Tests.{lt-ltb, le-ltb, ltb-true, ltb-false, eq-eqb, eqb-true, eqb-false}
use lib.Dec.{ltb, eqb}
use lib.ListN.{get_or}
use Rattle.std.specs.Cmp.{both_ways, first_so, second_so}
use Rattle.lists.proofs.Bools.{overlay}
use Rattle.refusals.specs.declared.Frame.{Frame}
use Rattle.tables.specs.declared.Family.{Family}
use Rattle.painter.specs.Picture.{in_block, repainted, filled}
use Rattle.painter.specs.Tag.{cell_of, shade_of, tag_pixel, drawn}
use Rattle.painter.specs.declared.Print.{Print}
use Rattle.painter.proofs.Block.{In, is_in, block_in}
use Rattle.painter.proofs.Picture.{repainted_none, repainted_twice}
use Rattle.grid.specs.Sheet.{tag_size, step_of, position_at, in_tag, pixel_column, pixel_row, in_grid, shade_at, sheet_pixel, sheet}
use Rattle.grid.specs.Quads.{tag_count, position_row, position_column, position_print}
use Rattle.grid.specs.declared.Grid.{Grid}
use Rattle.grid.proofs.Line.{InTag, is_in_tag, tag_found, in_tag_lem}
use Rattle.grid.proofs.Place.{position_row_lem, position_column_lem, position_lt, row_lt, column_lt, position_back}
use Rattle.grid.proofs.Sheetable.{tags_apart}

-- q is below p, or it is p
below_next : (q p : ℕ) → ltb q p || eqb q p ≡ ltb q (p + 1)
below_next q p = go (ltb q p) refl (eqb q p) refl
  where
    go : (t : Bool) → ltb q p ≡ t → (u : Bool) → eqb q p ≡ u → t || u ≡ ltb q (p + 1)
    go true e u f = let l = ltb-true q p e in sym (lt-ltb q (p + 1) (omega arith))
    go false e true f = let l = eqb-true q p f in sym (lt-ltb q (p + 1) (omega arith))
    go false e false f =
        let l = ltb-false q p e in
        let ne = eqb-false q p f in
        sym (le-ltb q (p + 1) (omega arith))

module _ (family : Family) (codes : List ℕ) (grid : Grid) (print : Print) where
  abbrev step : ℕ
  step = step_of family grid print

  abbrev size : ℕ
  size = tag_size family print

  -- the position of the tag that pixel (x, y) lies in
  abbrev pub position_of : ℕ → ℕ → ℕ
  position_of x y = position_at grid (pixel_row family grid print y) (pixel_column family grid print x)

  -- ---- a pixel of a tag

  module _ (x y : ℕ) where
    -- the row and the column that the test finds
    pub record Found : Type 0 where
      pub columns : InTag print.x step size grid.columns (pixel_column family grid print x) x
      pub rows : InTag print.y step size grid.rows (pixel_row family grid print y) y

    pub found : in_grid family grid print x y ≡ true → Found
    found e =
        let a = in_tag print.x step size grid.columns x in
        let b = in_tag print.y step size grid.rows y in
        record {
          columns = is_in_tag print.x step size grid.columns x (first_so a b e);
          rows = is_in_tag print.y step size grid.rows y (second_so a b e);
        }

    module _ (position : ℕ) (h : position < tag_count grid) where
      abbrev tag : Print
      tag = position_print family grid print position

      -- the tag's square is where the test finds its row and its column
      pub record Square : Type 0 where
        pub column_is : pixel_column family grid print x ≡ position_column grid position
        pub row_is : pixel_row family grid print y ≡ position_row grid position
        pub lies_in_grid : in_grid family grid print x y ≡ true

      pub In-square : In tag.x tag.y size size x y → Square
      In-square i =
          let apart = tags_apart family grid print in
          let c : InTag print.x step size grid.columns (position_column grid position) x = record { among = column_lt grid position h; within = i.across } in
          let r : InTag print.y step size grid.rows (position_row grid position) y = record { among = row_lt grid position h; within = i.down } in
          record {
            column_is = tag_found print.x step size grid.columns x (position_column grid position) apart c;
            row_is = tag_found print.y step size grid.rows y (position_row grid position) apart r;
            lies_in_grid = ap₂ ◌&&◌ (in_tag_lem print.x step size grid.columns x (position_column grid position) apart c) (in_tag_lem print.y step size grid.rows y (position_row grid position) apart r);
          }

      of_square : in_block tag.x tag.y size size x y ≡ true → in_grid family grid print x y && eqb (position_of x y) position ≡ true
      of_square e =
          let s = In-square (is_in tag.x tag.y size size x y e) in
          ap₂ ◌&&◌ s.lies_in_grid (eq-eqb (position_of x y) position (ap₂ (position_at grid) s.row_is s.column_is ∙ position_back grid position h))

      to_square : in_grid family grid print x y && eqb (position_of x y) position ≡ true → in_block tag.x tag.y size size x y ≡ true
      to_square e =
          let g = in_grid family grid print x y in
          let q = eqb (position_of x y) position in
          let f = found (first_so g q e) in
          let r = pixel_row family grid print y in
          let c = pixel_column family grid print x in
          let is = eqb-true (position_of x y) position (second_so g q e) in
          let row : r ≡ position_row grid position = sym (position_row_lem grid r c f.rows.among f.columns.among) ∙ ap (position_row grid) is in
          let column : c ≡ position_column grid position = sym (position_column_lem grid r c f.rows.among f.columns.among) ∙ ap (position_column grid) is in
          (λ j. in_block (print.x + sym column j * step) (print.y + sym row j * step) size size x y)
          ∙ block_in (print.x + c * step) (print.y + r * step) size size x y f.columns.within.from f.columns.within.to f.rows.within.from f.rows.within.to

      pub square_is : in_block tag.x tag.y size size x y ≡ in_grid family grid print x y && eqb (position_of x y) position
      square_is = both_ways (in_block tag.x tag.y size size x y) (in_grid family grid print x y && eqb (position_of x y) position) of_square to_square

  -- ---- one tag after another

  -- pixel (x, y)'s shade, where it lies in a tag
  abbrev shade : ℕ → ℕ → ℕ
  shade x y = shade_at family codes grid print (pixel_row family grid print y) (pixel_column family grid print x) x y

  -- pixel (x, y), which was `old`, after the tags before a position are drawn
  abbrev pub first_tags : (position x y old : ℕ) → ℕ
  first_tags position x y old = cond (in_grid family grid print x y && ltb (position_of x y) position) (shade x y) old

  -- in its own square a tag has the sheet's shades
  pub own_shade : (position x y : ℕ) → position < tag_count grid → let tag = position_print family grid print position in
      in_block tag.x tag.y size size x y ≡ true → shade_of family.edge family.border (get_or codes position 0) tag (cell_of tag x y) ≡ shade x y
  own_shade position x y h e =
      let tag = position_print family grid print position in
      let s = In-square x y position h (is_in tag.x tag.y size size x y e) in
      ap (λ (n : ℕ). shade_of family.edge family.border (get_or codes n 0) print (cell_of tag x y)) (sym (position_back grid position h))
      ∙ (λ j. shade_at family codes grid print (sym s.row_is j) (sym s.column_is j) x y)

  -- so in its own square a tag shows what the sheet does, whatever lay there
  pub own_pixel : (position x y old old' : ℕ) → position < tag_count grid → let tag = position_print family grid print position in
      in_block tag.x tag.y size size x y ≡ true
      → sheet_pixel family codes grid print x y old ≡ tag_pixel family.edge family.border (get_or codes position 0) tag x y old'
  own_pixel position x y old old' h e =
      let tag = position_print family grid print position in
      let s = In-square x y position h (is_in tag.x tag.y size size x y e) in
      ap (λ (t : Bool). cond t (shade x y) old) s.lies_in_grid
      ∙ sym (own_shade position x y h e)
      ∙ sym (ap (λ (t : Bool). cond t (shade_of family.edge family.border (get_or codes position 0) tag (cell_of tag x y)) old') e)

  -- one tag more is drawn
  one_more : (position x y old : ℕ) → position < tag_count grid
      → tag_pixel family.edge family.border (get_or codes position 0) (position_print family grid print position) x y (first_tags position x y old) ≡ first_tags (position + 1) x y old
  one_more position x y old h =
      let tag = position_print family grid print position in
      let own = shade_of family.edge family.border (get_or codes position 0) tag (cell_of tag x y) in
      let g = in_grid family grid print x y in
      let q = position_of x y in
      let square = square_is x y position h in
      ap (λ (t : Bool). cond t own (first_tags position x y old)) square
      ∙ overlay (g && ltb q position) (g && eqb q position) (shade x y) own old (λ e. own_shade position x y h (square ∙ e))
      ∙ ap (λ (t : Bool). cond t (shade x y) old) (sym (and-or_distrib_left g (ltb q position) (eqb q position)) ∙ ap (λ (t : Bool). g && t) (below_next q position))

  -- a pixel of the grid lies in one of its tags
  all_tags : (x y : ℕ) → in_grid family grid print x y && ltb (position_of x y) (tag_count grid) ≡ in_grid family grid print x y
  all_tags x y = go (in_grid family grid print x y) refl
    where
      go : (t : Bool) → in_grid family grid print x y ≡ t → t && ltb (position_of x y) (tag_count grid) ≡ t
      go true e =
          let f = found x y e in
          lt-ltb (position_of x y) (tag_count grid) (position_lt grid (pixel_row family grid print y) (pixel_column family grid print x) f.rows.among f.columns.among)
      go false e = refl

  module _ (frame : Frame) (plane : List ℕ) where
    pub no_tags : plane ≡ repainted frame (first_tags 0) plane
    no_tags =
        repainted_none frame (first_tags 0) plane (λ x y old.
        let g = in_grid family grid print x y in
        ap (λ (t : Bool). cond t (shade x y) old) (ap (λ (t : Bool). g && t) (le-ltb (position_of x y) 0 (omega arith)) ∙ and-false g))

    pub tag_more : (position : ℕ) (out next : List ℕ) → position < tag_count grid → out ≡ repainted frame (first_tags position) plane
        → next ≡ drawn frame family.edge family.border (get_or codes position 0) (position_print family grid print position) out
        → next ≡ repainted frame (first_tags (position + 1)) plane
    tag_more position out next h e d =
        let draw = tag_pixel family.edge family.border (get_or codes position 0) (position_print family grid print position) in
        d ∙ ap (repainted frame draw) e ∙ repainted_twice frame (first_tags position) draw (first_tags (position + 1)) plane (λ x y old. one_more position x y old h)

    -- all tags on a plane that was filled with light are the sheet
    pub sheet-drawn : (light out : List ℕ) → light ≡ filled frame print.light plane → out ≡ repainted frame (first_tags (tag_count grid)) light
        → out ≡ sheet frame family codes grid print plane
    sheet-drawn light out f e =
        e ∙ ap (repainted frame (first_tags (tag_count grid))) f
        ∙ repainted_twice frame (λ x y old. print.light) (first_tags (tag_count grid)) (λ x y old. sheet_pixel family codes grid print x y print.light) plane (λ x y old.
        ap (λ (t : Bool). cond t (shade x y) print.light) (all_tags x y))
