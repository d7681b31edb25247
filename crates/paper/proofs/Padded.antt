-- Ticket 1 of document 02: every entry makes of a padded plane what it makes of its lines without filler. Assumes nothing.
use mathlib.Core.Path.{◌≡◌, refl, sym, ap, ap₂, ◌∙◌, subst}
use mathlib.Core.Bool.{Bool, true, false, not, ◌||◌, cond, true≢false}
use mathlib.Core.List.{List}
use Prim.Native.Nat.{ℕ, ◌/◌, ◌%◌, ◌<◌}
use native.Mathlib.Nat.{mod-lt}
use borrow.Author.Tests.{lt-ltb, le-ltb, ltb-true}
use lib.Dec.{ltb}
use lib.Ieee.{Float}
use lib.ListN.{length, get_or}
use Rattle.lists.specs.Tab.{tabulate}
use Rattle.lists.proofs.Rows.{tabulate_ext}
use Rattle.std.specs.Cmp.{first_so, second_so}
use Rattle.refusals.specs.Outcome.{Outcome, accepted, refused, Done}
use Rattle.refusals.specs.Pixels.{packed_frame, bad_frame, place_of, level_at}
use Rattle.refusals.specs.declared.Frame.{Frame}
use Rattle.refusals.proofs.Pixels.{place_column, good_frame}
use Rattle.points.specs.declared.Quad.{Quad}
use Rattle.tables.specs.Table.{bad_table, bad_edge, bad_border}
use Rattle.tables.specs.declared.Family.{Family}
use Rattle.tag_families.specs.Families.{is_family, family_of, codes_of}
use Rattle.places.specs.Place.{axes_of}
use Rattle.painter.specs.Picture.{repainted_byte, repainted}
use Rattle.painter.specs.Tag.{painted_pixel, painted}
use Rattle.painter.specs.Corners.{print_quad}
use Rattle.painter.specs.Printable.{bad_print, bad_style}
use Rattle.painter.specs.declared.Print.{Print}
use Rattle.painter.proofs.Picture.{length-repainted, pixel_repainted, filler_repainted}
use Rattle.grid.specs.Sheet.{sheet_pixel}
use Rattle.grid.specs.Refused.{bad_grid, bad_output}
use Rattle.grid.specs.declared.Grid.{Grid}
use Rattle.reader.specs.Reading.{column, row, Tag, reading}
use Rattle.reader.proofs.Depends.{Agree, reading_depends}
use Rattle.listing.specs.Listing.{bad_list, Listing, listing_of, listing}
use Rattle.listing.proofs.Listing.{listing_depends}
use Rattle.muosleap_paint.specs.PaintTag.{Painting, unpainted, paint_tag, paint_tag_in}
use Rattle.muosleap_paint.specs.PaintSheet.{SheetPainting, painting_of, paint_sheet, paint_sheet_in}
use Rattle.muosleap_paint.proofs.PaintSheet.{Call, past_1, tested, call}
use Rattle.muosleap.specs.Quad.{decode_quad, decode_quad_in}
use Rattle.muosleap.specs.Quads.{decode_quads, decode_quads_in}
use Rattle.paper.specs.Padded.{without_filler, packed, LeavesFiller, ReadsAlike, PaintsAlike, Padded}
use Rattle.paper.proofs.Lines.{same_plane, before_1, framed, length_without, pixel_without, good_packed, same_packed, same_lines}

-- ---- readings

module _ (plane : List ℕ) (frame : Frame) (good : bad_frame (length plane) frame ≡ false) (family : Family) (codes : List ℕ) where
  -- a sample that lies in the picture is one of its pixels
  agree : (quad : Quad) → Agree plane (without_filler frame plane) frame frame.width family (axes_of quad)
  agree quad k l inside =
      let x = column (axes_of quad) family k in
      let y = row (axes_of quad) family k in
      let wide = ltb x frame.width in
      let high = ltb y frame.height in
      sym (pixel_without plane frame good x y (ltb-true x frame.width (first_so wide high inside)) (ltb-true y frame.height (second_so wide high inside)))

  reading-lines : (quad : Quad) → reading plane frame family codes quad ≡ reading (without_filler frame plane) (packed frame) family codes quad
  reading-lines quad = reading_depends plane (without_filler frame plane) frame frame.width family codes quad (agree quad)

  listing-lines : (quads : List Float) (rows : List ℕ) (corners : List Float)
      → listing plane frame family codes quads rows corners ≡ listing (without_filler frame plane) (packed frame) family codes quads rows corners
  listing-lines = listing_depends plane (without_filler frame plane) frame (packed frame) family codes reading-lines

module _ (plane : List ℕ) (frame : Frame) (good : bad_frame (length plane) frame ≡ false) where
  -- an entry goes on behind refusal 1, on the plane and on its lines
  behind_1 : {A : Type 0} (one on on' : A) → on ≡ on' → cond (bad_frame (length plane) frame) one on ≡ cond (bad_frame (length (without_filler frame plane)) (packed frame)) one on'
  behind_1 one on on' e = ap (λ (b : Bool). cond b one on) good ∙ e ∙ sym (ap (λ (b : Bool). cond b one on') (good_packed plane frame good))

  quad_lines : (family : Family) (codes : List ℕ) (quad : Quad) → decode_quad plane frame family codes quad ≡ decode_quad (without_filler frame plane) (packed frame) family codes quad
  unfolding decode_quad
  quad_lines family codes quad =
      behind_1 (refused 1) _ _
      (ap (λ (o : Outcome Tag). cond (bad_table family codes) (refused 6) o) (reading-lines plane frame good family codes quad))

  quad_in_lines : (number : ℕ) (quad : Quad) → decode_quad_in plane frame number quad ≡ decode_quad_in (without_filler frame plane) (packed frame) number quad
  unfolding decode_quad_in
  quad_in_lines number quad =
      behind_1 (refused 1) _ _
      (ap (λ (o : Outcome Tag). cond (not (is_family number)) (refused 6) o) (reading-lines plane frame good (family_of number) (codes_of number) quad))

  module _ (quads : List Float) (rows : List ℕ) (corners : List Float) where
    -- 6, 16, and the list's reading
    abbrev listed : Bool → Listing → Listing
    listed six read =
        cond six (listing_of (refused 6) rows corners) (cond (bad_list (length quads) (length rows) (length corners)) (listing_of (refused 16) rows corners) read)

    quads_lines : (family : Family) (codes : List ℕ)
        → decode_quads plane frame family codes quads rows corners ≡ decode_quads (without_filler frame plane) (packed frame) family codes quads rows corners
    unfolding decode_quads
    quads_lines family codes =
        behind_1 (listing_of (refused 1) rows corners) _ _
        (ap (listed (bad_table family codes)) (listing-lines plane frame good family codes quads rows corners))

    quads_in_lines : (number : ℕ) → decode_quads_in plane frame number quads rows corners ≡ decode_quads_in (without_filler frame plane) (packed frame) number quads rows corners
    unfolding decode_quads_in
    quads_in_lines number =
        behind_1 (listing_of (refused 1) rows corners) _ _
        (ap (listed (not (is_family number))) (listing-lines plane frame good (family_of number) (codes_of number) quads rows corners))

-- ---- paintings

module _ (frame : Frame) (f : ℕ → ℕ → ℕ → ℕ) (plane : List ℕ) (good : bad_frame (length plane) frame ≡ false) where
  abbrev lines : List ℕ
  lines = without_filler frame plane

  abbrev after : List ℕ
  after = repainted frame f plane

  good_after : bad_frame (length after) frame ≡ false
  good_after = ap (λ (n : ℕ). bad_frame n frame) (length-repainted frame f plane) ∙ good

  -- to repaint and then take the filler out is to take the filler out and then repaint
  repainted-lines : without_filler frame after ≡ repainted (packed frame) f lines
  repainted-lines =
      same_plane frame.width frame.height (without_filler frame after) (repainted (packed frame) f lines) (framed plane frame good).sides.wide
      (length_without after frame good_after)
      (length-repainted (packed frame) f lines ∙ length_without plane frame good)
      (λ x y hx hy.
      pixel_without after frame good_after x y hx hy
      ∙ pixel_repainted frame f plane x y 0 (framed plane frame good) hx hy
      ∙ ap (f x y) (sym (pixel_without plane frame good x y hx hy))
      ∙ sym (pixel_repainted (packed frame) f lines x y 0 (good_frame (good_packed plane frame good)) hx hy))

leaves_all : (frame : Frame) (plane : List ℕ) → LeavesFiller frame plane plane
leaves_all frame plane = record { as_long = refl; filler = λ x y from to inside. refl }

leaves_filler : (frame : Frame) (f : ℕ → ℕ → ℕ → ℕ) (plane : List ℕ) → LeavesFiller frame plane (repainted frame f plane)
leaves_filler frame f plane = record {
  as_long = length-repainted frame f plane;
  filler = λ x y from to inside.
      filler_repainted frame f plane (place_of frame x y) 0 inside
      (ap (λ (n : ℕ). ltb n frame.width) (place_column frame x y to) ∙ le-ltb x frame.width from);
}

-- what a painting of a plane and one of its lines without filler have in common; what they have behind refusal 1 they have
module _ {P A : Type 0} (told : P → A) (left : P → List ℕ) where
  abbrev Both : Frame → P → P → Type 0
  Both frame a b = (told a ≡ told b) × (without_filler frame (left a) ≡ left b)

  Both-behind : (plane : List ℕ) (frame : Frame) → bad_frame (length plane) frame ≡ false → (one one' on on' : P) → Both frame on on'
      → Both frame (cond (bad_frame (length plane) frame) one on) (cond (bad_frame (length (without_filler frame plane)) (packed frame)) one' on')
  Both-behind plane frame good one one' on on' both = go (bad_frame (length plane) frame) (bad_frame (length (without_filler frame plane)) (packed frame)) good (good_packed plane frame good)
    where
      go : (t t' : Bool) → t ≡ false → t' ≡ false → Both frame (cond t one on) (cond t' one' on')
      go true t' p q = absurd (true≢false p)
      go false true p q = absurd (true≢false q)
      go false false p q = both

-- a tag's painting
abbrev answer_of : Painting → Outcome Quad
answer_of p = p.answer

abbrev plane_of : Painting → List ℕ
plane_of p = p.plane

module _ (plane : List ℕ) (frame : Frame) where
  -- 6 and 14 are tested alike, and refused paintings leave the plane
  module _ (edge border word : ℕ) (print : Print) where
    abbrev painting : List ℕ → Frame → Painting
    painting plane frame = record { answer = accepted (print_quad edge border print); plane = painted frame edge border word print plane }

    abbrev behind : List ℕ → Frame → Bool → Bool → Painting
    behind plane frame six fourteen = cond six (unpainted plane 6) (cond fourteen (unpainted plane 14) (painting plane frame))

    paint_lines : bad_frame (length plane) frame ≡ false
        → Both answer_of plane_of frame (paint_tag plane frame edge border word print) (paint_tag (without_filler frame plane) (packed frame) edge border word print)
    unfolding paint_tag bad_print
    paint_lines good =
        Both-behind answer_of plane_of plane frame good _ _ _ _ (go (bad_edge edge || bad_border border) (bad_print frame edge border word print))
      where
        go : (six fourteen : Bool) → Both answer_of plane_of frame (behind plane frame six fourteen) (behind (without_filler frame plane) (packed frame) six fourteen)
        go true fourteen = (refl, refl)
        go false true = (refl, refl)
        go false false = (refl, repainted-lines frame (λ x y old. painted_pixel edge border word print x y) plane good)

    paint_leaves : LeavesFiller frame plane (paint_tag plane frame edge border word print).plane
    unfolding paint_tag
    paint_leaves = go (bad_frame (length plane) frame) (bad_edge edge || bad_border border) (bad_print frame edge border word print)
      where
        go : (one six fourteen : Bool) → LeavesFiller frame plane (cond one (unpainted plane 1) (behind plane frame six fourteen)).plane
        go true six fourteen = leaves_all frame plane
        go false true fourteen = leaves_all frame plane
        go false false true = leaves_all frame plane
        go false false false = leaves_filler frame (λ x y old. painted_pixel edge border word print x y) plane

  module _ (family word : ℕ) (print : Print) where
    abbrev in_family : List ℕ → Frame → Painting
    in_family plane frame = paint_tag plane frame (family_of family).edge (family_of family).border word print

    paint_in_lines : bad_frame (length plane) frame ≡ false
        → Both answer_of plane_of frame (paint_tag_in plane frame family word print) (paint_tag_in (without_filler frame plane) (packed frame) family word print)
    unfolding paint_tag_in
    paint_in_lines good =
        Both-behind answer_of plane_of plane frame good _ _ _ _ (go (not (is_family family)))
      where
        go : (six : Bool) → Both answer_of plane_of frame (cond six (unpainted plane 6) (in_family plane frame))
            (cond six (unpainted (without_filler frame plane) 6) (in_family (without_filler frame plane) (packed frame)))
        go true = (refl, refl)
        go false = paint_lines (family_of family).edge (family_of family).border word print good

    paint_in_leaves : LeavesFiller frame plane (paint_tag_in plane frame family word print).plane
    unfolding paint_tag_in
    paint_in_leaves = go (bad_frame (length plane) frame) (not (is_family family))
      where
        go : (one six : Bool) → LeavesFiller frame plane (cond one (unpainted plane 1) (cond six (unpainted plane 6) (in_family plane frame))).plane
        go true six = leaves_all frame plane
        go false true = leaves_all frame plane
        go false false = paint_leaves (family_of family).edge (family_of family).border word print

-- a sheet's painting
abbrev told_of : SheetPainting → Outcome Done × List Float
told_of p = (p.answer, p.quads)

abbrev sheet_of : SheetPainting → List ℕ
sheet_of p = p.plane

module _ (plane : List ℕ) (frame : Frame) (grid : Grid) (print : Print) (quads : List Float) where
  module _ (family : Family) (codes : List ℕ) where
    abbrev pixel : ℕ → ℕ → ℕ → ℕ
    pixel x y old = sheet_pixel family codes grid print x y print.light

    abbrev sheet_call : List ℕ → Frame → Call
    sheet_call plane frame = call plane frame family codes grid print quads

    -- 6, 14, 17 and 16 are tested alike, and refused paintings leave the plane
    sheet_lines : bad_frame (length plane) frame ≡ false
        → Both told_of sheet_of frame (paint_sheet plane frame family codes grid print quads) (paint_sheet (without_filler frame plane) (packed frame) family codes grid print quads)
    unfolding paint_sheet bad_grid
    sheet_lines good =
        Both-behind told_of sheet_of plane frame good _ _ _ _
        (go (bad_table family codes) (bad_style print) (bad_grid frame family (length codes) grid print) (bad_output grid (length quads)))
      where
        go : (six fourteen seventeen sixteen : Bool)
            → Both told_of sheet_of frame (past_1 (sheet_call plane frame) six fourteen seventeen sixteen) (past_1 (sheet_call (without_filler frame plane) (packed frame)) six fourteen seventeen sixteen)
        go true fourteen seventeen sixteen = (refl, refl)
        go false true seventeen sixteen = (refl, refl)
        go false false true sixteen = (refl, refl)
        go false false false true = (refl, refl)
        go false false false false = (refl, repainted-lines frame pixel plane good)

    sheet_leaves : LeavesFiller frame plane (paint_sheet plane frame family codes grid print quads).plane
    unfolding paint_sheet
    sheet_leaves =
        go (bad_frame (length plane) frame) (bad_table family codes) (bad_style print) (bad_grid frame family (length codes) grid print) (bad_output grid (length quads))
      where
        go : (one six fourteen seventeen sixteen : Bool)
            → LeavesFiller frame plane (tested (sheet_call plane frame) one six fourteen seventeen sixteen).plane
        go true six fourteen seventeen sixteen = leaves_all frame plane
        go false true fourteen seventeen sixteen = leaves_all frame plane
        go false false true seventeen sixteen = leaves_all frame plane
        go false false false true sixteen = leaves_all frame plane
        go false false false false true = leaves_all frame plane
        go false false false false false = leaves_filler frame pixel plane

  module _ (number : ℕ) where
    abbrev sheet_in_family : List ℕ → Frame → SheetPainting
    sheet_in_family plane frame = paint_sheet plane frame (family_of number) (codes_of number) grid print quads

    sheet_in_lines : bad_frame (length plane) frame ≡ false
        → Both told_of sheet_of frame (paint_sheet_in plane frame number grid print quads) (paint_sheet_in (without_filler frame plane) (packed frame) number grid print quads)
    unfolding paint_sheet_in
    sheet_in_lines good =
        Both-behind told_of sheet_of plane frame good _ _ _ _ (go (not (is_family number)))
      where
        go : (six : Bool) → Both told_of sheet_of frame (cond six (painting_of (refused 6) plane quads) (sheet_in_family plane frame))
            (cond six (painting_of (refused 6) (without_filler frame plane) quads) (sheet_in_family (without_filler frame plane) (packed frame)))
        go true = (refl, refl)
        go false = sheet_lines (family_of number) (codes_of number) good

    sheet_in_leaves : LeavesFiller frame plane (paint_sheet_in plane frame number grid print quads).plane
    unfolding paint_sheet_in
    sheet_in_leaves = go (bad_frame (length plane) frame) (not (is_family number))
      where
        go : (one six : Bool) → LeavesFiller frame plane (cond one (painting_of (refused 1) plane quads) (cond six (painting_of (refused 6) plane quads) (sheet_in_family plane frame))).plane
        go true six = leaves_all frame plane
        go false true = leaves_all frame plane
        go false false = sheet_leaves (family_of number) (codes_of number)

-- ---- two planes that agree off their filler

reads_alike : {A : Type 0} (read : List ℕ → Frame → A)
    → ((plane : List ℕ) (frame : Frame) → bad_frame (length plane) frame ≡ false → read plane frame ≡ read (without_filler frame plane) (packed frame)) → ReadsAlike read
reads_alike read lines = record {
  lines = lines;
  same = λ plane frame other frame' good good' same.
      lines plane frame good
      ∙ ap₂ read (same_lines plane frame other frame' good good' same) (same_packed plane frame other frame' good good' same)
      ∙ sym (lines other frame' good');
}

module _ {P A : Type 0} (told : P → A) (left : P → List ℕ) (paint : List ℕ → Frame → P)
    (lines : (plane : List ℕ) (frame : Frame) → bad_frame (length plane) frame ≡ false → Both told left frame (paint plane frame) (paint (without_filler frame plane) (packed frame)))
    (leaves : (plane : List ℕ) (frame : Frame) → LeavesFiller frame plane (left (paint plane frame))) where
  -- pixel (x, y) of the painted plane is that of the painted lines
  painted_pixel_lem : (plane : List ℕ) (frame : Frame) → bad_frame (length plane) frame ≡ false → (x y : ℕ) → x < frame.width → y < frame.height
      → level_at (left (paint plane frame)) frame x y ≡ level_at (left (paint (without_filler frame plane) (packed frame))) (packed frame) x y
  painted_pixel_lem plane frame good x y hx hy =
      let still = ap (λ (n : ℕ). bad_frame n frame) (leaves plane frame).as_long ∙ good in
      sym (pixel_without (left (paint plane frame)) frame still x y hx hy)
      ∙ ap (λ (l : List ℕ). level_at l (packed frame) x y) (lines plane frame good).1

  paints_alike : PaintsAlike told left paint
  paints_alike = record {
    lines = lines;
    filler = leaves;
    same = λ plane frame other frame' good good' same.
        let e = same_lines plane frame other frame' good good' same in
        let p = same_packed plane frame other frame' good good' same in (
          (lines plane frame good).0 ∙ ap₂ (λ (l : List ℕ) (f : Frame). told (paint l f)) e p ∙ sym (lines other frame' good').0,
          record {
            widths = same.widths;
            heights = same.heights;
            pixels = λ x y hx hy.
                painted_pixel_lem plane frame good x y hx hy
                ∙ ap₂ (λ (l : List ℕ) (f : Frame). level_at (left (paint l f)) f x y) e p
                ∙ sym (painted_pixel_lem other frame' good' x y (subst (λ (n : ℕ). x < n) same.widths hx) (subst (λ (n : ℕ). y < n) same.heights hy));
          },
        );
  }

-- ---- the painted plane, where the pitch is the width

before_painted : (width height edge border word : ℕ) (print : Print) (plane : List ℕ) → 0 < width
    → painted (packed_frame width height) edge border word print plane ≡ tabulate (length plane) (λ k. painted_pixel edge border word print (k % width) (k / width))
unfolding repainted
before_painted width height edge border word print plane wide =
    tabulate_ext (length plane) (λ k. repainted_byte (packed_frame width height) (λ x y old. painted_pixel edge border word print x y) k (get_or plane k 0))
    (λ k. painted_pixel edge border word print (k % width) (k / width))
    (λ k h.
    ap (λ (t : Bool). cond t (painted_pixel edge border word print (k % width) (k / width)) (get_or plane k 0))
    (lt-ltb (k % width) width (mod-lt k wide)))

-- ---- the whole ticket

pub padded : Padded
padded = record {
  quad = λ family codes quad. reads_alike _ (λ plane frame good. quad_lines plane frame good family codes quad);
  quad_in = λ number quad. reads_alike _ (λ plane frame good. quad_in_lines plane frame good number quad);
  quads = λ family codes quads rows corners. reads_alike _ (λ plane frame good. quads_lines plane frame good quads rows corners family codes);
  quads_in = λ number quads rows corners. reads_alike _ (λ plane frame good. quads_in_lines plane frame good quads rows corners number);
  paint = λ edge border word print. paints_alike answer_of plane_of _ (λ plane frame. paint_lines plane frame edge border word print) (λ plane frame. paint_leaves plane frame edge border word print);
  paint_in = λ family word print. paints_alike answer_of plane_of _ (λ plane frame. paint_in_lines plane frame family word print) (λ plane frame. paint_in_leaves plane frame family word print);
  sheet = λ family codes grid print quads.
      paints_alike told_of sheet_of _ (λ plane frame. sheet_lines plane frame grid print quads family codes) (λ plane frame. sheet_leaves plane frame grid print quads family codes);
  sheet_in = λ number grid print quads.
      paints_alike told_of sheet_of _ (λ plane frame. sheet_in_lines plane frame grid print quads number) (λ plane frame. sheet_in_leaves plane frame grid print quads number);
  before_1 = before_1;
  before_place = λ width height x y. refl;
  before_painted = before_painted;
}
