-- A quad near the painter's, the painter's own first of all, is sampled in the cells of the print's modules: its samples move by less than half a cell
-- from the middle of theirs. So it passes 10, and each sample has its module's shade on the painted plane. Assumes nothing.
use mathlib.Core.Path.{◌≡◌, sym, ap, ap₂, ◌∙◌, subst}
use mathlib.Core.Bool.{true, ◌&&◌, cond}
use mathlib.Core.List.{List}
use Prim.Native.Nat.{ℕ, zero, suc, ◌+◌, ◌-◌, ◌*◌, ◌/◌, ◌%◌, ◌≤◌, ◌<◌}
use native.Mathlib.Nat.{div-add-mod', mul_comm, mul-pos, zero-mul}
use native.Mathlib.Omega.{arith}
use borrow.Author.Tests.{lt-ltb}
use lib.Dec.{eqb, lit<}
use lib.Ieee.{Float}
use lib.IntN.{ℤ, pos, ◌-ℤ◌, nat_abs, +ℤ_invr}
use lib.ListN.{length}
use Rattle.lists.proofs.Each.{each_of}
use Rattle.refusals.specs.Pixels.{level_at}
use Rattle.refusals.specs.declared.Frame.{Frame}
use Rattle.points.specs.declared.Point.{Point}
use Rattle.points.specs.declared.Quad.{Quad}
use Rattle.points.specs.Turned.{turned_left}
use Rattle.points.proofs.Turns.{turned_add, turned_rest}
use Rattle.tables.specs.declared.Family.{Family}
use Rattle.word.specs.Word.{bit}
use Rattle.tables.specs.Table.{side_of}
use Rattle.places.specs.Rounding.{in_1024ths}
use Rattle.places.specs.Place.{axis_of, axes_of, module_place, sample_pixel}
use Rattle.places.proofs.Off.{sample_stays}
use Rattle.places.proofs.Painted.{place_across, place_down}
use Rattle.painter.specs.Corners.{outer_corners, print_quad}
use Rattle.painter.specs.Picture.{in_block}
use Rattle.painter.specs.Printable.{Printable}
use Rattle.painter.specs.Tag.{size_of, module_bit, painted}
use Rattle.painter.specs.declared.Cell.{Cell}
use Rattle.painter.specs.declared.Print.{Print}
use Rattle.painter.proofs.Block.{In, is_in, block_in}
use Rattle.painter.proofs.Painted.{painted_cell}
use Rattle.painter.proofs.Part.{pixel_cell}
use Rattle.painter.proofs.Printable.{Good-print, Good, cells_le}
use Rattle.painter.proofs.Runs.{Within}
use Rattle.painter.proofs.Turned.{module_shade}
use Rattle.reader.specs.Reading.{samples, column, row, sample_inside, samples_inside}
use Rattle.paper.specs.OffCorners.{NearNumber, Near, spread, UnderHalfCell, Stays}
use Rattle.paper.proofs.Corners.{half_at, sources, sources-lt, column_start, row_start, cell_of, cell_in, cell_back}

-- ---- near quads

-- a quad is near itself
Near-itself : (e : ℕ) (q : Quad) → Near e q q
Near-itself e q = record {
  corner0 = (same q.q0.x, same q.q0.y);
  corner1 = (same q.q1.x, same q.q1.y);
  corner2 = (same q.q2.x, same q.q2.y);
  corner3 = (same q.q3.x, same q.q3.y);
}
  where
    same : (a : Float) → NearNumber e a a
    same a = rw (+ℤ_invr (in_1024ths a)) (omega arith)

-- two that are near stay so if both are turned
Near-turned : {e : ℕ} {a b : Quad} (s : ℕ) → Near e a b → Near e (turned_left s a) (turned_left s b)
unfolding turned_left
Near-turned zero n = n
Near-turned (suc s) n = let m = Near-turned s n in record { corner0 = m.corner1; corner1 = m.corner2; corner2 = m.corner3; corner3 = m.corner0 }

-- whole turns change nothing
turned_back : (s t : ℕ) (q : Quad) → (t + s) % 4 ≡ 0 → turned_left s (turned_left t q) ≡ q
unfolding turned_left
turned_back s t q e = turned_add s t q ∙ sym (turned_rest (t + s) 0 q e)

-- ---- where the samples lie

module _ (len : ℕ) (frame : Frame) (family : Family) (word : ℕ) (print : Print) (p : Printable len frame family.edge family.border word print)
    (e : ℕ) (small : UnderHalfCell e family print) where
  abbrev side : ℕ
  side = side_of family.edge family.border

  abbrev upright : Quad
  upright = outer_corners family.edge family.border print

  ok : Good len frame family.edge family.border word print
  ok = Good-print p

  -- place k of the square inside the border: the painter's upright quad has it in the middle of its cell
  place_column : (k : ℕ) → module_place (axes_of upright).x side (family.border + k / family.edge) (family.border + k % family.edge)
      ≡ pos (2048 * side * (2 * (print.x + (family.border + k % family.edge) * print.cell) + (print.cell - 1)))
  place_column k =
      let i = family.border + k / family.edge in
      let j = family.border + k % family.edge in
      ap₂ (λ a b. module_place (axis_of a b b a) side i j) (half_at print.x) (half_at (print.x + side * print.cell))
      ∙ place_across print.x side print.cell i j ok.style.some
      ∙ ap (λ (n : ℕ). pos (2048 * side * (2 * (print.x + n) + (print.cell - 1)))) (mul_comm print.cell j)

  place_row : (k : ℕ) → module_place (axes_of upright).y side (family.border + k / family.edge) (family.border + k % family.edge)
      ≡ pos (2048 * side * (2 * (print.y + (family.border + k / family.edge) * print.cell) + (print.cell - 1)))
  place_row k =
      let i = family.border + k / family.edge in
      let j = family.border + k % family.edge in
      ap₂ (λ a b. module_place (axis_of a a b b) side i j) (half_at print.y) (half_at (print.y + side * print.cell))
      ∙ place_down print.y side print.cell i j ok.style.some
      ∙ ap (λ (n : ℕ). pos (2048 * side * (2 * (print.y + n) + (print.cell - 1)))) (mul_comm print.cell i)

  -- sample k of the quad lies in the cell of place s of that square
  abbrev LiesAt : Quad → (k s : ℕ) → Type 0
  LiesAt quad k s =
      In (print.x + (family.border + s % family.edge) * print.cell) (print.y + (family.border + s / family.edge) * print.cell) print.cell print.cell
      (column (axes_of quad) family k) (row (axes_of quad) family k)

  -- along one axis, f the coordinate: a sample that the upright quad has in the middle of the cell from x on
  along : (f : Point → ℤ) (q : Quad) (x k : ℕ) → k < samples family
      → nat_abs (f q.q0 -ℤ f upright.q0) ≤ e → nat_abs (f q.q1 -ℤ f upright.q1) ≤ e → nat_abs (f q.q2 -ℤ f upright.q2) ≤ e → nat_abs (f q.q3 -ℤ f upright.q3) ≤ e
      → module_place (axis_of (f upright.q0) (f upright.q1) (f upright.q2) (f upright.q3)) side (family.border + k / family.edge) (family.border + k % family.edge)
      ≡ pos (2048 * side * (2 * x + (print.cell - 1)))
      → Within x print.cell (sample_pixel (axis_of (f q.q0) (f q.q1) (f q.q2) (f q.q3)) family.edge family.border k)
  along f q x k h n0 n1 n2 n3 place =
      let s = sample_stays e (f upright.q0) (f upright.q1) (f upright.q2) (f upright.q3) (f q.q0) (f q.q1) (f q.q2) (f q.q3) n0 n1 n2 n3
      family.edge family.border print.cell x k h ok.style.some small place in
      record { from = s.0; to = s.1 }

  -- a quad near the upright one
  lies_upright : (quad : Quad) → Near e quad upright → (k : ℕ) → k < samples family → LiesAt quad k k
  lies_upright q n k h = record {
    across = along (λ p. in_1024ths p.x) q (print.x + (family.border + k % family.edge) * print.cell) k h n.corner0.0 n.corner1.0 n.corner2.0 n.corner3.0 (place_column k);
    down = along (λ p. in_1024ths p.y) q (print.y + (family.border + k / family.edge) * print.cell) k h n.corner0.1 n.corner1.1 n.corner2.1 n.corner3.1 (place_row k);
  }

  -- a quad near the print's: turned back, by three times the print's turn, it is near the upright one
  lies : (quad : Quad) → Near e quad (print_quad family.edge family.border print) → (k : ℕ) → k < samples family
      → LiesAt quad k (sources family.edge print.turn k)
  lies quad n k h =
      let t = print.turn in
      let back = turned_left (3 * t) quad in
      let near : Near e back upright = subst (Near e back) (turned_back (3 * t) t upright (omega arith)) (Near-turned (3 * t) n) in
      let s = sources family.edge t k in
      let there = lies_upright back near s (sources-lt family.edge t k h) in
      subst (λ (q : Quad). LiesAt q k s) (turned_back t (3 * t) quad (omega arith)) (rw (column_start family back t k h, row_start family back t k h) there)

  -- so a sample lies in the tag's square,
  in_square : (quad : Quad) → Near e quad (print_quad family.edge family.border print) → (k : ℕ) → k < samples family → let size = size_of family.edge family.border print in
      in_block print.x print.y size size (column (axes_of quad) family k) (row (axes_of quad) family k) ≡ true
  in_square quad n k h =
      let size = size_of family.edge family.border print in
      let s = sources family.edge print.turn k in
      let i = cell_in family.edge s (sources-lt family.edge print.turn k h) in
      let a = lies quad n k h in
      let across = cells_le (family.border + s % family.edge) side print.cell (omega (arith, i.columns)) in
      let down = cells_le (family.border + s / family.edge) side print.cell (omega (arith, i.rows)) in
      block_in print.x print.y size size (column (axes_of quad) family k) (row (axes_of quad) family k) (omega arith) (omega arith) (omega arith) (omega arith)

  -- and in the cell that the print's own quad, which is near itself, has it in
  pub stays : (quad : Quad) → Near e quad (print_quad family.edge family.border print) → (k : ℕ) → k < samples family → Stays family print quad k
  stays quad n k h =
      let own = print_quad family.edge family.border print in
      let s = sources family.edge print.turn k in
      let r = family.border + s / family.edge in
      let c = family.border + s % family.edge in
      let a = lies quad n k h in
      let b = lies own (Near-itself e own) k h in
      record { inside = in_square quad n k h; cell = pixel_cell print r c _ _ a.across a.down ∙ sym (pixel_cell print r c _ _ b.across b.down) }

  -- 10: the tag's square lies in the picture
  pub Near-sampled : (quad : Quad) → Near e quad (print_quad family.edge family.border print) → samples_inside frame family (axes_of quad) ≡ true
  unfolding samples_inside
  Near-sampled quad n = each_of (samples family) (sample_inside frame family (axes_of quad)) (λ k h.
      let size = size_of family.edge family.border print in
      let x = column (axes_of quad) family k in
      let y = row (axes_of quad) family k in
      let i = is_in print.x print.y size size x y (in_square quad n k h) in
      ap₂ ◌&&◌ (lt-ltb x frame.width (omega (arith, i.across.to, ok.placed.right))) (lt-ltb y frame.height (omega (arith, i.down.to, ok.placed.low))))

  -- the level of sample k is the shade of module k of the word
  module _ (plane : List ℕ) (whole : length plane ≡ len) where
    bit_at : (k : ℕ) → module_bit family.edge word (k / family.edge) (k % family.edge) ≡ bit word (family.edge * family.edge - 1 - k)
    bit_at k = ap (λ (n : ℕ). bit word (family.edge * family.edge - 1 - n)) (div-add-mod' k family.edge)

    pub Near-level : (quad : Quad) → Near e quad (print_quad family.edge family.border print) → (k : ℕ) → k < samples family
        → level_at (painted frame family.edge family.border word print plane) frame (column (axes_of quad) family k) (row (axes_of quad) family k)
        ≡ cond (eqb (bit word (family.edge * family.edge - 1 - k)) 1) print.light print.dark
    Near-level quad n k h =
        let s = sources family.edge print.turn k in
        let l = sources-lt family.edge print.turn k h in
        let i = cell_in family.edge s l in
        let c = family.border + s % family.edge in
        let r = family.border + s / family.edge in
        let a = lies quad n k h in
        let x = column (axes_of quad) family k in
        let y = row (axes_of quad) family k in
        let d = x - (print.x + c * print.cell) in
        let d' = y - (print.y + r * print.cell) in
        let across : x ≡ print.x + c * print.cell + d = omega (arith, a.across.from) in
        let down : y ≡ print.y + r * print.cell + d' = omega (arith, a.down.from) in
        ap₂ (level_at (painted frame family.edge family.border word print plane) frame) across down
        ∙ painted_cell family.edge family.border word print c r d d' (omega (arith, i.columns)) (omega (arith, i.rows)) (omega (arith, a.across.from, a.across.to)) (omega (arith, a.down.from, a.down.to)) frame plane
        (subst (λ (m : ℕ). Printable m frame family.edge family.border word print) (sym whole) p)
        ∙ module_shade family.edge family.border word print (cell_of family.edge s) i
        ∙ ap (λ (m : Cell). cond (eqb (module_bit family.edge word m.row m.column) 1) print.light print.dark) (cell_back family.edge print.turn k h)
        ∙ ap (λ (b : ℕ). cond (eqb b 1) print.light print.dark) (bit_at k)

-- ---- the painter's own quad: nothing is off

module _ (len : ℕ) (frame : Frame) (family : Family) (word : ℕ) (print : Print) (p : Printable len frame family.edge family.border word print) where
  abbrev own_quad : Quad
  own_quad = print_quad family.edge family.border print

  none_off : UnderHalfCell 0 family print
  none_off =
      let g = Good-print p in
      let some : 0 < side_of family.edge family.border = omega (arith, g.edges.least) in
      subst (λ (n : ℕ). n < 2048 * side_of family.edge family.border * print.cell) (sym (zero-mul (spread family.edge family.border)))
      (mul-pos (mul-pos (lit< tt) some) g.style.some)

  pub print_square : (k : ℕ) → k < samples family → let size = size_of family.edge family.border print in
      in_block print.x print.y size size (column (axes_of own_quad) family k) (row (axes_of own_quad) family k) ≡ true
  print_square = in_square len frame family word print p 0 none_off own_quad (Near-itself 0 own_quad)

  pub print_sampled : samples_inside frame family (axes_of own_quad) ≡ true
  print_sampled = Near-sampled len frame family word print p 0 none_off own_quad (Near-itself 0 own_quad)

  pub print_level : (plane : List ℕ) → length plane ≡ len → (k : ℕ) → k < samples family
      → level_at (painted frame family.edge family.border word print plane) frame (column (axes_of own_quad) family k) (row (axes_of own_quad) family k)
      ≡ cond (eqb (bit word (family.edge * family.edge - 1 - k)) 1) print.light print.dark
  print_level plane whole = Near-level len frame family word print p 0 none_off plane whole own_quad (Near-itself 0 own_quad)
