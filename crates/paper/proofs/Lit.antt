-- A picture that is lit as ticket 8 of 02 asks is read as the word that was painted, by any quad at whose samples the painted plane shows
-- that word. Assumes nothing.
use mathlib.Core.Path.{◌≡◌, refl, sym, ap, ap₂, ◌∙◌, subst}
use mathlib.Core.Logic.{inl, inr}
use mathlib.Core.Bool.{Bool, true, false, ◌&&◌}
use mathlib.Core.List.{List}
use Prim.Native.Nat.{ℕ, zero, suc, ◌+◌, ◌-◌, ◌%◌, ◌<◌}
use native.Mathlib.Nat.{not-suc-le-zero, le_of_suc-le-suc, zero-add}
use native.Mathlib.Omega.{arith}
use borrow.Author.Tests.{leb-true, eq-eqb, ne_eqb}
use lib.Dec.{ltb, eqb}
use lib.ListN.{length, get_or}
use Rattle.lists.specs.Each.{each}
use Rattle.std.specs.Cmp.{first_so, second_so}
use Rattle.lists.proofs.Each.{each_at}
use Rattle.refusals.specs.Outcome.{accepted}
use Rattle.refusals.specs.Pixels.{bad_frame}
use Rattle.refusals.specs.declared.Frame.{Frame}
use Rattle.points.specs.declared.Quad.{Quad}
use Rattle.points.specs.Turned.{turned_left, answer_corners}
use Rattle.tables.specs.declared.Family.{Family}
use Rattle.word.specs.Word.{bit, differing}
use Rattle.std.proofs.lemmas.Nat.Bits.{bit_at-lt}
use Rattle.places.specs.Corners.{corners_outside}
use Rattle.places.specs.Place.{axes_of}
use Rattle.levels.specs.Levels.{greatest_of, least_of, middle_of}
use Rattle.levels.proofs.Clear.{Clear}
use Rattle.painter.specs.Corners.{print_quad}
use Rattle.painter.specs.Tag.{painted}
use Rattle.painter.specs.declared.Print.{Print}
use Rattle.painter.proofs.Painted.{length-painted}
use Rattle.painter.proofs.Printable.{Good-print}
use Rattle.reader.specs.Reading.{samples, column, row, samples_inside, levels_of, reading}
use Rattle.reader.proofs.Starts.{levels_size}
use Rattle.muosleap.specs.Quad.{decode_quad}
use Rattle.muosleap.proofs.Order.{quad_read}
use Rattle.paper.specs.Starts.{from_start}
use Rattle.paper.specs.Demand3.{misprints, Painted, print_order, own_tag, ReadsOwn}
use Rattle.paper.specs.Light.{clearance, clears, clears_at, least_contrast, contrasts, lit_levels, is_lit, Lit}
use Rattle.paper.proofs.Given.{Checked, checked, Took, took}
use Rattle.paper.proofs.Starts.{start_alike}
use Rattle.paper.proofs.Clear.{Taken, Printed, Clear-read}
use Rattle.paper.proofs.Painted.{shade_of_bit, taken, level_at_lem, own_lit}
use Rattle.paper.proofs.Listed.{own_listed}

-- a level that clears the middle on the side of its module's shade
Clear-of : (middle light dark painted b level : ℕ) → dark < light → b < 2 → painted ≡ shade_of_bit light dark b → clears middle (eqb painted light) level ≡ true → Clear middle clearance b level
Clear-of middle light dark painted zero level a h p c =
    let unlit : eqb painted light ≡ false = ap (λ (x : ℕ). eqb x light) p ∙ ne_eqb dark light (λ e. omega arith) in
    inr (refl, leb-true (level + clearance) middle (ap (λ (t : Bool). clears middle t level) (sym unlit) ∙ c))
Clear-of middle light dark painted (suc zero) level a h p c =
    let lit : eqb painted light ≡ true = ap (λ (x : ℕ). eqb x light) p ∙ eq-eqb light light refl in
    inl (refl, leb-true (middle + clearance) level (ap (λ (t : Bool). clears middle t level) (sym lit) ∙ c))
Clear-of middle light dark painted (suc (suc b)) level a h p c = absurd (not-suc-le-zero (le_of_suc-le-suc (le_of_suc-le-suc h)))

module _ (family : Family) (codes : List ℕ) (id w : ℕ) (printed : Printed family codes id w) (shown : List ℕ) (frame : Frame) (light dark : ℕ) (apart : dark < light) (q : Quad)
    (shades : (k : ℕ) → k < samples family → get_or (levels_of shown frame family (axes_of q)) k 0 ≡ shade_of_bit light dark (bit w (samples family - 1 - k)))
    (picture : List ℕ) (seen : Frame) (taken : Taken seen family q) (lit : is_lit shown frame light family q picture seen ≡ true) where
  abbrev printing : List ℕ
  printing = levels_of shown frame family (axes_of q)

  abbrev levels : List ℕ
  levels = levels_of picture seen family (axes_of q)

  size : length levels ≡ samples family
  size = levels_size family q seen picture

  abbrev cleared : ℕ → Bool
  cleared = clears_at (middle_of levels) light printing levels

  apart_enough : contrasts levels ≡ true
  unfolding is_lit lit_levels
  apart_enough = first_so (contrasts levels) (each (length levels) cleared) lit

  all_clear : each (length levels) cleared ≡ true
  unfolding is_lit lit_levels
  all_clear = second_so (contrasts levels) (each (length levels) cleared) lit

  clear : (k : ℕ) → k < length levels → Clear (middle_of levels) clearance (bit w (length levels - 1 - k)) (get_or levels k 0)
  clear k h =
      Clear-of (middle_of levels) light dark (get_or printing k 0) (bit w (length levels - 1 - k)) (get_or levels k 0) apart (bit_at-lt w (length levels - 1 - k))
      (shades k (subst (λ (n : ℕ). k < n) size h) ∙ ap (λ (n : ℕ). shade_of_bit light dark (bit w (n - 1 - k))) (sym size))
      (each_at (length levels) cleared all_clear k h)

  lit_read : reading picture seen family codes q ≡ accepted (record { id = id; turn = 0; differing = differing w (get_or codes id 0); corners = answer_corners q 0 })
  lit_read =
      Clear-read picture seen family codes q id w taken printed clearance (omega arith) (omega (arith, leb-true least_contrast (greatest_of levels - least_of levels) apart_enough)) clear

-- ---- a painted tag

-- 8, 9 and 10 know nothing of the pitch
Taken-at : (frame seen : Frame) (family : Family) (q : Quad) → seen.width ≡ frame.width → seen.height ≡ frame.height → Taken frame family q → Taken seen family q
unfolding samples_inside
Taken-at frame seen family q wide high t = record {
  small = t.small;
  within = ap₂ (λ (w h : ℕ). corners_outside w h q) wide high ∙ t.within;
  sampled = ap₂ (λ (w h : ℕ). each (samples family) (λ k. ltb (column (axes_of q) family k) w && ltb (row (axes_of q) family k) h)) wide high ∙ t.sampled;
}

module _ (family : Family) (codes : List ℕ) (id word : ℕ) (plane : List ℕ) (frame : Frame) (print : Print) (quad : Quad) (shown : List ℕ)
    (h : Painted family codes id word plane frame print quad shown) where
  check : Checked family codes
  check = checked family codes h.passes

  tag : Took plane frame family.edge family.border word print quad shown
  tag = took plane frame family.edge family.border word print quad shown h.painted

  print_is : Printed family codes id word
  print_is = record { table = check.table; passes = check.passes; known = h.known; square = (Good-print tag.prints).words; near = h.misprinted }

  abbrev own_quad : Quad
  own_quad = print_quad family.edge family.border print

  abbrev own_plane : List ℕ
  own_plane = painted frame family.edge family.border word print plane

  -- the painter's plane and quad, for the plane and the quad that it gave
  lit_same : (picture : List ℕ) (seen : Frame)
      → is_lit shown frame print.light family quad picture seen ≡ is_lit own_plane frame print.light family own_quad picture seen
  lit_same picture seen = ap₂ (λ (p : List ℕ) (q : Quad). is_lit p frame print.light family q picture seen) tag.shown_is tag.quad_is

  same_frame : bad_frame (length shown) frame ≡ false
  same_frame =
      ap (λ (n : ℕ). bad_frame n frame) (ap length tag.shown_is ∙ length-painted frame family.edge family.border word print plane) ∙ tag.prints.planes

  -- the painter's own plane is lit
  pub shown_lit : Lit shown frame print.light family quad shown frame
  shown_lit = record {
    wide = refl;
    high = refl;
    planes = same_frame;
    samples = lit_same shown frame ∙ ap (λ (p : List ℕ). is_lit own_plane frame print.light family own_quad p frame) tag.shown_is
        ∙ own_lit plane frame family codes id word print print_is tag.prints;
  }

  -- a quad that passes 8, 9 and 10 and at whose samples the painted plane shows the word, in a picture in which they are lit
  module _ (found : Quad) (passed : Taken frame family found)
      (shades : (k : ℕ) → k < samples family → get_or (levels_of shown frame family (axes_of found)) k 0 ≡ shade_of_bit print.light print.dark (bit word (samples family - 1 - k)))
      (picture : List ℕ) (seen : Frame) (lit : Lit shown frame print.light family found picture seen) (s : ℕ) (start : s < 4) where
    first : reading picture seen family codes found ≡ accepted (record { id = id; turn = 0; differing = misprints codes id word; corners = answer_corners found 0 })
    first =
        lit_read family codes id word print_is shown frame print.light print.dark (omega (arith, (Good-print tag.prints).style.apart)) found shades picture seen
        (Taken-at frame seen family found lit.wide lit.high passed) lit.samples

    -- start s of the quad, from start 0
    found_reading : reading picture seen family codes (turned_left s found) ≡ accepted (own_tag codes id word found s)
    unfolding turned_left
    found_reading =
        start_alike family codes check.table check.passes s start picture seen found
        ∙ ap (from_start s) first
        ∙ ap (λ (t : ℕ). accepted (record { id = id; turn = t % 4; differing = misprints codes id word; corners = print_order found })) (zero-add (4 - s))

    found_alone : decode_quad picture seen family codes (turned_left s found) ≡ accepted (own_tag codes id word found s)
    found_alone = quad_read picture seen family codes (turned_left s found) lit.planes check.table ∙ found_reading

    pub found_own : ReadsOwn family codes id word seen found picture s
    found_own = own_listed family codes id word seen found picture s found_alone

  -- the painter's own quad
  own_taken : Taken frame family quad
  own_taken = subst (Taken frame family) (sym tag.quad_is) (taken plane frame family codes id word print print_is tag.prints)

  own_shades : (k : ℕ) → k < samples family → get_or (levels_of shown frame family (axes_of quad)) k 0 ≡ shade_of_bit print.light print.dark (bit word (samples family - 1 - k))
  own_shades k h =
      ap₂ (λ (p : List ℕ) (q : Quad). get_or (levels_of p frame family (axes_of q)) k 0) tag.shown_is tag.quad_is
      ∙ level_at_lem plane frame family codes id word print print_is tag.prints k h

  pub Lit-own : (picture : List ℕ) (seen : Frame) → Lit shown frame print.light family quad picture seen → (s : ℕ) → s < 4 → ReadsOwn family codes id word seen quad picture s
  Lit-own = found_own quad own_taken own_shades
