-- The painter's plane at the samples of its own quad: each shows its module's shade, and both shades are there. So it is lit as ticket 8 of 02 asks.
-- Assumes nothing.
use mathlib.Core.Path.{◌≡◌, refl, sym, ap, ap₂, ◌∙◌, subst}
use mathlib.Core.Logic.{◌⊎◌, inl, inr}
use mathlib.Core.Bool.{Bool, true, false, ◌&&◌, cond}
use mathlib.Core.List.{List}
use Prim.Native.Nat.{ℕ, ◌+◌, ◌-◌, ◌/◌, ◌<◌, ◌≤◌}
use native.Mathlib.Omega.{arith}
use borrow.Author.Tests.{le-leb, eq-eqb, ne_eqb}
use lib.Dec.{eqb}
use lib.ListN.{length, get_or}
use Rattle.lists.proofs.Tab.{get_or-tabulate}
use Rattle.lists.proofs.Each.{each_of}
use Rattle.refusals.specs.Pixels.{level_at}
use Rattle.refusals.specs.declared.Frame.{Frame}
use Rattle.points.specs.declared.Quad.{Quad}
use Rattle.tables.specs.declared.Family.{Family}
use Rattle.tables.proofs.Table.{good_table}
use Rattle.word.specs.Word.{bit, differing_in}
use Rattle.word.proofs.Differing.{in_square}
use Rattle.places.specs.Place.{axes_of}
use Rattle.levels.specs.Levels.{least_of, greatest_of, middle_of}
use Rattle.levels.proofs.Extremes.{Level, range_is}
use Rattle.likeness.specs.Likeness.{ones}
use Rattle.likeness.proofs.Apart.{Unlike, unlike}
use Rattle.painter.specs.Corners.{print_quad}
use Rattle.painter.specs.Printable.{Printable}
use Rattle.painter.specs.Tag.{painted}
use Rattle.painter.specs.declared.Print.{Print}
use Rattle.painter.proofs.Printable.{Good-print}
use Rattle.reader.specs.Reading.{samples, column, row, levels_of}
use Rattle.reader.proofs.Starts.{levels_size}
use Rattle.paper.specs.Light.{clearance, clears, clears_at, least_contrast, lit_levels, is_lit}
use Rattle.paper.proofs.Misprints.{Has, Has-one, Has-zero}
use Rattle.paper.proofs.Clear.{Taken, Printed}
use Rattle.paper.proofs.Corners.{print_small, print_within}
use Rattle.paper.proofs.Stays.{print_sampled, print_level}

-- a module's shade by its bit
abbrev pub shade_of_bit : (light dark b : ℕ) → ℕ
shade_of_bit light dark b = cond (eqb b 1) light dark

two_shades : (light dark b : ℕ) → (shade_of_bit light dark b ≡ light) ⊎ (shade_of_bit light dark b ≡ dark)
two_shades light dark b = go (eqb b 1)
  where
    go : (t : Bool) → (cond t light dark ≡ light) ⊎ (cond t light dark ≡ dark)
    go true = inl refl
    go false = inr refl

-- each of two shades that are 50 apart clears the middle between them
module _ (light dark level : ℕ) (apart : dark + 50 ≤ light) where
  shade_within : (level ≡ light) ⊎ (level ≡ dark) → (dark ≤ level) × (level ≤ light)
  shade_within (inl e) = (omega arith, omega arith)
  shade_within (inr e) = (omega arith, omega arith)

  shade_clears : (middle : ℕ) → middle ≡ (dark + light + 1) / 2 → (level ≡ light) ⊎ (level ≡ dark) → clears middle (eqb level light) level ≡ true
  shade_clears middle m (inl e) = ap (λ (t : Bool). clears middle t level) (eq-eqb level light e) ∙ le-leb (middle + clearance) level (omega arith)
  shade_clears middle m (inr e) =
      ap (λ (t : Bool). clears middle t level) (ne_eqb level light (λ f. omega arith)) ∙ le-leb (level + clearance) middle (omega arith)

module _ (plane : List ℕ) (frame : Frame) (family : Family) (codes : List ℕ) (id w : ℕ) (print : Print)
    (printed : Printed family codes id w) (p : Printable (length plane) frame family.edge family.border w print) where
  abbrev e : ℕ
  e = family.edge

  abbrev quad : Quad
  quad = print_quad family.edge family.border print

  abbrev picture : List ℕ
  picture = painted frame family.edge family.border w print plane

  abbrev levels : List ℕ
  levels = levels_of picture frame family (axes_of quad)

  pub taken : Taken frame family quad
  taken = record {
    small = print_small (length plane) frame family.edge family.border w print p;
    within = print_within (length plane) frame family.edge family.border w print p;
    sampled = print_sampled (length plane) frame family w print p;
  }

  pub level_at_lem : (k : ℕ) → k < samples family → get_or levels k 0 ≡ shade_of_bit print.light print.dark (bit w (samples family - 1 - k))
  unfolding levels_of
  level_at_lem k h =
      get_or-tabulate (samples family) (λ j. level_at picture frame (column (axes_of quad) family j) (row (axes_of quad) family j)) k 0 h
      ∙ print_level (length plane) frame family w print p plane refl k h

  size : length levels ≡ samples family
  size = levels_size family quad frame picture

  shades : (k : ℕ) → k < length levels → (get_or levels k 0 ≡ print.light) ⊎ (get_or levels k 0 ≡ print.dark)
  shades k h =
      subst (λ (v : ℕ). (v ≡ print.light) ⊎ (v ≡ print.dark)) (sym (level_at_lem k (subst (λ (n : ℕ). k < n) size h)))
      (two_shades print.light print.dark (bit w (samples family - 1 - k)))

  -- a place of the word shows at the sample counted from the other end
  shown : (x shade : ℕ) → shade_of_bit print.light print.dark x ≡ shade → Has (samples family) w x → Level levels shade
  shown x shade s h =
      let k = samples family - 1 - h.place in
      let back : samples family - 1 - k ≡ h.place = omega (arith, h.inside) in
      let l : k < samples family = omega (arith, h.inside) in
      record {
        k = k;
        within = subst (λ (n : ℕ). k < n) (sym size) l;
        is = level_at_lem k l ∙ ap (λ (n : ℕ). shade_of_bit print.light print.dark (bit w n)) back ∙ ap (shade_of_bit print.light print.dark) h.is ∙ s;
      }

  far : Unlike family.edge family.hamming_distance codes
  far = unlike family.edge family.hamming_distance codes printed.passes

  -- the misprinted modules lie in the square
  near : differing_in (samples family) w (get_or codes id 0) < family.hamming_distance
  near =
      let t = (good_table family codes printed.table).coded in
      subst (λ (d : ℕ). d < family.hamming_distance) (in_square family.edge t.edges.most w (get_or codes id 0) printed.square (t.small id printed.known)) printed.near

  lit : Level levels print.light
  unfolding ones
  lit = shown 1 print.light refl (Has-one (samples family) w (get_or codes id 0) family.hamming_distance near (far.light id printed.known))

  unlit : Level levels print.dark
  unfolding ones
  unlit = shown 0 print.dark refl (Has-zero (samples family) w (get_or codes id 0) family.hamming_distance near (far.dark id printed.known))

  apart : print.dark + 50 ≤ print.light
  apart = (Good-print p).style.apart

  range : (least_of levels ≡ print.dark) × (greatest_of levels ≡ print.light)
  range = range_is levels print.dark print.light (λ k h. shade_within print.light print.dark (get_or levels k 0) apart (shades k h)) unlit lit

  -- "greatest and least are at least 50 apart", and each level is 25 or more from the middle between them
  pub own_lit : is_lit picture frame print.light family quad picture frame ≡ true
  unfolding is_lit lit_levels
  own_lit =
      let middle : middle_of levels ≡ (print.dark + print.light + 1) / 2 = ap₂ (λ (x y : ℕ). (x + y + 1) / 2) range.0 range.1 in
      ap₂ ◌&&◌ (le-leb least_contrast (greatest_of levels - least_of levels) (omega (arith, apart, range.0, range.1)))
      (each_of (length levels) (clears_at (middle_of levels) print.light levels levels)
      (λ k h. shade_clears print.light print.dark (get_or levels k 0) apart (middle_of levels) middle (shades k h)))
