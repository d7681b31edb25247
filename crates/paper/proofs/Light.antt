-- Ticket 8 of document 02: of single tags Lit has it, of a sheet's tags Sheet, of their lists Repeated; here, that all starts are lit alike, and all
-- of it together. Assumes nothing.
use mathlib.Core.Path.{◌≡◌, refl, sym, ap, ap₂, ◌∙◌, subst}
use mathlib.Core.Bool.{Bool, ◌&&◌}
use mathlib.Core.List.{List}
use Prim.Native.Nat.{ℕ, zero, suc, ◌+◌, ◌-◌, ◌/◌, ◌<◌}
use lib.Dec.{leb, eqb}
use lib.ListN.{length, get_or}
use Rattle.lists.specs.Each.{each}
use Rattle.std.specs.Cmp.{both_ways}
use Rattle.lists.proofs.Each.{each_at, each_of}
use Rattle.lists.proofs.Tab.{length-tabulate, get_or-tabulate}
use Rattle.refusals.specs.declared.Frame.{Frame}
use Rattle.points.specs.declared.Quad.{Quad}
use Rattle.points.specs.Turned.{turned_once, turned_left}
use Rattle.points.specs.Numbers.{quad_at}
use Rattle.tables.specs.declared.Family.{Family}
use Rattle.word.specs.Word.{source}
use Rattle.word.proofs.Turn.{sum-turn}
use Rattle.places.specs.Place.{axes_of}
use Rattle.levels.specs.Levels.{middle_of}
use Rattle.levels.proofs.Order.{reordered, least_reordered, greatest_reordered}
use Rattle.levels.proofs.Reorder.{Reorders, reorders_lt, reorders_onto}
use Rattle.grid.specs.Quads.{tag_count}
use Rattle.reader.specs.Reading.{levels_of}
use Rattle.reader.proofs.Starts.{levels_size, levels_turned}
use Rattle.paper.specs.Light.{clears, clears_at, least_contrast, lit_levels, is_lit, Light}
use Rattle.paper.proofs.Lit.{shown_lit, Lit-own}
use Rattle.paper.proofs.Sheet.{tag_lit, sheet_lit, clean_tag}
use Rattle.paper.proofs.Repeated.{whole}

-- ---- every start takes the same samples, in another order

module _ (light : ℕ) (p l : List ℕ) (σ : ℕ → ℕ) (same : length p ≡ length l) (keeps : Reorders (length l) σ) where
  abbrev cleared : ℕ → Bool
  cleared = clears_at (middle_of l) light p l

  abbrev cleared' : ℕ → Bool
  cleared' = clears_at (middle_of (reordered σ l)) light (reordered σ p) (reordered σ l)

  size : length (reordered σ l) ≡ length l
  size = length-tabulate (length l) (λ k. get_or l (σ k) 0)

  middle : middle_of (reordered σ l) ≡ middle_of l
  middle = ap₂ (λ (x y : ℕ). (x + y + 1) / 2) (least_reordered l σ keeps) (greatest_reordered l σ keeps)

  moved : (k : ℕ) → k < length l → cleared' k ≡ cleared (σ k)
  moved k h =
      ap (λ (m : ℕ). clears_at m light (reordered σ p) (reordered σ l) k) middle
      ∙ ap₂ (λ (a b : ℕ). clears (middle_of l) (eqb a light) b)
      (get_or-tabulate (length p) (λ j. get_or p (σ j) 0) k 0 (subst (λ (n : ℕ). k < n) (sym same) h)) (get_or-tabulate (length l) (λ j. get_or l (σ j) 0) k 0 h)

  all_cleared : each (length (reordered σ l)) cleared' ≡ each (length l) cleared
  all_cleared =
      both_ways (each (length (reordered σ l)) cleared') (each (length l) cleared)
      (λ all. each_of (length l) cleared (λ j h.
      let s = reorders_onto (length l) σ keeps j h in
      ap cleared (sym s.to) ∙ sym (moved s.k s.below) ∙ each_at (length (reordered σ l)) cleared' all s.k (subst (λ (n : ℕ). s.k < n) (sym size) s.below)))
      (λ all. each_of (length (reordered σ l)) cleared' (λ k h.
      let h' : k < length l = subst (λ (n : ℕ). k < n) size h in
      moved k h' ∙ each_at (length l) cleared all (σ k) (reorders_lt (length l) σ keeps k h')))

  lit_reordered : lit_levels (middle_of (reordered σ l)) light (reordered σ p) (reordered σ l) ≡ lit_levels (middle_of l) light p l
  unfolding lit_levels
  lit_reordered = ap₂ ◌&&◌ (ap₂ (λ (x y : ℕ). leb least_contrast (y - x)) (least_reordered l σ keeps) (greatest_reordered l σ keeps)) all_cleared

module _ (shown : List ℕ) (frame : Frame) (light : ℕ) (family : Family) (quad : Quad) (picture : List ℕ) (seen : Frame) where
  lit_turned : (q : Quad) → is_lit shown frame light family (turned_once q) picture seen ≡ is_lit shown frame light family q picture seen
  unfolding is_lit
  lit_turned q =
      let n = levels_size family q seen picture in
      ap₂ (λ (p l : List ℕ). lit_levels (middle_of l) light p l) (levels_turned family q frame shown) (levels_turned family q seen picture)
      ∙ lit_reordered light (levels_of shown frame family (axes_of q)) (levels_of picture seen family (axes_of q)) (source family.edge)
      (levels_size family q frame shown ∙ sym n) (subst (λ (m : ℕ). Reorders m (source family.edge)) (sym n) (sum-turn family.edge))

  lit_start : (s : ℕ) → is_lit shown frame light family (turned_left s quad) picture seen ≡ is_lit shown frame light family quad picture seen
  unfolding turned_left
  lit_start zero = refl
  lit_start (suc s) = lit_turned (turned_left s quad) ∙ lit_start s

-- ---- the whole ticket

pub light : Light
light = record {
  tags = λ family codes id word plane frame print quad shown h picture seen lit s start. Lit-own family codes id word plane frame print quad shown h picture seen lit s start;
  sheet_tags = λ family codes grid print plane frame quads shown written took passes position known picture seen lit s start. (
    tag_lit family codes grid print plane frame quads shown written took position known passes picture seen lit s start,
    clean_tag codes position (quad_at written position) s,
  );
  sheet_list = λ family codes grid print plane frame output shown written took passes picture seen quads rows corners n a each lit.
      whole family codes written (tag_count grid) picture seen quads rows corners n a each
      (λ i l. tag_lit family codes grid print plane frame output shown written took (each.position i) (each.known i l) passes picture seen (lit i l) (each.start i) (each.start_lt i l));
  own_plane = λ family codes id word plane frame print quad shown h. shown_lit family codes id word plane frame print quad shown h;
  own_sheet = λ family codes grid print plane frame quads shown written took passes position known. sheet_lit family codes grid print plane frame quads shown written took position known passes;
  any_start = lit_start;
}
