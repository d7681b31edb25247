-- What a list and outputs that refusal 16 lets through are like. Assumes nothing.
use mathlib.Core.Path.{◌≡◌}
use mathlib.Core.Bool.{false, not, ◌||◌}
use Prim.Native.Nat.{ℕ, ◌*◌, ◌%◌, ◌≤◌}
use native.Mathlib.Omega.{arith}
use borrow.Author.Tests.{eq-eqb, eqb-true, le-ltb, ltb-false, not-false}
use lib.Dec.{eqb, ltb}
use Rattle.std.proofs.lemmas.Bool.{or_parts}
use Rattle.points.specs.Numbers.{quad_size}
use Rattle.listing.specs.Listing.{row_size, most_quads, quad_count, bad_list}

pub record Room (quads rows corners : ℕ) : Type 0 where
  pub whole : quads % quad_size ≡ 0
  pub few : quad_count quads ≤ most_quads
  pub row_room : row_size * quad_count quads ≤ rows
  pub corner_room : quad_size * quad_count quads ≤ corners

-- lists of t quads, and outputs with room for them
pub list_fits : (t rows corners : ℕ) → t ≤ most_quads → row_size * t ≤ rows → quad_size * t ≤ corners → bad_list (quad_size * t) rows corners ≡ false
unfolding bad_list
list_fits t rows corners few row_room corner_room =
    let whole : quad_size * t % quad_size ≡ 0 = omega arith in
    let count : quad_count (quad_size * t) ≡ t = omega arith in
    simp (eq-eqb (quad_size * t % quad_size) 0 whole, count, le-ltb most_quads t few, le-ltb rows (row_size * t) row_room, le-ltb corners (quad_size * t) corner_room)

pub good_list : {quads rows corners : ℕ} → bad_list quads rows corners ≡ false → Room quads rows corners
unfolding bad_list
good_list {quads} {rows} {corners} e =
    let a = eqb (quads % quad_size) 0 in
    let b = ltb most_quads (quad_count quads) in
    let c = ltb rows (row_size * quad_count quads) in
    let d = ltb corners (quad_size * quad_count quads) in
    let e₁ = (or_parts (not a) (b || (c || d)) e).1 in
    let e₂ = (or_parts b (c || d) e₁).1 in
    record {
      whole = eqb-true (quads % quad_size) 0 (not-false a (or_parts (not a) (b || (c || d)) e).0);
      few = ltb-false most_quads (quad_count quads) (or_parts b (c || d) e₁).0;
      row_room = ltb-false rows (row_size * quad_count quads) (or_parts c d e₂).0;
      corner_room = ltb-false corners (quad_size * quad_count quads) (or_parts c d e₂).1;
    }
