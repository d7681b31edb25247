-- Ticket 4 of document 02: what 18 means, and that the list of a sheet's quads reads whole. Assumes nothing.
use mathlib.Core.Path.{◌≡◌, refl, sym, ap, ◌∙◌, subst}
use mathlib.Core.Bool.{Bool, true, false, not, cond}
use mathlib.Core.List.{List}
use Prim.Native.Nat.{ℕ, ◌<◌}
use native.Mathlib.Omega.{arith}
use borrow.Author.Tests.{ltb-true, ne_eqb, not-false}
use lib.Ieee.{Float}
use lib.ListN.{length, get_or}
use Rattle.refusals.specs.Outcome.{Outcome, accepted, refused}
use Rattle.refusals.specs.Pixels.{bad_frame}
use Rattle.refusals.specs.declared.Frame.{Frame}
use Rattle.points.specs.declared.Quad.{Quad}
use Rattle.points.specs.Numbers.{quad_at, corners_at}
use Rattle.tables.specs.Table.{bad_table}
use Rattle.tables.specs.declared.Family.{Family}
use Rattle.tag_families.specs.Families.{is_family, family_of, codes_of}
use Rattle.tag_families.proofs.Families.{families_pass}
use Rattle.grid.specs.Quads.{tag_count}
use Rattle.reader.specs.Reading.{Tag, reading}
use Rattle.reader.proofs.Answers.{Answers, reading_answers}
use Rattle.listing.specs.Repeated.{gives_id}
use Rattle.listing.specs.Listing.{quad_count, Listing, row_of, corners_of, row_at}
use Rattle.muosleap.specs.Quad.{decode_quad, decode_quad_in}
use Rattle.muosleap.specs.Quads.{decode_quads, decode_quads_in}
use Rattle.muosleap.proofs.ListReading.{answer_cases, answer_cases_in, family_known}
use Rattle.paper.specs.Others.{NoOther}
use Rattle.paper.specs.Demand3.{print_order, own_turn, ReadsOwn}
use Rattle.paper.specs.Repeated.{ListedRow, EachOnce, Repeated}
use Rattle.paper.proofs.Listed.{list_says, listed_row}
use Rattle.paper.proofs.Demand3.{demand_3}
use Rattle.paper.proofs.Sheet.{clean_tag, Sheets-read}

-- no refusal is an answer
pub refused_not : {A : Type 0} (n : ℕ) (a : A) (X : Type 0) → refused n ≡ accepted a → X
refused_not n a X e = let z : ◌≡◌ {A = ℕ} 0 1 = cc in absurd (omega arith)

-- nor a refusal by another number
pub other_number : {A : Type 0} (n m : ℕ) → (n ≡ m → ⊥) → ◌≡◌ {A = Outcome A} (refused n) (refused m) → ⊥
other_number n m h e = h (cc)

-- ---- by family number

module _ (plane : List ℕ) (frame : Frame) (number : ℕ) (quads : List Float) (rows : List ℕ) (corners : List Float) (n i : ℕ) where
  abbrev result : Listing
  result = decode_quads_in plane frame number quads rows corners

  abbrev RowIn : Type 0
  RowIn = ListedRow (λ j. decode_quad_in plane frame number (quad_at quads j)) n i (row_at result.rows i) (corners_at result.corners i)

  pub row_in : result.answer ≡ accepted n → i < n → RowIn
  row_in a l =
      let known = ltb-true number 5 (family_known plane frame quads rows corners number n a) in
      let by = demand_3.by_number number known plane frame in
      let whole = by.1 quads rows corners in
      let lent = list_says plane frame (family_of number) (codes_of number) quads rows corners n (sym (ap (λ (x : Listing). x.answer) whole) ∙ a) in
      subst (λ (x : Listing). ListedRow (λ j. decode_quad_in plane frame number (quad_at quads j)) n i (row_at x.rows i) (corners_at x.corners i)) (sym whole)
      (subst (λ (read : ℕ → Outcome Tag). let x = decode_quads plane frame (family_of number) (codes_of number) quads rows corners in ListedRow read n i (row_at x.rows i) (corners_at x.corners i))
      (λ k j. sym (by.0 (quad_at quads j)) k)
      (listed_row plane frame (family_of number) (codes_of number) quads rows corners n lent i l))

-- ---- 18 in rows only

-- a quad: after 1 and 6 its reading, which is refused by 8 to 13
past_6 : (one six : Bool) (o : Outcome Tag) → (six ≡ false → o ≡ refused 18 → ⊥) → cond one (refused 1) (cond six (refused 6) o) ≡ refused 18 → ⊥
past_6 true six o h e = other_number 1 18 (λ z. omega arith) e
past_6 false true o h e = other_number 6 18 (λ z. omega arith) e
past_6 false false o h e = h refl e

no_18 : (plane : List ℕ) (frame : Frame) (family : Family) (codes : List ℕ) (quad : Quad) → bad_table family codes ≡ false → reading plane frame family codes quad ≡ refused 18 → ⊥
no_18 plane frame family codes quad t e = omega (arith, (subst (Answers codes) e (reading_answers family codes t quad plane frame)).1)

one_quad : (plane : List ℕ) (frame : Frame) (family : Family) (codes : List ℕ) (quad : Quad) → decode_quad plane frame family codes quad ≡ refused 18 → ⊥
unfolding decode_quad
one_quad plane frame family codes quad = past_6 (bad_frame (length plane) frame) (bad_table family codes) (reading plane frame family codes quad) (no_18 plane frame family codes quad)

one_quad_in : (plane : List ℕ) (frame : Frame) (number : ℕ) (quad : Quad) → decode_quad_in plane frame number quad ≡ refused 18 → ⊥
unfolding decode_quad_in
one_quad_in plane frame number quad =
    past_6 (bad_frame (length plane) frame) (not (is_family number)) (reading plane frame (family_of number) (codes_of number) quad)
    (λ f. no_18 plane frame (family_of number) (codes_of number) quad (families_pass number (ltb-true number 5 (not-false (is_family number) f))))

-- a list: after 1, 6 and 16 it is accepted
whole_list : (plane : List ℕ) (frame : Frame) (family : Family) (codes : List ℕ) (quads : List Float) (rows : List ℕ) (corners : List Float)
    → (decode_quads plane frame family codes quads rows corners).answer ≡ refused 18 → ⊥
whole_list plane frame family codes quads rows corners =
    answer_cases plane frame quads rows corners family codes (λ o. o ≡ refused 18 → ⊥)
    (other_number 1 18 (λ z. omega arith)) (other_number 6 18 (λ z. omega arith)) (other_number 16 18 (λ z. omega arith)) (λ e. refused_not 18 (quad_count (length quads)) ⊥ (sym e))

whole_list_in : (plane : List ℕ) (frame : Frame) (number : ℕ) (quads : List Float) (rows : List ℕ) (corners : List Float)
    → (decode_quads_in plane frame number quads rows corners).answer ≡ refused 18 → ⊥
whole_list_in plane frame number quads rows corners =
    answer_cases_in plane frame quads rows corners number (λ o. o ≡ refused 18 → ⊥)
    (other_number 1 18 (λ z. omega arith)) (other_number 6 18 (λ z. omega arith)) (other_number 16 18 (λ z. omega arith)) (λ e. refused_not 18 (quad_count (length quads)) ⊥ (sym e))

-- ---- a sheet

-- a list of a sheet's quads, each once, on a picture on which each of them reads as its own tag
module _ (family : Family) (codes : List ℕ) (written : List Float) (tags : ℕ) (picture : List ℕ) (seen : Frame) (quads : List Float) (rows : List ℕ) (corners : List Float) (n : ℕ)
    (a : (decode_quads picture seen family codes quads rows corners).answer ≡ accepted n) (each : EachOnce written quads tags n)
    (own : (i : ℕ) → i < n → ReadsOwn family codes (each.position i) (get_or codes (each.position i) 0) seen (quad_at written (each.position i)) picture (each.start i)) where
  -- no other quad of the list is of this position
  none_other : (i : ℕ) → i < n → NoOther (λ j. decode_quad picture seen family codes (quad_at quads j)) n i (each.position i)
  none_other i l j m d =
      ap (gives_id (each.position i)) (ap (decode_quad picture seen family codes) (each.quad j m) ∙ (own j m).alone)
      ∙ ne_eqb (each.position j) (each.position i) (λ e. d (each.once j i m l e))

  pub whole : (i : ℕ) → i < n → let position = each.position i in
      let tag : Tag = record { id = position; turn = own_turn (each.start i); differing = 0; corners = print_order (quad_at written position) } in
      (row_at (decode_quads picture seen family codes quads rows corners).rows i ≡ row_of (accepted tag)) × (corners_at (decode_quads picture seen family codes quads rows corners).corners i ≡ corners_of (accepted tag))
  whole i l =
      let o = (own i l).listed quads rows corners n i a l (each.quad i l) (none_other i l) in
      let tag = clean_tag codes (each.position i) (quad_at written (each.position i)) (each.start i) in
      (o.0 ∙ ap (λ (t : Tag). row_of (accepted t)) tag, o.1 ∙ ap (λ (t : Tag). corners_of (accepted t)) tag)

pub repeated : Repeated
repeated = record {
  list = λ plane frame family codes quads rows corners n i a l.
      listed_row plane frame family codes quads rows corners n (list_says plane frame family codes quads rows corners n a) i l;
  list_in = row_in;
  one_quad = one_quad;
  one_quad_in = one_quad_in;
  whole_list = whole_list;
  whole_list_in = whole_list_in;
  sheet = λ family codes grid print plane frame output shown written took passes quads rows corners n a each.
      whole family codes written (tag_count grid) shown frame quads rows corners n a each
      (λ i l. (Sheets-read.reads family codes grid print plane frame output shown written took passes (each.position i) (each.known i l) (each.start i) (each.start_lt i l)).own);
}
