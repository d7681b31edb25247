-- Ticket 2 of document 02: what the number of differing modules means, and that the readers pass it on. Assumes nothing.
use mathlib.Core.Path.{◌≡◌, refl, sym, ap, ◌∙◌, subst}
use mathlib.Core.Bool.{Bool, true, false, cond}
use mathlib.Core.List.{List}
use Prim.Native.Nat.{ℕ, ◌≤◌}
use native.Mathlib.Nat.{zero-add}
use native.Mathlib.Omega.{arith}
use borrow.Author.Tests.{ltb-true, ltb-false}
use lib.Dec.{ltb}
use lib.ListN.{length, get_or}
use Rattle.std.proofs.lemmas.Bool.{or_parts}
use Rattle.refusals.specs.Outcome.{Outcome, accepted, refused}
use Rattle.refusals.specs.Pixels.{bad_frame}
use Rattle.refusals.specs.declared.Frame.{Frame}
use Rattle.points.specs.declared.Quad.{Quad}
use Rattle.tables.specs.Table.{bad_table, bad_border, bad_codes}
use Rattle.tables.specs.declared.Family.{Family}
use Rattle.tables.proofs.Table.{good_codes}
use Rattle.tag_families.specs.Families.{family_of, codes_of}
use Rattle.word.specs.Word.{turns, differing}
use Rattle.places.specs.Place.{axes_of}
use Rattle.levels.specs.Levels.{code_of}
use Rattle.search.specs.Search.{Seen, search}
use Rattle.search.proofs.Search.{Means, search_means}
use Rattle.reader.specs.Reading.{levels_of, Tag, with_corners, tag_of, reading}
use Rattle.reader.proofs.Order.{reading_cases}
use Rattle.muosleap.specs.Codes.{best_tag}
use Rattle.muosleap.specs.Quad.{decode_quad, decode_quad_in}
use Rattle.muosleap.proofs.Order.{quad_1, quad_6, quad_read, in_1, in_6}
use Rattle.paper.proofs.Demand3.{demand_3}
use Rattle.paper.proofs.Repeated.{refused_not, repeated}
use Rattle.paper.specs.HowFarOff.{distance, FewestAnswered, PassedOn, HowFarOff}

-- ---- the search

best_tag_is : (word threshold : ℕ) (codes : List ℕ) (edge : ℕ) → bad_codes edge threshold codes ≡ false → best_tag word threshold codes edge ≡ search word threshold codes edge
unfolding best_tag
best_tag_is word threshold codes edge p = simp p

-- the codes of a table that refusal 6 lets through
coded : (family : Family) (codes : List ℕ) → bad_table family codes ≡ false → bad_codes family.edge family.hamming_distance codes ≡ false
unfolding bad_table
coded family codes e = (or_parts (bad_border family.border) (bad_codes family.edge family.hamming_distance codes) e).1

module _ (word threshold : ℕ) (codes : List ℕ) (edge : ℕ) where
  good : (seen : Seen) → best_tag word threshold codes edge ≡ accepted seen → (bad_codes edge threshold codes ≡ false) × (search word threshold codes edge ≡ accepted seen)
  unfolding best_tag
  good seen = go (bad_codes edge threshold codes) refl
    where
      go : (b : Bool) → bad_codes edge threshold codes ≡ b → cond b (refused 6) (search word threshold codes edge) ≡ accepted seen
          → (bad_codes edge threshold codes ≡ false) × (search word threshold codes edge ≡ accepted seen)
      go true p e = refused_not 6 seen ((bad_codes edge threshold codes ≡ false) × (search word threshold codes edge ≡ accepted seen)) e
      go false p e = (p, e)

  fewest_answered : (seen : Seen) → best_tag word threshold codes edge ≡ accepted seen → FewestAnswered threshold codes edge word seen
  fewest_answered seen e =
      let g = good seen e in
      let t = (good_codes edge threshold codes g.0).near.most in
      let m = subst (Means threshold codes edge 4 0 word) g.1 (search_means threshold codes edge (omega arith) word) in
      let q : seen.turn ≡ m.q = m.turned ∙ zero-add m.q in
      let at : (k : ℕ) → differing (turns edge m.q word) (get_or codes k 0) ≡ distance edge codes word seen.turn k =
      λ k. ap (λ (r : ℕ). distance edge codes word r k) (sym q) in
      record {
        known = m.code.inside;
        turned = omega (arith, q, m.in_time);
        counted = m.counted ∙ at seen.id;
        below = omega (arith, m.counted, m.code.near);
        most = omega (arith, m.counted, m.code.near);
        fewest = λ k l. omega (arith, m.counted, m.code.least k l, at k);
      }

-- ---- the quad reader

-- what the search gave, from a tag
abbrev seen_of : Outcome Tag → Outcome Seen
seen_of (accepted tag) = accepted (record { id = tag.id; turn = tag.turn; differing = tag.differing })
seen_of (refused n) = refused n

seen_with_corners : (quad : Quad) (o : Outcome Seen) → seen_of (with_corners quad o) ≡ o
seen_with_corners quad (accepted seen) = refl
seen_with_corners quad (refused n) = refl

module _ (plane : List ℕ) (frame : Frame) (family : Family) (codes : List ℕ) (quad : Quad) (tag : Tag) (table : bad_table family codes ≡ false) where
  abbrev Passed : Type 0
  Passed = PassedOn plane frame family codes quad tag

  from_word : (o : Outcome ℕ) → code_of (levels_of plane frame family (axes_of quad)) 10 3 ≡ o → tag_of family codes quad o ≡ accepted tag → Passed
  unfolding tag_of
  from_word (accepted w) p e =
      record {
        word = w;
        sampled = p;
        searched = best_tag_is w family.hamming_distance codes family.edge (coded family codes table)
            ∙ sym (seen_with_corners quad (search w family.hamming_distance codes family.edge)) ∙ ap seen_of e;
      }
  from_word (refused n) p e = refused_not n tag Passed e

  from_reading : reading plane frame family codes quad ≡ accepted tag → Passed
  from_reading =
      reading_cases plane frame family codes quad (λ o. o ≡ accepted tag → Passed)
      (refused_not 8 tag Passed) (refused_not 9 tag Passed) (refused_not 10 tag Passed)
      (from_word (code_of (levels_of plane frame family (axes_of quad)) 10 3) refl)

passed_on : (plane : List ℕ) (frame : Frame) (family : Family) (codes : List ℕ) (quad : Quad) (tag : Tag)
    → decode_quad plane frame family codes quad ≡ accepted tag → PassedOn plane frame family codes quad tag
passed_on plane frame family codes quad tag e = framed (bad_frame (length plane) frame) refl
  where
    tabled : bad_frame (length plane) frame ≡ false → (t : Bool) → bad_table family codes ≡ t → PassedOn plane frame family codes quad tag
    tabled f true t = refused_not 6 tag (PassedOn plane frame family codes quad tag) (sym (quad_6 plane frame family codes quad f t) ∙ e)
    tabled f false t = from_reading plane frame family codes quad tag t (sym (quad_read plane frame family codes quad f t) ∙ e)

    framed : (f : Bool) → bad_frame (length plane) frame ≡ f → PassedOn plane frame family codes quad tag
    framed true f = refused_not 1 tag (PassedOn plane frame family codes quad tag) (sym (quad_1 plane frame family codes quad f) ∙ e)
    framed false f = tabled f (bad_table family codes) refl

PassedOn-in : (plane : List ℕ) (frame : Frame) (number : ℕ) (quad : Quad) (tag : Tag)
    → decode_quad_in plane frame number quad ≡ accepted tag → PassedOn plane frame (family_of number) (codes_of number) quad tag
PassedOn-in plane frame number quad tag e = known (ltb number 5) refl
  where
    PassedIn : Type 0
    PassedIn = PassedOn plane frame (family_of number) (codes_of number) quad tag

    unknown : 5 ≤ number → (f : Bool) → bad_frame (length plane) frame ≡ f → PassedIn
    unknown h true f = refused_not 1 tag PassedIn (sym (in_1 plane frame number quad f) ∙ e)
    unknown h false f = refused_not 6 tag PassedIn (sym (in_6 plane frame number quad f h) ∙ e)

    known : (b : Bool) → ltb number 5 ≡ b → PassedIn
    known true b = passed_on plane frame (family_of number) (codes_of number) quad tag (sym ((demand_3.by_number number (ltb-true number 5 b) plane frame).0 quad) ∙ e)
    known false b = unknown (ltb-false number 5 b) (bad_frame (length plane) frame) refl

-- ---- the list reader: ticket 4 says what its rows are

pub how_far_off : HowFarOff
how_far_off = record {
  search = fewest_answered;
  quad = passed_on;
  quad_in = PassedOn-in;
  list = λ plane frame family codes quads rows corners n i a l. (repeated.list plane frame family codes quads rows corners n i a l).alone;
  list_in = λ plane frame number quads rows corners n i a l. (repeated.list_in plane frame number quads rows corners n i a l).alone;
}
