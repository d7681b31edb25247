-- What the rows and corner numbers of an accepted list reading say of each quad: its reading alone, or 18 where another quad gives its id.
-- Assumes nothing.
use mathlib.Core.Path.{◌≡◌, refl, sym, ap, ◌∙◌, subst}
use mathlib.Core.Bool.{Bool, true, false, cond}
use mathlib.Core.List.{List}
use Prim.Native.Nat.{ℕ, ◌<◌}
use native.Mathlib.Omega.{arith}
use borrow.Author.Tests.{eq-eqb, eqb-true}
use lib.Ieee.{Float}
use lib.ListN.{length, get_or}
use Rattle.refusals.specs.Outcome.{Outcome, accepted, refused}
use Rattle.refusals.specs.declared.Frame.{Frame}
use Rattle.points.specs.declared.Quad.{Quad}
use Rattle.points.specs.Turned.{turned_left}
use Rattle.points.specs.Numbers.{quad_at, corners_at}
use Rattle.tables.specs.declared.Family.{Family}
use Rattle.reader.specs.Reading.{Tag}
use Rattle.reader.proofs.Answers.{Answers, reading_answers}
use Rattle.listing.specs.Repeated.{gives_id, given_elsewhere, in_list}
use Rattle.listing.specs.Listing.{quad_count, readings, Listing, row_of, corners_of, row_at}
use Rattle.listing.proofs.Listing.{row_is, corners_are, length-readings, reading_at}
use Rattle.listing.proofs.Repeated.{elsewhere_at, shared_18, alone_kept}
use Rattle.muosleap.specs.Quad.{decode_quad}
use Rattle.muosleap.specs.Quads.{decode_quads}
use Rattle.muosleap.proofs.Order.{quad_read}
use Rattle.muosleap.proofs.ListReading.{Accepted-means}
use Rattle.paper.specs.Others.{NoOther, Unshared, Shares}
use Rattle.paper.specs.Demand3.{own_tag, ReadsOwn}
use Rattle.paper.specs.Repeated.{ListedRow}

module _ (plane : List ℕ) (frame : Frame) (family : Family) (codes : List ℕ) (quads : List Float) where
  -- what the quad at place j reads as by itself
  abbrev pub alone : ℕ → Outcome Tag
  alone j = decode_quad plane frame family codes (quad_at quads j)

  abbrev pub all : List (Outcome Tag)
  all = readings plane frame family codes quads

  module _ (rows : List ℕ) (corners : List Float) (n : ℕ) where
    abbrev result : Listing
    result = decode_quads plane frame family codes quads rows corners

    -- an accepted list, quad by quad
    pub record Listed : Type 0 where
      pub size : length all ≡ n
      pub each : (j : ℕ) → j < n → get_or all j (refused 0) ≡ alone j
      pub answers : (j : ℕ) → j < n → Answers codes (alone j)
      pub row : (i : ℕ) → i < n → row_at result.rows i ≡ row_of (in_list all i (alone i))
      pub corner : (i : ℕ) → i < n → corners_at result.corners i ≡ corners_of (in_list all i (alone i))

    pub list_says : result.answer ≡ accepted n → Listed
    list_says a =
        let r = Accepted-means plane frame quads rows corners family codes n a in
        let among : (j : ℕ) → j < n → j < quad_count (length quads) = λ j l. subst (λ (m : ℕ). j < m) r.count l in
        let same : (j : ℕ) → _ = λ (j : ℕ). sym (quad_read plane frame family codes (quad_at quads j) r.good_frame r.good_table) in
        record {
          size = length-readings plane frame family codes quads ∙ sym r.count;
          each = λ j l. reading_at plane frame family codes quads j (among j l) ∙ same j;
          answers = λ j l. subst (Answers codes) (same j) (reading_answers family codes r.good_table (quad_at quads j) plane frame);
          row = λ i l. ap (λ (x : Listing). row_at x.rows i) r.outcome ∙ row_is plane frame family codes quads rows corners i (among i l)
              ∙ ap (λ (o : Outcome Tag). row_of (in_list all i o)) (same i);
          corner = λ i l. ap (λ (x : Listing). corners_at x.corners i) r.outcome ∙ corners_are plane frame family codes quads rows corners i (among i l)
              ∙ ap (λ (o : Outcome Tag). corners_of (in_list all i o)) (same i);
        }

    module _ (h : Listed) (i : ℕ) (l : i < n) where
      -- a quad that shares its id with no other is in the list what it is alone
      unshared : Unshared alone n i → in_list all i (alone i) ≡ alone i
      unshared u = go (alone i) refl
        where
          go : (o : Outcome Tag) → alone i ≡ o → in_list all i o ≡ o
          go (refused m) e = refl
          go (accepted tag) e =
              alone_kept all i tag.id tag refl
              (λ p b d. let p< : p < n = subst (λ (m : ℕ). p < m) h.size b in ap (gives_id tag.id) (h.each p p<) ∙ u tag e p p< d)

      shared : Shares alone n i → in_list all i (alone i) ≡ refused 18
      shared s =
          ap (in_list all i) s.own
          ∙ shared_18 all i s.tag.id s.tag refl (record {
            place = s.place;
            below = subst (λ (m : ℕ). s.place < m) (sym h.size) s.among;
            apart = s.other;
            gives = ap (gives_id s.tag.id) (h.each s.place s.among ∙ s.read_too) ∙ eq-eqb s.other_tag.id s.tag.id s.same;
          })

      -- the other quad of an 18
      other : (tag : Tag) → alone i ≡ accepted tag → given_elsewhere all i tag.id ≡ true → Shares alone n i
      other tag e g =
          let o = elsewhere_at all i tag.id g in
          let p< : o.place < n = subst (λ (m : ℕ). o.place < m) h.size o.below in
          go o.place p< o.apart (alone o.place) refl (ap (gives_id tag.id) (sym (h.each o.place p<)) ∙ o.gives)
        where
          go : (p : ℕ) → p < n → (p ≡ i → ⊥) → (q : Outcome Tag) → alone p ≡ q → gives_id tag.id q ≡ true → Shares alone n i
          go p b d (accepted other_tag) f y =
              record { tag = tag; own = e; place = p; among = b; other = d; other_tag = other_tag; read_too = f; same = eqb-true other_tag.id tag.id y }
          go p b d (refused m) f y = let z : ◌≡◌ {A = ℕ} 0 1 = cc in absurd (omega arith)

      only_shared : get_or (row_of (in_list all i (alone i))) 0 0 ≡ 18 → Shares alone n i
      only_shared z = go (alone i) refl (h.answers i l) z
        where
          go : (o : Outcome Tag) → alone i ≡ o → Answers codes o → get_or (row_of (in_list all i o)) 0 0 ≡ 18 → Shares alone n i
          go (refused m) e a y = absurd (omega arith)
          go (accepted tag) e a y = by (given_elsewhere all i tag.id) refl y
            where
              by : (b : Bool) → given_elsewhere all i tag.id ≡ b → get_or (row_of (cond b (refused 18) (accepted tag))) 0 0 ≡ 18 → Shares alone n i
              by true g x = other tag e g
              by false g x = absurd (omega arith)

      pub listed_row : ListedRow alone n i (row_at result.rows i) (corners_at result.corners i)
      listed_row = record {
        shared = λ s. (h.row i l ∙ ap row_of (shared s), h.corner i l ∙ ap corners_of (shared s));
        only_shared = λ z. only_shared (ap (λ (row : List ℕ). get_or row 0 0) (sym (h.row i l)) ∙ z);
        alone = λ u. (h.row i l ∙ ap row_of (unshared u), h.corner i l ∙ ap corners_of (unshared u));
      }

-- a start that reads alone as its own tag reads so in every list in which no other quad gives its id
pub own_listed : (family : Family) (codes : List ℕ) (id word : ℕ) (frame : Frame) (quad : Quad) (shown : List ℕ) (s : ℕ)
    → decode_quad shown frame family codes (turned_left s quad) ≡ accepted (own_tag codes id word quad s) → ReadsOwn family codes id word frame quad shown s
own_listed family codes id word frame quad shown s alone = record {
  alone = alone;
  listed = λ quads rows corners n i a l e none.
      let own = own_tag codes id word quad s in
      let o : decode_quad shown frame family codes (quad_at quads i) ≡ accepted own = ap (decode_quad shown frame family codes) e ∙ alone in
      let same : (tag : Tag) → decode_quad shown frame family codes (quad_at quads i) ≡ accepted tag → id ≡ tag.id = λ tag p. let q : accepted own ≡ accepted tag = sym o ∙ p in cc in
      let r = (listed_row shown frame family codes quads rows corners n (list_says shown frame family codes quads rows corners n a) i l
      ).alone (λ tag p. subst (NoOther (λ j. decode_quad shown frame family codes (quad_at quads j)) n i) (same tag p) none) in
      (r.0 ∙ ap row_of o, r.1 ∙ ap corners_of o);
}
