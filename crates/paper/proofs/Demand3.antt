-- Demand 3. Assumes nothing.
use mathlib.Core.Path.{◌≡◌, refl, sym, ap, ◌∙◌, subst}
use mathlib.Core.Bool.{Bool, true, false, cond}
use mathlib.Core.List.{List}
use Prim.Native.Nat.{ℕ, ◌<◌}
use borrow.Author.Tests.{lt-ltb}
use lib.Ieee.{Float}
use lib.ListN.{length}
use Rattle.refusals.specs.Outcome.{Outcome, accepted, refused}
use Rattle.refusals.specs.Pixels.{bad_frame}
use Rattle.refusals.specs.declared.Frame.{Frame}
use Rattle.points.specs.declared.Quad.{Quad}
use Rattle.points.specs.Turned.{turned_left}
use Rattle.points.specs.Numbers.{quad_at, corners_at}
use Rattle.tables.specs.declared.Family.{Family}
use Rattle.tag_families.specs.Families.{family_of, codes_of}
use Rattle.tag_families.proofs.Families.{families_pass}
use Rattle.reader.specs.Reading.{Tag}
use Rattle.listing.specs.Repeated.{gives_id, given_elsewhere, in_list}
use Rattle.listing.specs.Listing.{row_of, corners_of, row_at, but_turn}
use Rattle.listing.proofs.Repeated.{elsewhere_ext}
use Rattle.muosleap.specs.Quad.{decode_quad, decode_quad_in}
use Rattle.muosleap.specs.Quads.{decode_quads}
use Rattle.muosleap.proofs.Order.{quad_1, quad_read}
use Rattle.muosleap.proofs.ListReading.{in_is}
use Rattle.muosleap_paint.proofs.PaintTag.{paint_in}
use Rattle.paper.specs.Starts.{from_start}
use Rattle.paper.specs.Demand3.{Passes, OtherStart, Demand3}
use Rattle.paper.proofs.Starts.{start_alike}
use Rattle.paper.proofs.Given.{checked}
use Rattle.paper.proofs.Listed.{all, list_says}
use Rattle.paper.proofs.Lit.{shown_lit, Lit-own}

-- ---- any quad

any_quad_alike : (plane : List ℕ) (frame : Frame) (family : Family) (codes : List ℕ) (quad : Quad) → Passes family codes → (s : ℕ) → s < 4
    → decode_quad plane frame family codes (turned_left s quad) ≡ from_start s (decode_quad plane frame family codes quad)
any_quad_alike plane frame family codes quad passes s start = go (bad_frame (length plane) frame) refl
  where
    go : (f : Bool) → bad_frame (length plane) frame ≡ f → decode_quad plane frame family codes (turned_left s quad) ≡ from_start s (decode_quad plane frame family codes quad)
    go true p = quad_1 plane frame family codes (turned_left s quad) p ∙ ap (from_start s) (sym (quad_1 plane frame family codes quad p))
    go false p =
        let c = checked family codes passes in
        quad_read plane frame family codes (turned_left s quad) p c.table
        ∙ start_alike family codes c.table c.passes s start plane frame quad
        ∙ ap (from_start s) (sym (quad_read plane frame family codes quad p c.table))

-- ---- lists whose quads differ only in their starts

row_alike : (s : ℕ) (o : Outcome Tag) → but_turn (row_of o) ≡ but_turn (row_of (from_start s o))
row_alike s (accepted tag) = refl
row_alike s (refused n) = refl

corners_alike : (s : ℕ) (o : Outcome Tag) → corners_of o ≡ corners_of (from_start s o)
corners_alike s (accepted tag) = refl
corners_alike s (refused n) = refl

-- another start gives the same id, and is refused by 18 with it
id_alike : (s id : ℕ) (o : Outcome Tag) → gives_id id o ≡ gives_id id (from_start s o)
id_alike s id (accepted tag) = refl
id_alike s id (refused n) = refl

in_list_alike : (s : ℕ) (read other : List (Outcome Tag)) (i : ℕ) (o : Outcome Tag) → ((id : ℕ) → given_elsewhere read i id ≡ given_elsewhere other i id)
    → from_start s (in_list read i o) ≡ in_list other i (from_start s o)
in_list_alike s read other i (refused n) ids = refl
in_list_alike s read other i (accepted tag) ids = go (given_elsewhere read i tag.id) ∙ ap (λ (b : Bool). cond b (refused 18) (from_start s (accepted tag))) (ids tag.id)
  where
    go : (b : Bool) → from_start s (cond b (refused 18) (accepted tag)) ≡ cond b (refused 18) (from_start s (accepted tag))
    go true = refl
    go false = refl

module _ (plane : List ℕ) (frame : Frame) (family : Family) (codes : List ℕ) (passes : Passes family codes) where
  other_start : (a b : Quad) (o : OtherStart a b) → decode_quad plane frame family codes b ≡ from_start o.start (decode_quad plane frame family codes a)
  other_start a b o =
      ap (decode_quad plane frame family codes) o.turned ∙ any_quad_alike plane frame family codes a passes o.start o.start_lt

  lists_alike : (quads quads' : List Float) (rows rows' : List ℕ) (corners corners' : List Float) (n n' : ℕ)
      → (decode_quads plane frame family codes quads rows corners).answer ≡ accepted n → (decode_quads plane frame family codes quads' rows' corners').answer ≡ accepted n' → n ≡ n'
      → ((i : ℕ) → i < n → OtherStart (quad_at quads i) (quad_at quads' i)) → (i : ℕ) → i < n
      → (but_turn (row_at (decode_quads plane frame family codes quads rows corners).rows i) ≡ but_turn (row_at (decode_quads plane frame family codes quads' rows' corners').rows i))
      × (corners_at (decode_quads plane frame family codes quads rows corners).corners i ≡ corners_at (decode_quads plane frame family codes quads' rows' corners').corners i)
  lists_alike quads quads' rows rows' corners corners' n n' a a' same starts i l =
      let r = list_says plane frame family codes quads rows corners n a in
      let r' = list_says plane frame family codes quads' rows' corners' n' a' in
      let reads = all plane frame family codes quads in
      let reads' = all plane frame family codes quads' in
      let i' = subst (λ (m : ℕ). i < m) same l in
      let o = starts i l in
      let said = in_list reads i (decode_quad plane frame family codes (quad_at quads i)) in
      let ids : (id : ℕ) → given_elsewhere reads i id ≡ given_elsewhere reads' i id =
      λ id. elsewhere_ext reads reads' i id (r.size ∙ same ∙ sym r'.size)
      (λ p b. let p< : p < n = subst (λ (m : ℕ). p < m) r.size b in
      ap (gives_id id) (r.each p p<) ∙ id_alike (starts p p<).start id (decode_quad plane frame family codes (quad_at quads p))
      ∙ ap (gives_id id) (sym (other_start (quad_at quads p) (quad_at quads' p) (starts p p<)) ∙ sym (r'.each p (subst (λ (m : ℕ). p < m) same p<)))) in
      let other : from_start o.start said ≡ in_list reads' i (decode_quad plane frame family codes (quad_at quads' i)) =
      in_list_alike o.start reads reads' i (decode_quad plane frame family codes (quad_at quads i)) ids ∙ ap (in_list reads' i) (sym (other_start (quad_at quads i) (quad_at quads' i) o)) in (
        ap but_turn (r.row i l) ∙ row_alike o.start said ∙ ap (λ (x : Outcome Tag). but_turn (row_of x)) other ∙ ap but_turn (sym (r'.row i i')),
        r.corner i l ∙ corners_alike o.start said ∙ ap corners_of other ∙ sym (r'.corner i i'),
      )

-- ---- by family number

module _ (number : ℕ) (known : number < 5) (plane : List ℕ) (frame : Frame) where
  quad_in : (quad : Quad) → decode_quad_in plane frame number quad ≡ decode_quad plane frame (family_of number) (codes_of number) quad
  unfolding decode_quad_in decode_quad
  quad_in quad = simp (lt-ltb number 5 known, families_pass number known)

-- ---- the whole demand

pub demand_3 : Demand3
demand_3 = record {
  -- the painter's own plane is lit as ticket 8 of 02 asks
  painted_tags = λ family codes id word plane frame print quad shown h s start.
      Lit-own family codes id word plane frame print quad shown h shown frame (shown_lit family codes id word plane frame print quad shown h) s start;
  any_quad = any_quad_alike;
  any_lists = lists_alike;
  by_number = λ number known plane frame. (
    quad_in number known plane frame,
    λ quads rows corners. in_is plane frame quads rows corners number (lt-ltb number 5 known),
    λ word print. paint_in plane frame number word print (lt-ltb number 5 known),
  );
}
