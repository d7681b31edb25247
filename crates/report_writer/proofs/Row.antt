-- The first of some rows, with its corner numbers: what it says, and when it stands. Assumes nothing.
use mathlib.Core.Path.{◌≡◌, refl, sym, ap, ap₂, ◌∙◌, subst}
use mathlib.Core.Bool.{Bool, true, false, true≢false, ◌&&◌, and_assoc, and-true}
use mathlib.Core.List.{List, [], ◌∷◌, ◌++◌}
use Prim.Native.Nat.{ℕ, zero, suc, ◌≤◌}
use native.Mathlib.Nat.{not-suc-le-zero, le_of_suc-le-suc}
use borrow.Author.Tests.{eqb-true, eq-eqb, ne_eqb}
use lib.Dec.{eqb}
use lib.Ieee.{Float, nan, inf, fin, is_nan, binary32, to_bits, of_bits}
use lib.ListN.{length, get_or, drop, replicate}
use Rattle.lists.specs.Tab.{tabulate}
use Rattle.std.specs.Cmp.{both_ways, first_so}
use Rattle.refusals.specs.Outcome.{Outcome, refused}
use Rattle.points.specs.declared.Quad.{Quad}
use Rattle.points.specs.Numbers.{quad_size, quad_at, numbers_of}
use Rattle.reader.specs.Reading.{Tag}
use Rattle.listing.specs.Listing.{row_size, row_of, corners_of}
use Rattle.report.specs.Reading.{row_refusal, good_row}
use Rattle.report.specs.Rows.{same, bits_of, front_row}
use Rattle.report.specs.Steps.{begins_with, row_stands}
use Rattle.report.proofs.Same.{begins_with_lem}
use Rattle.report.proofs.Good.{Good, good_row_lem}
use Rattle.report_writer.specs.Steps.{tag_row, no_bits, no_corners}

-- ---- what it says

module _ (rows : List ℕ) (corners : List Float) where
  abbrev pub front_tag : Outcome Tag
  front_tag = tag_row (get_or rows 1 0) (get_or rows 2 0) (get_or rows 3 0) (quad_at corners 0)

  pub front_tag_lem : get_or rows 0 0 ≡ 0 → front_row rows corners ≡ front_tag
  front_tag_lem e = simp (eq-eqb (get_or rows 0 0) 0 e)

  pub front_refused : (get_or rows 0 0 ≡ 0 → ⊥) → front_row rows corners ≡ refused (get_or rows 0 0)
  front_refused d = simp (ne_eqb (get_or rows 0 0) 0 d)

  pub stands_good : row_stands rows corners ≡ true → good_row (front_row rows corners) ≡ true
  unfolding row_stands
  stands_good h =
      let row = front_row rows corners in
      first_so (good_row row) (begins_with (row_of row) rows && begins_with (bits_of (corners_of row)) (bits_of corners)) h

  pub tag_good : row_stands rows corners ≡ true → get_or rows 0 0 ≡ 0 → Good front_tag
  tag_good h e = subst Good (front_tag_lem e) (good_row_lem (front_row rows corners) (stands_good h))

  pub refusal_good : row_stands rows corners ≡ true → (get_or rows 0 0 ≡ 0 → ⊥) → Good (refused (get_or rows 0 0))
  refusal_good h d = subst Good (front_refused d) (good_row_lem (front_row rows corners) (stands_good h))

-- ---- when it stands

-- the first n elements one by one, and the rest
pub firsts {ℓ} : {A : Type ℓ} (n : ℕ) (l : List A) (d : A) → n ≤ length l → l ≡ tabulate n (λ i. get_or l i d) ++ drop n l
unfolding tabulate
firsts zero l d h = refl
firsts (suc n) [] d h = absurd (not-suc-le-zero h)
firsts (suc n) (a ∷ l) d h = ap (λ (x : List _). a ∷ x) (firsts n l d (le_of_suc-le-suc h))

zero_behind : (n : ℕ) → eqb 0 n ≡ eqb n 0
zero_behind n = both_ways (eqb 0 n) (eqb n 0) (λ h. eq-eqb n 0 (sym (eqb-true 0 n h))) (λ h. eq-eqb 0 n (sym (eqb-true n 0 h)))

-- the zeros of a refused row and of its corners
row_zero : (n b c d : ℕ) (l : List ℕ) → begins_with (n ∷ 0 ∷ 0 ∷ 0 ∷ []) (n ∷ b ∷ c ∷ d ∷ l) ≡ eqb b 0 && (eqb c 0 && eqb d 0)
unfolding same
row_zero n b c d l = simp (eq-eqb n n refl, zero_behind b, zero_behind c, zero_behind d, and-true)

-- a NaN has bits
pub nan_bits : (x : Float) → is_nan x ≡ true → no_bits x ≡ false
unfolding is_nan to_bits
nan_bits nan h = refl
nan_bits (inf s) h = absurd (true≢false (sym h))
nan_bits (fin s m e) h = absurd (true≢false (sym h))

zero_bits : to_bits binary32 (of_bits binary32 0) ≡ 0
unfolding to_bits of_bits
zero_bits = refl

corners_zero : (quad : Quad) (l : List ℕ) → begins_with (bits_of (replicate quad_size (of_bits binary32 0))) (bits_of (numbers_of quad) ++ l) ≡ no_corners quad
unfolding same
corners_zero quad l = simp (zero_bits, zero_behind, and-true, and_assoc)

module _ (rows : List ℕ) (corners : List Float) (four : row_size ≤ length rows) (eight : quad_size ≤ length corners) where
  abbrev quad : Quad
  quad = quad_at corners 0

  rows_are : rows ≡ (get_or rows 0 0 ∷ get_or rows 1 0 ∷ get_or rows 2 0 ∷ get_or rows 3 0 ∷ []) ++ drop row_size rows
  unfolding tabulate
  rows_are = firsts row_size rows 0 four

  corners_are : corners ≡ numbers_of quad ++ drop quad_size corners
  unfolding tabulate
  corners_are = firsts quad_size corners nan eight

  bits_are : bits_of corners ≡ bits_of (numbers_of quad) ++ bits_of (drop quad_size corners)
  bits_are = ap bits_of corners_are

  -- a tag's row and its corners are the numbers that they were read from
  pub tag_stands : get_or rows 0 0 ≡ 0 → good_row (front_tag rows corners) ≡ row_stands rows corners
  unfolding row_stands
  tag_stands e =
      let tag = front_tag rows corners in
      let row_same : begins_with (row_of tag) rows ≡ true = ap (begins_with (row_of tag)) (rows_are ∙ ap (λ (n : ℕ). (n ∷ get_or rows 1 0 ∷ get_or rows 2 0 ∷ get_or rows 3 0 ∷ []) ++ drop row_size rows) e) ∙ begins_with_lem (row_of tag) (drop row_size rows) in
      let bits_same : begins_with (bits_of (corners_of tag)) (bits_of corners) ≡ true = ap (begins_with (bits_of (corners_of tag))) bits_are ∙ begins_with_lem (bits_of (numbers_of quad)) (bits_of (drop quad_size corners)) in
      sym (ap (λ (row : Outcome Tag). good_row row && (begins_with (row_of row) rows && begins_with (bits_of (corners_of row)) (bits_of corners))) (front_tag_lem rows corners e)
      ∙ ap₂ (λ (x y : Bool). good_row tag && (x && y)) row_same bits_same ∙ and-true (good_row tag))

  -- the other numbers of a refused row are zero, and its corner numbers have no bit
  pub refusal_stands : (get_or rows 0 0 ≡ 0 → ⊥)
      → row_refusal (get_or rows 0 0) && (eqb (get_or rows 1 0) 0 && (eqb (get_or rows 2 0) 0 && (eqb (get_or rows 3 0) 0 && no_corners quad))) ≡ row_stands rows corners
  unfolding row_stands
  refusal_stands d =
      let n = get_or rows 0 0 in
      let row_same = ap (begins_with (row_of (refused n))) rows_are ∙ row_zero n (get_or rows 1 0) (get_or rows 2 0) (get_or rows 3 0) (drop row_size rows) in
      let bits_same = ap (begins_with (bits_of (corners_of (refused n)))) bits_are ∙ corners_zero quad (bits_of (drop quad_size corners)) in
      sym (ap (λ (row : Outcome Tag). good_row row && (begins_with (row_of row) rows && begins_with (bits_of (corners_of row)) (bits_of corners))) (front_refused rows corners d)
      ∙ ap₂ (λ (x y : Bool). row_refusal n && (x && y)) row_same bits_same ∙ simp and_assoc)
