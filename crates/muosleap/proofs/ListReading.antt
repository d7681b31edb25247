-- The list reader's entries by the tests that a call fails or passes, what an accepted call says, and that a family number is its
-- table. Assumes nothing.
use mathlib.Core.Path.{◌≡◌, refl, sym, ap, ◌∙◌}
use mathlib.Core.Bool.{Bool, true, false, not, cond}
use mathlib.Core.List.{List}
use Prim.Native.Nat.{ℕ}
use native.Mathlib.Omega.{arith}
use borrow.Author.Tests.{ltb-true, not-false}
use lib.Ieee.{Float}
use lib.ListN.{length}
use Rattle.refusals.specs.Outcome.{Outcome, accepted, refused}
use Rattle.refusals.specs.Pixels.{bad_frame}
use Rattle.refusals.specs.declared.Frame.{Frame}
use Rattle.tables.specs.Table.{bad_table}
use Rattle.tables.specs.declared.Family.{Family}
use Rattle.tag_families.specs.Families.{is_family, family_of, codes_of}
use Rattle.tag_families.proofs.Families.{families_pass}
use Rattle.listing.specs.Listing.{quad_count, bad_list, Listing, listing_of, listing}
use Rattle.muosleap.specs.Quads.{decode_quads, decode_quads_in}

-- a call: its outputs, its tests for 1, 6 and 16, and what it comes to where it passes them
pub record Call : Type 0 where
  pub rows : List ℕ
  pub corners : List Float
  pub test_1 : Bool
  pub test_6 : Bool
  pub test_16 : Bool
  pub read : Listing

module _ (c : Call) where
  abbrev pub refusing : ℕ → Listing
  refusing n = listing_of (refused n) c.rows c.corners

  abbrev pub tested : Listing
  tested = cond c.test_1 (refusing 1) (cond c.test_6 (refusing 6) (cond c.test_16 (refusing 16) c.read))

  pub tested_on : c.test_1 ≡ false → c.test_6 ≡ false → c.test_16 ≡ false → c.read ≡ tested
  tested_on p q r = simp (p, q, r)

  -- what holds of the three refusals and of what is read holds of the call
  tested_cases : (P : Listing → Type 0) → P (refusing 1) → P (refusing 6) → P (refusing 16) → P c.read → P tested
  tested_cases P p1 p6 p16 p = go c.test_1 c.test_6 c.test_16
    where
      go : (a b d : Bool) → P (cond a (refusing 1) (cond b (refusing 6) (cond d (refusing 16) c.read)))
      go true b d = p1
      go false true d = p6
      go false false true = p16
      go false false false = p

  -- an accepted call passed all three
  passes : (n : ℕ) → tested.answer ≡ accepted n → (c.test_1 ≡ false) × (c.test_6 ≡ false) × (c.test_16 ≡ false)
  passes n = go c.test_1 c.test_6 c.test_16
    where
      go : (a b d : Bool) → (cond a (refusing 1) (cond b (refusing 6) (cond d (refusing 16) c.read))).answer ≡ accepted n → (a ≡ false) × (b ≡ false) × (d ≡ false)
      go true b d e = let z : ◌≡◌ {A = ℕ} 0 1 = cc in absurd (omega arith)
      go false true d e = let z : ◌≡◌ {A = ℕ} 0 1 = cc in absurd (omega arith)
      go false false true e = let z : ◌≡◌ {A = ℕ} 0 1 = cc in absurd (omega arith)
      go false false false e = (refl, refl, refl)

-- an accepted list reading
pub record Accepted (plane : List ℕ) (frame : Frame) (family : Family) (codes : List ℕ) (quads : List Float) (rows : List ℕ) (corners : List Float) (n : ℕ) : Type 0 where
  pub good_frame : bad_frame (length plane) frame ≡ false
  pub good_table : bad_table family codes ≡ false
  pub good_list : bad_list (length quads) (length rows) (length corners) ≡ false
  pub count : n ≡ quad_count (length quads)
  pub outcome : decode_quads plane frame family codes quads rows corners ≡ listing plane frame family codes quads rows corners

module _ (plane : List ℕ) (frame : Frame) (quads : List Float) (rows : List ℕ) (corners : List Float) where
  abbrev call : Bool → Family → List ℕ → Call
  call test_6 family codes =
      record {
        rows = rows;
        corners = corners;
        test_1 = bad_frame (length plane) frame;
        test_6 = test_6;
        test_16 = bad_list (length quads) (length rows) (length corners);
        read = listing plane frame family codes quads rows corners;
      }

  module _ (family : Family) (codes : List ℕ) where
    listing_count : (n : ℕ) → (listing plane frame family codes quads rows corners).answer ≡ accepted n → n ≡ quad_count (length quads)
    unfolding listing
    listing_count n e = cc

    pub Accepted-means : (n : ℕ) → (decode_quads plane frame family codes quads rows corners).answer ≡ accepted n → Accepted plane frame family codes quads rows corners n
    unfolding decode_quads
    Accepted-means n e =
        let c = call (bad_table family codes) family codes in
        let p = passes c n e in
        let on = tested_on c p.0 p.1 p.2 in
        record { good_frame = p.0; good_table = p.1; good_list = p.2; count = listing_count n (ap (λ (r : Listing). r.answer) on ∙ e); outcome = sym on }

    -- a call that passes all three is accepted
    pub accepts : bad_frame (length plane) frame ≡ false → bad_table family codes ≡ false → bad_list (length quads) (length rows) (length corners) ≡ false
        → (decode_quads plane frame family codes quads rows corners).answer ≡ accepted (quad_count (length quads))
    unfolding decode_quads listing
    accepts p q r = ap (λ (x : Listing). x.answer) (sym (tested_on (call (bad_table family codes) family codes) p q r))

  -- every answer is 1, 6, 16 or the number of quads
  abbrev pub OfEach : (Outcome ℕ → Type 0) → Outcome ℕ → Type 0
  OfEach P answer = P (refused 1) → P (refused 6) → P (refused 16) → P (accepted (quad_count (length quads))) → P answer

  pub answer_cases : (family : Family) (codes : List ℕ) (P : Outcome ℕ → Type 0) → OfEach P (decode_quads plane frame family codes quads rows corners).answer
  unfolding decode_quads listing
  answer_cases family codes P p1 p6 p16 p = tested_cases (call (bad_table family codes) family codes) (λ x. P x.answer) p1 p6 p16 p

  pub answer_cases_in : (number : ℕ) (P : Outcome ℕ → Type 0) → OfEach P (decode_quads_in plane frame number quads rows corners).answer
  unfolding decode_quads_in listing
  answer_cases_in number P p1 p6 p16 p = tested_cases (call (not (is_family number)) (family_of number) (codes_of number)) (λ x. P x.answer) p1 p6 p16 p

  -- an accepted call by family number has such a family
  pub family_known : (number n : ℕ) → (decode_quads_in plane frame number quads rows corners).answer ≡ accepted n → is_family number ≡ true
  unfolding decode_quads_in
  family_known number n e = not-false (is_family number) (passes (call (not (is_family number)) (family_of number) (codes_of number)) n e).1

  -- and is the call with that family's table
  pub in_is : (number : ℕ) → is_family number ≡ true
      → decode_quads_in plane frame number quads rows corners ≡ decode_quads plane frame (family_of number) (codes_of number) quads rows corners
  unfolding decode_quads decode_quads_in
  in_is number e =
      ap (λ (b : Bool). tested (call b (family_of number) (codes_of number))) (ap not e ∙ sym (families_pass number (ltb-true number 5 e)))
