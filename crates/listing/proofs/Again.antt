-- The second pass of the list reader looks at each row again, and refuses those whose id was given more than once. Assumes nothing.
use mathlib.Core.Path.{◌≡◌, refl, sym, ap, ap₂, subst, ◌∙◌}
use mathlib.Core.Bool.{Bool, ◌&&◌, cond}
use mathlib.Core.List.{List, ◌++◌, flat_map}
use Prim.Native.Nat.{ℕ, ◌+◌, ◌*◌, ◌≤◌, ◌<◌}
use native.Mathlib.Nat.{add-zero}
use native.Mathlib.Omega.{arith}
use borrow.Author.Tests.{eq-eqb, ne_eqb}
use lib.Dec.{ltb}
use lib.Ieee.{Float}
use lib.ListN.{length, get_or, drop, length-append, length-drop}
use Rattle.lists.specs.Sum.{one_if}
use Rattle.lists.specs.Tab.{tabulate}
use Rattle.lists.specs.Front.{in_front}
use Rattle.lists.proofs.Flat.{part_at, again_none, again_more, again_all}
use Rattle.lists.proofs.Part.{part_read}
use Rattle.lists.proofs.Sum.{sum_ext}
use Rattle.lists.proofs.Tab.{length-tabulate, kept_read}
use Rattle.refusals.specs.Outcome.{Outcome, accepted, refused}
use Rattle.points.specs.Numbers.{quad_size}
use Rattle.reader.specs.Reading.{Tag}
use Rattle.listing.specs.Repeated.{gives_id, given_elsewhere, in_list, listed}
use Rattle.listing.specs.Listing.{row_size, row_of, corners_of}
use Rattle.listing.specs.Steps.{most_ids, repeated_row, LookedAt}
use Rattle.listing.proofs.Sizes.{row_size_lem, corners_size}
use Rattle.listing.proofs.Repeated.{read_at, elsewhere_counted}
use Rattle.listing.proofs.Counts.{Known, Counts}

-- what the first pass leaves beside the outputs
pub record FirstPass (read : List (Outcome Tag)) (times : List ℕ) : Type 0 where
  pub counts : Counts (read_at read) (length read) times
  pub known : (q : ℕ) → q < length read → Known (read_at read q)

pub first_pass : (f : ℕ → Outcome Tag) (read : List (Outcome Tag)) (times : List ℕ) → ((p : ℕ) → p < length read → read_at read p ≡ f p) → ((p : ℕ) → Known (f p))
    → Counts f (length read) times → FirstPass read times
first_pass f read times is known c = record {
  counts = record {
    size = c.size;
    each = λ id h. c.each id h ∙ sum_ext (length read) (λ p. one_if (gives_id id (f p))) (λ p. one_if (gives_id id (read_at read p))) (λ p l. ap (λ (o : Outcome Tag). one_if (gives_id id o)) (sym (is p l)));
  };
  known = λ q l. subst Known (sym (is q l)) (known q);
}

module _ (read : List (Outcome Tag)) where
  -- what the row of quad q is to say, and what the rows say when the first p were looked at again
  abbrev said : ℕ → Outcome Tag
  said q = in_list read q (read_at read q)

  abbrev passed : ℕ → List (Outcome Tag)
  passed p = tabulate p said ++ drop p read

  length-passed : (p : ℕ) → p < length read → length (passed p) ≡ length read
  length-passed p h = length-append (tabulate p said) (drop p read) ∙ omega (arith, length-tabulate p said, length-drop p read)

  module _ (times rows output : List ℕ) (q : ℕ) (l : q < length read) (first : FirstPass read times) (e : rows ≡ in_front (flat_map row_of (passed q)) output) where
    -- row q is still that of its quad's own reading
    number_is : (j : ℕ) → j < row_size → get_or rows (row_size * q + j) 0 ≡ get_or (row_of (read_at read q)) j 0
    number_is j h =
        let front = flat_map row_of (passed q) in
        ap (λ (x : List ℕ). get_or x (row_size * q + j) 0) e
        ∙ sym (part_read (in_front front output) (row_size * q) row_size j 0 h)
        ∙ ap (λ (x : List ℕ). get_or x j 0)
        (part_at row_of row_size row_size_lem (passed q) (drop (length front) output) q (refused 0) (omega (arith, length-passed q l))
        ∙ ap row_of (kept_read said q read (passed q) (refused 0) l refl))

    refusal_is : get_or rows (row_size * q) 0 ≡ get_or (row_of (read_at read q)) 0 0
    refusal_is = ap (λ (k : ℕ). get_or rows k 0) (sym (add-zero (row_size * q))) ∙ number_is 0 (omega arith)

    pub row_known : get_or rows (row_size * q + 1) 0 < most_ids
    row_known = go (read_at read q) (first.known q l) (number_is 1 (omega arith))
      where
        go : (o : Outcome Tag) → Known o → get_or rows (row_size * q + 1) 0 ≡ get_or (row_of o) 1 0 → get_or rows (row_size * q + 1) 0 < most_ids
        go (accepted tag) k n = omega arith
        go (refused m) k n = omega arith

    said_is : said q ≡ cond (repeated_row rows times q) (refused 18) (read_at read q)
    said_is = go (read_at read q) refl (first.known q l) refusal_is (number_is 1 (omega arith))
      where
        go : (o : Outcome Tag) → read_at read q ≡ o → Known o → get_or rows (row_size * q) 0 ≡ get_or (row_of o) 0 0 → get_or rows (row_size * q + 1) 0 ≡ get_or (row_of o) 1 0
            → in_list read q o ≡ cond (repeated_row rows times q) (refused 18) o
        go (accepted tag) is k n0 n1 =
            let id = tag.id in
            let same : repeated_row rows times q ≡ given_elsewhere read q id =
            ap₂ (λ (a : Bool) (b : Bool). a && b) (eq-eqb (get_or rows (row_size * q) 0) 0 n0) (ap (λ (x : ℕ). ltb 1 (get_or times x 0)) n1 ∙ ap (ltb 1) (first.counts.each id k))
            ∙ sym (elsewhere_counted read q id l (ap (gives_id id) is ∙ eq-eqb id id refl)) in
            ap (λ (b : Bool). cond b (refused 18) (accepted tag)) (sym same)
        go (refused m) is k n0 n1 =
            ap (λ (b : Bool). cond (b && ltb 1 (get_or times (get_or rows (row_size * q + 1) 0) 0)) (refused 18) (refused m))
            (sym (ne_eqb (get_or rows (row_size * q) 0) 0 (λ z. absurd (omega arith))))

-- ---- the loop: whatever readings the outputs were written from in the first pass

pub record Again (times rows₀ : List ℕ) (corners₀ : List Float) (p : ℕ) (rows : List ℕ) (corners : List Float) : Type 0 where
  pub rows_are : (read : List (Outcome Tag)) (output : List ℕ) → FirstPass read times → p ≤ length read → rows₀ ≡ in_front (flat_map row_of read) output
      → rows ≡ in_front (flat_map row_of (passed read p)) output
  pub corners_are : (read : List (Outcome Tag)) (output : List ℕ) (behind : List Float) → FirstPass read times → p ≤ length read → rows₀ ≡ in_front (flat_map row_of read) output
      → corners₀ ≡ in_front (flat_map corners_of read) behind → corners ≡ in_front (flat_map corners_of (passed read p)) behind

pub looked_at_none : (times rows : List ℕ) (corners : List Float) → Again times rows corners 0 rows corners
looked_at_none times rows corners = record {
  rows_are = λ read output first h e. again_none row_of row_size row_size_lem (said read) read output rows e;
  corners_are = λ read output behind first h e c. again_none corners_of quad_size corners_size (said read) read behind corners c;
}

pub LookedAt-more : (times rows₀ : List ℕ) (corners₀ : List Float) (p : ℕ) (rows : List ℕ) (corners : List Float) (rows' : List ℕ) (corners' : List Float)
    → Again times rows₀ corners₀ p rows corners → LookedAt rows corners times p rows' corners' → Again times rows₀ corners₀ (p + 1) rows' corners'
LookedAt-more times rows₀ corners₀ p rows corners rows' corners' a looked = record {
  rows_are = λ read output first h e.
      let l : p < length read = omega arith in
      let r = a.rows_are read output first (omega arith) e in
      again_more row_of row_size row_size_lem (said read) read p (refused 18) (refused 0) (repeated_row rows times p) output rows rows' l
      (said_is read times rows output p l first r) r looked.row;
  corners_are = λ read output behind first h e c.
      let l : p < length read = omega arith in
      let r = a.rows_are read output first (omega arith) e in
      again_more corners_of quad_size corners_size (said read) read p (refused 18) (refused 0) (repeated_row rows times p) behind corners corners' l
      (said_is read times rows output p l first r) (a.corners_are read output behind first (omega arith) e c) looked.corner;
}

pub looked_at_all : (read : List (Outcome Tag)) (times rows₀ output : List ℕ) (corners₀ behind : List Float) (n : ℕ) (rows : List ℕ) (corners : List Float)
    → n ≡ length read → FirstPass read times → rows₀ ≡ in_front (flat_map row_of read) output → corners₀ ≡ in_front (flat_map corners_of read) behind
    → Again times rows₀ corners₀ n rows corners
    → (rows ≡ in_front (flat_map row_of (listed read)) output) × (corners ≡ in_front (flat_map corners_of (listed read)) behind)
unfolding listed
looked_at_all read times rows₀ output corners₀ behind n rows corners e first r c a = (
  again_all row_of row_size row_size_lem (said read) read n output rows e (a.rows_are read output first (omega arith) r),
  again_all corners_of quad_size corners_size (said read) read n behind corners e (a.corners_are read output behind first (omega arith) r c),
)
