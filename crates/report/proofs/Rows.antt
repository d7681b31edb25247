-- The numbers of a reading say the reading, and numbers that are a reading's are those of what they say. Assumes nothing.
use mathlib.Core.Path.{◌≡◌, refl, sym, ap, ap₂, ◌∙◌}
use mathlib.Core.Bool.{Bool, true, false, ◌&&◌, cond, and_assoc}
use mathlib.Core.List.{List, [], ◌∷◌, ◌++◌, map, flat_map}
use Prim.Native.Nat.{ℕ, zero, suc}
use native.Mathlib.Omega.{arith}
use borrow.Author.Tests.{ne_eqb}
use lib.Dec.{eqb}
use lib.Ieee.{Float, nan, binary32, fits, of_bits}
use lib.Ieee.Bits.{of_bits-to_bits}
use lib.ListN.{length, get_or, drop}
use lib.Seq.{drop_at}
use Rattle.std.proofs.lemmas.Float.{T_from_true}
use Rattle.lists.specs.Tab.{all}
use Rattle.std.proofs.lemmas.Bool.{and_parts}
use Rattle.std.specs.Cmp.{first_so, second_so}
use Rattle.lists.proofs.Flat.{length_flat}
use Rattle.refusals.specs.Outcome.{Outcome, accepted, refused}
use Rattle.points.specs.Numbers.{quad_size, quad_at}
use Rattle.reader.specs.Reading.{Tag}
use Rattle.listing.specs.Listing.{row_size, row_of, corners_of}
use Rattle.listing.proofs.Sizes.{row_size_lem, corners_size}
use Rattle.report.specs.Reading.{good_row, id_of, distinct, is_reading}
use Rattle.report.specs.Rows.{same, bits_of, same_bits, front_row, front_rows, row_count, rows_say, is_rows}
use Rattle.report.proofs.Same.{same_refl, same-eq}
use Rattle.report.proofs.Good.{refusal_range}
use Rattle.report.proofs.Report.{fit_row, FitRow, refused_fits}

pub length-front_rows : (n : ℕ) (rows : List ℕ) (corners : List Float) → length (front_rows n rows corners) ≡ n
unfolding front_rows
length-front_rows zero rows corners = refl
length-front_rows (suc n) rows corners = ap suc (length-front_rows n (drop row_size rows) (drop quad_size corners))

-- ---- the numbers of a reading say it

pub front_back : (row : Outcome Tag) (rest : List ℕ) (more : List Float) → good_row row ≡ true → front_row (row_of row ++ rest) (corners_of row ++ more) ≡ row
front_back (accepted tag) rest more good = refl
front_back (refused n) rest more good =
    ap (λ (b : Bool). cond b (accepted (record { id = 0; turn = 0; differing = 0; corners = quad_at (corners_of (refused n) ++ more) 0 })) (refused n))
    (ne_eqb n 0 (λ e. omega (arith, refusal_range n good)))

pub front_rows_back : (said : List (Outcome Tag)) → all good_row said ≡ true → front_rows (length said) (flat_map row_of said) (flat_map corners_of said) ≡ said
unfolding all flat_map front_rows
front_rows_back [] good = refl
front_rows_back (row ∷ said) good =
    let rest = flat_map row_of said in
    let more = flat_map corners_of said in
    ap (λ (r : Outcome Tag). r ∷ front_rows (length said) (drop row_size (row_of row ++ rest)) (drop quad_size (corners_of row ++ more)))
    (front_back row rest more (first_so (good_row row) (all good_row said) good))
    ∙ ap (λ (l : List ℕ). row ∷ front_rows (length said) l (drop quad_size (corners_of row ++ more))) (drop_at (row_of row) rest row_size (row_size_lem row))
    ∙ ap (λ (l : List Float). row ∷ front_rows (length said) rest l) (drop_at (corners_of row) more quad_size (corners_size row))
    ∙ ap (λ (l : List (Outcome Tag)). row ∷ l) (front_rows_back said (second_so (good_row row) (all good_row said) good))

-- a row for each
pub row_count_lem : (said : List (Outcome Tag)) → row_count (length (flat_map row_of said)) ≡ length said
row_count_lem said = omega (arith, length_flat row_of row_size row_size_lem said)

pub rows_back : (said : List (Outcome Tag)) → all good_row said ≡ true → rows_say (flat_map row_of said) (flat_map corners_of said) ≡ said
rows_back said good = ap (λ (n : ℕ). front_rows n (flat_map row_of said) (flat_map corners_of said)) (row_count_lem said) ∙ front_rows_back said good

-- every row of a reading is good
pub good_rows : (said : List (Outcome Tag)) → is_reading said ≡ true → all good_row said ≡ true
unfolding is_reading
good_rows said reading = first_so (all good_row said) (distinct (flat_map id_of said)) reading

pub rows_are : (said : List (Outcome Tag)) → is_reading said ≡ true → is_rows (flat_map row_of said) (flat_map corners_of said) ≡ true
unfolding is_rows
rows_are said reading =
    let rows = flat_map row_of said in
    let corners = flat_map corners_of said in
    ap (λ (l : List (Outcome Tag)). is_reading l && (same (flat_map row_of l) rows && same_bits (flat_map corners_of l) corners)) (rows_back said (good_rows said reading))
    ∙ ap₂ ◌&&◌ reading (ap₂ ◌&&◌ (same_refl rows) (same_refl (bits_of corners)))

-- ---- corner numbers that are f32 values

nan-fits : fits binary32 nan ≡ true
unfolding fits
nan-fits = refl

fit_at : (corners : List Float) (k : ℕ) → all (fits binary32) corners ≡ true → fits binary32 (get_or corners k nan) ≡ true
unfolding all
fit_at [] k fit = nan-fits
fit_at (x ∷ corners) zero fit = first_so (fits binary32 x) (all (fits binary32) corners) fit
fit_at (x ∷ corners) (suc k) fit = fit_at corners k (second_so (fits binary32 x) (all (fits binary32) corners) fit)

front_fits : (rows : List ℕ) (corners : List Float) → all (fits binary32) corners ≡ true → FitRow (front_row rows corners)
unfolding all
front_fits rows corners fit = go (eqb (get_or rows 0 0) 0)
  where
    tag : Tag
    tag = record { id = get_or rows 1 0; turn = get_or rows 2 0; differing = get_or rows 3 0; corners = quad_at corners 0 }

    at : (k : ℕ) → fits binary32 (get_or corners k nan) ≡ true
    at k = fit_at corners k fit

    go : (b : Bool) → FitRow (cond b (accepted tag) (refused (get_or rows 0 0)))
    go true = ap₂ ◌&&◌ (at 0) (ap₂ ◌&&◌ (at 1) (ap₂ ◌&&◌ (at 2) (ap₂ ◌&&◌ (at 3) (ap₂ ◌&&◌ (at 4) (ap₂ ◌&&◌ (at 5) (ap₂ ◌&&◌ (at 6) (ap₂ ◌&&◌ (at 7) refl)))))))
    go false = refused_fits (get_or rows 0 0)

all-drop : (n : ℕ) (corners : List Float) → all (fits binary32) corners ≡ true → all (fits binary32) (drop n corners) ≡ true
unfolding all
all-drop zero corners fit = fit
all-drop (suc n) [] fit = fit
all-drop (suc n) (x ∷ corners) fit = all-drop n corners (second_so (fits binary32 x) (all (fits binary32) corners) fit)

front_rows_fit : (n : ℕ) (rows : List ℕ) (corners : List Float) → all (fits binary32) corners ≡ true → all fit_row (front_rows n rows corners) ≡ true
unfolding all front_rows
front_rows_fit zero rows corners fit = refl
front_rows_fit (suc n) rows corners fit =
    ap₂ ◌&&◌ (front_fits rows corners fit) (front_rows_fit n (drop row_size rows) (drop quad_size corners) (all-drop quad_size corners fit))

all-append : (l m : List Float) → all (fits binary32) (l ++ m) ≡ all (fits binary32) l && all (fits binary32) m
unfolding all
all-append [] m = refl
all-append (x ∷ l) m =
    ap (λ (b : Bool). fits binary32 x && b) (all-append l m) ∙ sym (and_assoc (fits binary32 x) (all (fits binary32) l) (all (fits binary32) m))

pub corners_fit : (said : List (Outcome Tag)) → all fit_row said ≡ true → all (fits binary32) (flat_map corners_of said) ≡ true
unfolding all flat_map
corners_fit [] fit = refl
corners_fit (row ∷ said) fit =
    all-append (corners_of row) (flat_map corners_of said)
    ∙ ap₂ ◌&&◌ (first_so (fit_row row) (all fit_row said) fit) (corners_fit said (second_so (fit_row row) (all fit_row said) fit))

-- they are the same where their bits are
bits_back : (l : List Float) → all (fits binary32) l ≡ true → map (of_bits binary32) (bits_of l) ≡ l
unfolding all
bits_back [] fit = refl
bits_back (x ∷ l) fit =
    let p = and_parts (fits binary32 x) (all (fits binary32) l) fit in
    ap₂ (λ (a : Float) (m : List Float). a ∷ m) (of_bits-to_bits binary32 x (T_from_true _ p.0)) (bits_back l p.1)

same_bits-eq : (l m : List Float) → all (fits binary32) l ≡ true → all (fits binary32) m ≡ true → same_bits l m ≡ true → l ≡ m
same_bits-eq l m fit fit₂ e =
    sym (bits_back l fit) ∙ ap (map (of_bits binary32)) (same-eq (bits_of l) (bits_of m) e) ∙ bits_back m fit₂

-- ---- numbers that are a reading's are those of what they say

pub record RowsOf (rows : List ℕ) (corners : List Float) (said : List (Outcome Tag)) : Type 0 where
  pub reading : is_reading said ≡ true
  pub rows_again : flat_map row_of said ≡ rows
  pub corners_again : flat_map corners_of said ≡ corners
  pub fit : all fit_row said ≡ true

pub rows_mean : (rows : List ℕ) (corners : List Float) → all (fits binary32) corners ≡ true → is_rows rows corners ≡ true → RowsOf rows corners (rows_say rows corners)
unfolding is_rows
rows_mean rows corners singles e =
    let said = rows_say rows corners in
    let p = and_parts (is_reading said) (same (flat_map row_of said) rows && same_bits (flat_map corners_of said) corners) e in
    let q = and_parts (same (flat_map row_of said) rows) (same_bits (flat_map corners_of said) corners) p.1 in
    let fit = front_rows_fit (row_count (length rows)) rows corners singles in
    record {
      reading = p.0;
      rows_again = same-eq (flat_map row_of said) rows q.0;
      corners_again = same_bits-eq (flat_map corners_of said) corners (corners_fit said fit) singles q.1;
      fit = fit;
    }
