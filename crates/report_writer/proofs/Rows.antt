-- Some rows with their corner numbers, one after the other: they are a reading's where each of them stands. Assumes nothing.
use mathlib.Core.Path.{◌≡◌, refl, sym, ap, ap₂, ◌∙◌}
use mathlib.Core.Bool.{Bool, true, false, ◌&&◌}
use mathlib.Core.List.{List, [], ◌∷◌, ◌++◌, flat_map, map-append}
use Prim.Native.Nat.{ℕ, zero, suc, ◌*◌}
use native.Mathlib.Omega.{arith}
use lib.Ieee.{Float, binary32, to_bits}
use lib.ListN.{length, drop, length-drop, length-map}
use Rattle.lists.specs.Tab.{all}
use Rattle.std.specs.Cmp.{first_so, second_so}
use Rattle.lists.proofs.Flat.{length_flat}
use Rattle.refusals.specs.Outcome.{Outcome}
use Rattle.points.specs.Numbers.{quad_size}
use Rattle.reader.specs.Reading.{Tag}
use Rattle.listing.specs.Listing.{row_size, row_of, corners_of}
use Rattle.listing.proofs.Sizes.{row_size_lem, corners_size}
use Rattle.report.specs.Reading.{good_row, id_of, distinct, is_reading}
use Rattle.report.specs.Rows.{same, bits_of, same_bits, front_row, front_rows, row_count, rows_say, is_rows}
use Rattle.report.specs.Steps.{begins_with, row_stands, row_candidates}
use Rattle.report.proofs.Same.{same-eq, same-append}
use Rattle.report.proofs.Rows.{length-front_rows}
use Rattle.report.proofs.Placed.{stands_of, said, Sound}
use Rattle.report_writer.proofs.Row.{stands_good}

-- ---- the rows as candidates

pub said_is : (n : ℕ) (rows : List ℕ) (corners : List Float) → said (row_candidates n rows corners) ≡ front_rows n rows corners
unfolding row_candidates front_rows
said_is zero rows corners = refl
said_is (suc n) rows corners = ap (λ (l : List (Outcome Tag)). front_row rows corners ∷ l) (said_is n (drop row_size rows) (drop quad_size corners))

pub sound : (n : ℕ) (rows : List ℕ) (corners : List Float) → Sound (row_candidates n rows corners)
unfolding row_candidates Sound
sound zero rows corners = omega arith
sound (suc n) rows corners = (stands_good rows corners, sound n (drop row_size rows) (drop quad_size corners))

-- ---- all of them stand where they are good rows, and the numbers of such rows

shuffle : (g a b G A B : Bool) → (g && G) && ((a && A) && (b && B)) ≡ (g && (a && b)) && (G && (A && B))
shuffle false a b G A B = refl
shuffle true false b true A B = refl
shuffle true false b false A B = refl
shuffle true true false true true B = refl
shuffle true true false true false B = refl
shuffle true true false false A B = refl
shuffle true true true G A B = refl

drop_bits : (n : ℕ) (l : List Float) → drop n (bits_of l) ≡ bits_of (drop n l)
drop_bits zero l = refl
drop_bits (suc n) [] = refl
drop_bits (suc n) (x ∷ l) = drop_bits n l

pub all_stand : (n : ℕ) (rows : List ℕ) (corners : List Float) → length rows ≡ row_size * n → length corners ≡ quad_size * n
    → let rows_said = front_rows n rows corners in
    all good_row rows_said && (same (flat_map row_of rows_said) rows && same_bits (flat_map corners_of rows_said) corners) ≡ all stands_of (row_candidates n rows corners)
unfolding all front_rows row_candidates flat_map same row_stands
all_stand zero [] [] r c = refl
all_stand zero (a ∷ rows) corners r c = absurd (omega arith)
all_stand zero [] (a ∷ corners) r c = absurd (omega arith)
all_stand (suc n) rows corners r c =
    let row = front_row rows corners in
    let rows_behind = drop row_size rows in
    let corners_behind = drop quad_size corners in
    let rest = front_rows n rows_behind corners_behind in
    let first_row : same (row_of row ++ flat_map row_of rest) rows ≡ begins_with (row_of row) rows && same (flat_map row_of rest) rows_behind =
    same-append (row_of row) (flat_map row_of rest) rows ∙ ap (λ (k : ℕ). begins_with (row_of row) rows && same (flat_map row_of rest) (drop k rows)) (row_size_lem row) in
    let first_corners : same_bits (corners_of row ++ flat_map corners_of rest) corners ≡ begins_with (bits_of (corners_of row)) (bits_of corners) && same_bits (flat_map corners_of rest) corners_behind =
    ap (λ (x : List ℕ). same x (bits_of corners)) (map-append (to_bits binary32) (corners_of row) (flat_map corners_of rest))
    ∙ same-append (bits_of (corners_of row)) (bits_of (flat_map corners_of rest)) (bits_of corners)
    ∙ ap (λ (x : List ℕ). begins_with (bits_of (corners_of row)) (bits_of corners) && same (bits_of (flat_map corners_of rest)) x)
    (ap (λ (k : ℕ). drop k (bits_of corners)) (length-map (corners_of row) (to_bits binary32) ∙ corners_size row) ∙ drop_bits quad_size corners) in
    ap₂ (λ (x y : Bool). (good_row row && all good_row rest) && (x && y)) first_row first_corners
    ∙ shuffle (good_row row) (begins_with (row_of row) rows) (begins_with (bits_of (corners_of row)) (bits_of corners)) (all good_row rest) (same (flat_map row_of rest) rows_behind) (same_bits (flat_map corners_of rest) corners_behind)
    ∙ ap (λ (t : Bool). row_stands rows corners && t) (all_stand n rows_behind corners_behind (omega (arith, length-drop row_size rows)) (omega (arith, length-drop quad_size corners)))

-- ---- so they are a reading

regroup : (a b c : Bool) → (a && b) && c ≡ (a && c) && b
regroup false b c = refl
regroup true false true = refl
regroup true false false = refl
regroup true true true = refl
regroup true true false = refl

module _ (rows : List ℕ) (corners : List Float) where
  abbrev count : ℕ
  count = row_count (length rows)

  pub reading_is : length rows ≡ row_size * count → length corners ≡ quad_size * count
      → is_rows rows corners ≡ all stands_of (row_candidates count rows corners) && distinct (flat_map id_of (rows_say rows corners))
  unfolding is_rows is_reading
  reading_is r c =
      let rows_said = rows_say rows corners in
      regroup (all good_row rows_said) (distinct (flat_map id_of rows_said)) (same (flat_map row_of rows_said) rows && same_bits (flat_map corners_of rows_said) corners)
      ∙ ap (λ (t : Bool). t && distinct (flat_map id_of rows_said)) (all_stand count rows corners r c)

  -- a reading has whole rows, and eight corner numbers a row
  module _ (h : is_rows rows corners ≡ true) where
    both_same : same (flat_map row_of (rows_say rows corners)) rows && same_bits (flat_map corners_of (rows_say rows corners)) corners ≡ true
    unfolding is_rows
    both_same = let rows_said = rows_say rows corners in second_so (is_reading rows_said) (same (flat_map row_of rows_said) rows && same_bits (flat_map corners_of rows_said) corners) h

    pub rows_whole : length rows ≡ row_size * count
    rows_whole =
        let rows_said = rows_say rows corners in
        let numbers = flat_map row_of rows_said in
        ap length (sym (same-eq numbers rows (first_so (same numbers rows) (same_bits (flat_map corners_of rows_said) corners) both_same)))
        ∙ length_flat row_of row_size row_size_lem rows_said ∙ ap (λ (n : ℕ). row_size * n) (length-front_rows count rows corners)

    pub corners_whole : length corners ≡ quad_size * count
    corners_whole =
        let rows_said = rows_say rows corners in
        let numbers = flat_map corners_of rows_said in
        sym (length-map corners (to_bits binary32))
        ∙ ap length (sym (same-eq (bits_of numbers) (bits_of corners) (second_so (same (flat_map row_of rows_said) rows) (same_bits numbers corners) both_same)))
        ∙ length-map numbers (to_bits binary32) ∙ length_flat corners_of quad_size corners_size rows_said ∙ ap (λ (n : ℕ). quad_size * n) (length-front_rows count rows corners)

  pub no_reading : (is_rows rows corners ≡ true → ⊥) → is_rows rows corners ≡ false
  no_reading d = go (is_rows rows corners) refl
    where
      go : (b : Bool) → is_rows rows corners ≡ b → b ≡ false
      go true e = absurd (d e)
      go false e = refl
