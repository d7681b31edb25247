-- What the two passes over the rows keep, which take the rows off one by one: each row and its corner numbers are whole chunks. Assumes nothing.
use mathlib.Core.Path.{◌≡◌, refl, sym, ap, ap₂, ◌∙◌}
use mathlib.Core.Bool.{Bool, true, false, ◌&&◌, cond}
use mathlib.Core.List.{List, [], ◌∷◌, ◌++◌, flat_map, append-nil, append_assoc, map-append}
use Prim.Native.Nat.{ℕ, suc, ◌+◌, ◌*◌, ◌≤◌, ◌<◌}
use native.Mathlib.Omega.{arith}
use lib.Ieee.{Float, nan, binary32, to_bits}
use lib.ListN.{length, drop, get_or, replicate, length-append, length-map, drop_of_length-le}
use lib.Seq.{drop-append_seam}
use Rattle.std.proofs.lemmas.List.{take-append-le}
use Rattle.lists.specs.Tab.{tabulate, all}
use Rattle.std.specs.Cmp.{first_so, second_so}
use Rattle.refusals.specs.Outcome.{Outcome, accepted, refused}
use Rattle.points.specs.Numbers.{quad_size, quad_at, numbers_of}
use Rattle.reader.specs.Reading.{Tag}
use Rattle.listing.specs.Listing.{row_size, row_of, corners_of}
use Rattle.listing.proofs.Sizes.{row_size_lem, corners_size}
use Rattle.text.specs.declared.Output.{Output}
use Rattle.text.specs.Put.{Put, HasRoom}
use Rattle.text.proofs.Join.{put_none, put_more, as_text}
use Rattle.report.specs.Reading.{good_row, distinct, id_of}
use Rattle.report.specs.Bytes.{low_first, row_bytes, report_of}
use Rattle.report.specs.Rows.{bits_of, same, front_row, front_rows, row_count, rows_say, is_rows}
use Rattle.report.specs.Steps.{Candidate, begins_with, row_stands, row_candidates, is_met, meet, placed}
use Rattle.report.proofs.Good.{row_most}
use Rattle.report.proofs.Rows.{length-front_rows}
use Rattle.report.proofs.Placed.{stands_of, placed_is, placed_more, placed-not, placed_met}
use Rattle.report_writer.proofs.Row.{firsts, stands_good}
use Rattle.report_writer.proofs.Rows.{said_is, sound, reading_is, rows_whole, corners_whole}

-- the bytes of a report
pub report_long : (rows_said : List (Outcome Tag)) → length (report_of rows_said) ≡ 2 + length (flat_map row_bytes rows_said)
unfolding report_of low_first
report_long rows_said = omega arith

-- the rows as candidates, and their bytes
abbrev pub candidates : List ℕ → List Float → List Candidate
candidates rows corners = row_candidates (row_count (length rows)) rows corners

abbrev pub bytes_of : List ℕ → List Float → List ℕ
bytes_of rows corners = flat_map row_bytes (rows_say rows corners)

-- they are the report of the rows, behind the number of rows
pub report_is : (rows : List ℕ) (corners : List Float) → low_first 2 (row_count (length rows)) ++ bytes_of rows corners ≡ report_of (rows_say rows corners)
unfolding report_of
report_is rows corners =
    let n : ℕ = row_count (length rows) in
    ap (λ (k : ℕ). low_first 2 k ++ bytes_of rows corners) (sym (length-front_rows n rows corners))

-- ---- one row and its corner numbers, taken off the front

pub record Cut (rows : List ℕ) (corners : List Float) (numbers : List ℕ) (quad : List Float) (rows_left : List ℕ) (corners_left : List Float) : Type 0 where
  pub rows_are : rows ≡ numbers ++ rows_left
  pub four : length numbers ≡ row_size
  pub corners_are : corners ≡ quad ++ corners_left
  pub eight : length quad ≡ quad_size

begins_within : (front l rest : List ℕ) → length front ≤ length l → begins_with front (l ++ rest) ≡ begins_with front l
begins_within front l rest h = ap (same front) (take-append-le (length front) l rest h)

module _ {rows : List ℕ} {corners : List Float} {numbers : List ℕ} {quad : List Float} {rows_left : List ℕ} {corners_left : List Float} (cut : Cut rows corners numbers quad rows_left corners_left) where
  numbers_are : numbers ≡ get_or numbers 0 0 ∷ get_or numbers 1 0 ∷ get_or numbers 2 0 ∷ get_or numbers 3 0 ∷ []
  unfolding tabulate
  numbers_are =
      let whole : length numbers ≤ row_size = omega (arith, cut.four) in
      firsts row_size numbers 0 (omega (arith, cut.four))
      ∙ ap (λ (l : List ℕ). get_or numbers 0 0 ∷ get_or numbers 1 0 ∷ get_or numbers 2 0 ∷ get_or numbers 3 0 ∷ l) (drop_of_length-le numbers whole)

  quad_are : quad ≡ numbers_of (quad_at quad 0)
  unfolding tabulate
  quad_are =
      let whole : length quad ≤ quad_size = omega (arith, cut.eight) in
      firsts quad_size quad nan (omega (arith, cut.eight))
      ∙ ap (λ (l : List Float). numbers_of (quad_at quad 0) ++ l) (drop_of_length-le quad whole)

  front_is : front_row rows corners ≡ front_row numbers quad
  front_is =
      ap₂ front_row (cut.rows_are ∙ ap (λ (l : List ℕ). l ++ rows_left) numbers_are) (cut.corners_are ∙ ap (λ (l : List Float). l ++ corners_left) quad_are)
      ∙ sym (ap₂ front_row numbers_are quad_are)

  stands_is : row_stands rows corners ≡ row_stands numbers quad
  unfolding row_stands
  stands_is =
      let row = front_row numbers quad in
      let row_same = ap (begins_with (row_of row)) cut.rows_are ∙ begins_within (row_of row) numbers rows_left (omega (arith, row_size_lem row, cut.four)) in
      let bits_same =
      ap (λ (l : List Float). begins_with (bits_of (corners_of row)) (bits_of l)) cut.corners_are
      ∙ ap (begins_with (bits_of (corners_of row))) (map-append (to_bits binary32) quad corners_left)
      ∙ begins_within (bits_of (corners_of row)) (bits_of quad) (bits_of corners_left)
      (omega (arith, length-map (corners_of row) (to_bits binary32), corners_size row, length-map quad (to_bits binary32), cut.eight)) in
      ap (λ (r : Outcome Tag). good_row r && (begins_with (row_of r) rows && begins_with (bits_of (corners_of r)) (bits_of corners))) front_is
      ∙ ap₂ (λ (x y : Bool). good_row row && (x && y)) row_same bits_same

  -- one row fewer is left
  fewer : row_count (length rows) ≡ suc (row_count (length rows_left))
  fewer = omega (arith, ap length cut.rows_are, length-append numbers rows_left, cut.four)

  rows_behind : drop row_size rows ≡ rows_left
  rows_behind = ap₂ (λ (n : ℕ) (l : List ℕ). drop n l) (sym cut.four) cut.rows_are ∙ drop-append_seam numbers rows_left

  corners_behind : drop quad_size corners ≡ corners_left
  corners_behind = ap₂ (λ (n : ℕ) (l : List Float). drop n l) (sym cut.eight) cut.corners_are ∙ drop-append_seam quad corners_left

  candidates_are : candidates rows corners ≡ record { row = front_row numbers quad; stands = row_stands numbers quad } ∷ candidates rows_left corners_left
  unfolding row_candidates
  candidates_are =
      ap (λ (n : ℕ). row_candidates n rows corners) fewer
      ∙ ap₂ (λ (r : Outcome Tag) (s : Bool). record { row = r; stands = s } ∷ row_candidates (row_count (length rows_left)) (drop row_size rows) (drop quad_size corners)) front_is stands_is
      ∙ ap₂ (λ (l : List ℕ) (m : List Float). record { row = front_row numbers quad; stands = row_stands numbers quad } ∷ row_candidates (row_count (length rows_left)) l m) rows_behind corners_behind

  bytes_are : bytes_of rows corners ≡ row_bytes (front_row numbers quad) ++ bytes_of rows_left corners_left
  unfolding front_rows flat_map
  bytes_are =
      ap (λ (n : ℕ). flat_map row_bytes (front_rows n rows corners)) fewer
      ∙ ap (λ (r : Outcome Tag). row_bytes r ++ flat_map row_bytes (front_rows (row_count (length rows_left)) (drop row_size rows) (drop quad_size corners))) front_is
      ∙ ap₂ (λ (l : List ℕ) (m : List Float). row_bytes (front_row numbers quad) ++ flat_map row_bytes (front_rows (row_count (length rows_left)) l m)) rows_behind corners_behind

-- what is left are whole rows, with eight corner numbers each
pub record Whole (rows : List ℕ) (corners : List Float) : Type 0 where
  pub fours : length rows ≡ row_size * row_count (length rows)
  pub eights : length corners ≡ quad_size * row_count (length rows)

pub whole_rows : {rows : List ℕ} {corners : List Float} → is_rows rows corners ≡ true → Whole rows corners
whole_rows {rows} {corners} h = record { fours = rows_whole rows corners h; eights = corners_whole rows corners h }

pub whole_next : {rows : List ℕ} {corners : List Float} {numbers : List ℕ} {quad : List Float} {rows_left : List ℕ} {corners_left : List Float}
    → Cut rows corners numbers quad rows_left corners_left → Whole rows corners → Whole rows_left corners_left
whole_next {rows} {corners} {numbers} {quad} {rows_left} {corners_left} cut whole =
    let r = ap length cut.rows_are in
    let c = ap length cut.corners_are in
    let rl = length-append numbers rows_left in
    let cl = length-append quad corners_left in
    record { fours = omega (arith, whole.fours, r, rl, cut.four); eights = omega (arith, whole.eights, whole.fours, r, rl, cut.four, c, cl, cut.eight) }

-- ---- the first pass

abbrev pub looked : List ℕ → List Float → Outcome ℕ
looked rows corners = placed (replicate 1024 false) (candidates rows corners) 2

-- what is found: the length of the report, or that there is none
pub found : (rows : List ℕ) (corners : List Float) → Whole rows corners
    → looked rows corners ≡ cond (is_rows rows corners) (accepted (length (report_of (rows_say rows corners)))) (refused 20)
found rows corners whole =
    let n : ℕ = row_count (length rows) in
    placed_is (row_candidates n rows corners) 2 (sound n rows corners)
    ∙ ap (λ (l : List (Outcome Tag)). cond (all stands_of (row_candidates n rows corners) && distinct (flat_map id_of l)) (accepted (2 + length (flat_map row_bytes l))) (refused 20)) (said_is n rows corners)
    ∙ ap₂ (λ (b : Bool) (k : ℕ). cond b (accepted k) (refused 20)) (sym (reading_is rows corners whole.fours whole.eights)) (sym (report_long (rows_say rows corners)))

-- looking at the rows that are left finds what looking at all of them finds; the bytes so far are 37 a row at the most
pub record Looking (rows : List ℕ) (corners : List Float) (rows_left : List ℕ) (corners_left : List Float) (met : List Bool) (size : ℕ) : Type 0 where
  pub whole : Whole rows_left corners_left
  pub few : size + 37 * row_count (length rows_left) ≤ 2 + 37 * 1024
  pub same_found : placed met (candidates rows_left corners_left) size ≡ looked rows corners

pub looking_first : (rows : List ℕ) (corners : List Float) → Whole rows corners → row_count (length rows) ≤ 1024 → Looking rows corners rows corners (replicate 1024 false) 2
looking_first rows corners whole h = record { whole = whole; few = omega arith; same_found = refl }

module _ {rows : List ℕ} {corners : List Float} {now : List ℕ} {corners_now : List Float} {met : List Bool} {size : ℕ} (l : Looking rows corners now corners_now met size) where
  pub none_left : length now < row_size → accepted size ≡ looked rows corners
  unfolding placed row_candidates
  none_left h = let z : row_count (length now) ≡ 0 = omega arith in ap (λ (n : ℕ). placed met (row_candidates n now corners_now) size) (sym z) ∙ l.same_found

  module _ {numbers : List ℕ} {quad : List Float} {left : List ℕ} {corners_left : List Float} (cut : Cut now corners_now numbers quad left corners_left) where
    abbrev candidate : Candidate
    candidate = record { row = front_row numbers quad; stands = row_stands numbers quad }

    next : placed met (candidate ∷ candidates left corners_left) size ≡ looked rows corners
    next = ap (λ (c : List Candidate). placed met c size) (sym (candidates_are cut)) ∙ l.same_found

    pub fallen : row_stands numbers quad ≡ false → refused 20 ≡ looked rows corners
    fallen e = sym (placed-not met candidate (candidates left corners_left) size e) ∙ next

    pub met_before : is_met met (front_row numbers quad) ≡ true → refused 20 ≡ looked rows corners
    met_before e = sym (placed_met met candidate (candidates left corners_left) size e) ∙ next

    pub goes_on : row_stands numbers quad ≡ true → is_met met (front_row numbers quad) ≡ false
        → Looking rows corners left corners_left (meet met (front_row numbers quad)) (size + length (row_bytes (front_row numbers quad)))
    goes_on e f = record {
      whole = whole_next cut l.whole;
      few = omega (arith, l.few, fewer cut, row_most (front_row numbers quad));
      same_found = sym (placed_more met candidate (candidates left corners_left) size e f) ∙ next;
    }

-- ---- the second pass

-- the rows that are left stand, and their bytes behind those that are put are the bytes of all rows
pub record Putting (whole rows_left : List ℕ) (corners_left : List Float) (old now : Output) : Type 0 where
  pub stand : all stands_of (candidates rows_left corners_left) ≡ true
  pub text : List ℕ
  pub put : Put text old now
  pub rest : text ++ bytes_of rows_left corners_left ≡ whole
  pub room : HasRoom old (length whole)

pub putting_first : (rows : List ℕ) (corners : List Float) (output : Output) → is_rows rows corners ≡ true → HasRoom output (length (bytes_of rows corners))
    → Putting (bytes_of rows corners) rows corners output output
putting_first rows corners output h room =
    let whole : Whole rows corners = whole_rows h in
    record {
      stand = first_so (all stands_of (candidates rows corners)) (distinct (flat_map id_of (rows_say rows corners))) (sym (reading_is rows corners whole.fours whole.eights) ∙ h);
      text = [];
      put = put_none output;
      rest = refl;
      room = room;
    }

module _ {whole left : List ℕ} {corners_left : List Float} {old now : Output} (p : Putting whole left corners_left old now) where
  pub putting_done : length left < row_size → Put whole old now
  unfolding front_rows flat_map
  putting_done h =
      let z : row_count (length left) ≡ 0 = omega arith in
      as_text (sym (append-nil p.text) ∙ ap (λ (n : ℕ). p.text ++ flat_map row_bytes (front_rows n left corners_left)) (sym z) ∙ p.rest) p.put

  module _ {numbers : List ℕ} {quad : List Float} {then : List ℕ} {corners_then : List Float} (cut : Cut left corners_left numbers quad then corners_then) where
    stand_both : row_stands numbers quad && all stands_of (candidates then corners_then) ≡ true
    unfolding all
    stand_both = ap (all stands_of) (sym (candidates_are cut)) ∙ p.stand

    pub next_stands : row_stands numbers quad ≡ true
    next_stands = first_so (row_stands numbers quad) (all stands_of (candidates then corners_then)) stand_both

    pub next_good : good_row (front_row numbers quad) ≡ true
    next_good = stands_good numbers quad next_stands

    next_rest : (p.text ++ row_bytes (front_row numbers quad)) ++ bytes_of then corners_then ≡ whole
    next_rest = append_assoc p.text (row_bytes (front_row numbers quad)) (bytes_of then corners_then) ∙ ap (λ (l : List ℕ). p.text ++ l) (sym (bytes_are cut)) ∙ p.rest

    pub next_fits : HasRoom now (length (row_bytes (front_row numbers quad)))
    next_fits =
        let row = row_bytes (front_row numbers quad) in
        omega (arith, p.put, p.room, ap length next_rest, length-append (p.text ++ row) (bytes_of then corners_then), length-append p.text row)

    pub putting_more : {new : Output} → Put (row_bytes (front_row numbers quad)) now new → Putting whole then corners_then old new
    putting_more q =
        let row = row_bytes (front_row numbers quad) in
        record {
          stand = second_so (row_stands numbers quad) (all stands_of (candidates then corners_then)) stand_both;
          text = p.text ++ row;
          put = put_more refl (omega (arith, p.room, ap length p.rest, length-append p.text (bytes_of left corners_left))) p.put q;
          rest = next_rest;
          room = p.room;
        }
