-- The bytes of a row are read as the row, the report of a reading as the reading, and a report is that of what it says. Assumes nothing.
use mathlib.Core.Path.{◌≡◌, refl, sym, ap, ap₂, ◌∙◌}
use mathlib.Core.Bool.{Bool, true, ◌&&◌, and-true}
use mathlib.Core.List.{List, [], ◌∷◌, ◌++◌, flat_map, append-nil, append_assoc}
use Prim.Native.Nat.{ℕ, zero, suc, ◌^◌, ◌≤◌, ◌<◌}
use native.Mathlib.Omega.{arith}
use lib.Ieee.{Float, nan, binary32, fits, to_bits, of_bits}
use lib.Ieee.Bits.{is_true, of_bits-to_bits, to_bits-lt, of_bits-fits}
use lib.ListN.{length, get_or, drop}
use lib.Seq.{drop-append_seam}
use Rattle.lists.specs.Tab.{all}
use Rattle.lists.proofs.All.{all_at}
use Rattle.std.proofs.lemmas.Float.{T_from_true}
use Rattle.std.proofs.lemmas.Bool.{and_parts}
use Rattle.std.specs.Cmp.{first_so, second_so}
use Rattle.refusals.specs.Outcome.{Outcome, accepted, refused}
use Rattle.points.specs.declared.Point.{Point}
use Rattle.points.specs.declared.Quad.{Quad}
use Rattle.points.specs.Numbers.{numbers_of}
use Rattle.reader.specs.Reading.{Tag}
use Rattle.listing.specs.Listing.{corners_of}
use Rattle.report.specs.Reading.{good_row, is_reading}
use Rattle.report.specs.Bytes.{low_first, float_bytes, row_bytes, report_of}
use Rattle.report.specs.Rows.{same}
use Rattle.report.specs.Report.{number_of, row_in, rows_in, count_in, report_says, is_report}
use Rattle.report.specs.Steps.{begins_with, bytes_stand}
use Rattle.report.proofs.Same.{same_refl, same-eq, begins_with_lem}
use Rattle.report.proofs.Good.{good_tag}
use Rattle.report.proofs.LowFirst.{number_back}

-- the corner numbers of a row are f32 values, as those of a slice of them are
abbrev pub fit_row : Outcome Tag → Bool
fit_row row = all (fits binary32) (corners_of row)

abbrev pub FitRow : Outcome Tag → Type 0
FitRow row = fit_row row ≡ true

-- a corner number, a corner and a quad as they are read from their own bytes
abbrev reread : Float → Float
reread x = of_bits binary32 (number_of (float_bytes x))

abbrev reread_point : Point → Point
reread_point p = record { x = reread p.x; y = reread p.y }

abbrev reread_quad : Quad → Quad
reread_quad q = record { q0 = reread_point q.q0; q1 = reread_point q.q1; q2 = reread_point q.q2; q3 = reread_point q.q3 }

reread-same : (x : Float) → fits binary32 x ≡ true → reread x ≡ x
reread-same x e = ap (of_bits binary32) (number_back 4 (to_bits binary32 x) (to_bits-lt binary32 x (T_from_true _ e))) ∙ of_bits-to_bits binary32 x (T_from_true _ e)

abbrev tagged : ℕ → ℕ → ℕ → Quad → Outcome Tag
tagged id turn differing corners = accepted (record { id = id; turn = turn; differing = differing; corners = corners })

module _ (quad : Quad) (fit : all (fits binary32) (numbers_of quad) ≡ true) where
  reread_number : (k : ℕ) → k < 8 → fits binary32 (get_or (numbers_of quad) k nan) ≡ true
  reread_number k h = all_at (fits binary32) (numbers_of quad) k nan fit h

  reread_quad_lem : reread_quad quad ≡ quad
  reread_quad_lem =
      let x0 = reread-same quad.q0.x (reread_number 0 (omega arith)) in
      let y0 = reread-same quad.q0.y (reread_number 1 (omega arith)) in
      let x1 = reread-same quad.q1.x (reread_number 2 (omega arith)) in
      let y1 = reread-same quad.q1.y (reread_number 3 (omega arith)) in
      let x2 = reread-same quad.q2.x (reread_number 4 (omega arith)) in
      let y2 = reread-same quad.q2.y (reread_number 5 (omega arith)) in
      let x3 = reread-same quad.q3.x (reread_number 6 (omega arith)) in
      let y3 = reread-same quad.q3.y (reread_number 7 (omega arith)) in
      λ j. record { q0 = record { x = x0 j; y = y0 j }; q1 = record { x = x1 j; y = y1 j }; q2 = record { x = x2 j; y = y2 j }; q3 = record { x = x3 j; y = y3 j } }

  -- by the map: a turn follows or not, and differing modules or not
  tag_back : (id turn differing : ℕ) (rest : List ℕ) → id < 256 ^ 2 → row_in (row_bytes (tagged id turn differing quad) ++ rest) ≡ tagged id turn differing quad
  unfolding row_in low_first flat_map
  tag_back id turn differing rest h = go turn differing
    where
      same : (t d : ℕ) → tagged (number_of (low_first 2 id)) t d (reread_quad quad) ≡ tagged id t d quad
      same t d =
          let id_back = number_back 2 id h in
          λ j. tagged (id_back j) t d (reread_quad_lem j)

      go : (t d : ℕ) → row_in (row_bytes (tagged id t d quad) ++ rest) ≡ tagged id t d quad
      go zero zero = same 0 0
      go zero (suc d) = same 0 (suc d)
      go (suc t) zero = same (suc t) 0
      go (suc t) (suc d) = same (suc t) (suc d)

pub row_back : (row : Outcome Tag) (rest : List ℕ) → good_row row ≡ true → FitRow row → row_in (row_bytes row ++ rest) ≡ row
unfolding row_in
row_back (accepted tag) rest good fit = tag_back tag.corners fit tag.id tag.turn tag.differing rest (omega (arith, (good_tag tag good).id_lt))
row_back (refused n) rest good fit = refl

-- its bytes stand, as those of a good row
pub row_stands : (row : Outcome Tag) (rest : List ℕ) → good_row row ≡ true → FitRow row → bytes_stand (row_bytes row ++ rest) ≡ true
unfolding bytes_stand
row_stands row rest good fit =
    ap (λ (r : Outcome Tag). good_row r && begins_with (row_bytes r) (row_bytes row ++ rest)) (row_back row rest good fit)
    ∙ ap₂ ◌&&◌ good (begins_with_lem (row_bytes row) rest)

-- all rows, one after the other
pub rows_in_back : (said : List (Outcome Tag)) (rest : List ℕ) → all good_row said ≡ true → all fit_row said ≡ true
    → rows_in (length said) (flat_map row_bytes said ++ rest) ≡ said
unfolding all flat_map rows_in
rows_in_back [] rest good fit = refl
rows_in_back (row ∷ said) rest good fit =
    let more = flat_map row_bytes said ++ rest in
    let is = row_back row more (first_so (good_row row) (all good_row said) good) (first_so (fit_row row) (all fit_row said) fit) in
    ap (rows_in (suc (length said))) (append_assoc (row_bytes row) (flat_map row_bytes said) rest)
    ∙ ap (λ (r : Outcome Tag). r ∷ rows_in (length said) (drop (length (row_bytes r)) (row_bytes row ++ more))) is
    ∙ ap (λ (bytes : List ℕ). row ∷ rows_in (length said) bytes) (drop-append_seam (row_bytes row) more)
    ∙ ap (λ (l : List (Outcome Tag)). row ∷ l) (rows_in_back said rest (second_so (good_row row) (all good_row said) good) (second_so (fit_row row) (all fit_row said) fit))

-- the report of a reading has the reading's number of rows and two bytes at least; it says the reading, so that it is a report
pub count_back : (said : List (Outcome Tag)) → length said < 65536 → count_in (report_of said) ≡ length said
unfolding count_in report_of low_first
count_back said h = number_back 2 (length said) h

pub report_some : (said : List (Outcome Tag)) → 2 ≤ length (report_of said)
unfolding report_of low_first
report_some said = omega arith

module _ (said : List (Outcome Tag)) (good : all good_row said ≡ true) (fit : all fit_row said ≡ true) (few : length said < 65536) where
  pub says_back : report_says (report_of said) ≡ said
  unfolding report_says report_of low_first
  says_back =
      ap (λ (n : ℕ). rows_in n (flat_map row_bytes said)) (count_back said few)
      ∙ ap (rows_in (length said)) (sym (append-nil (flat_map row_bytes said)))
      ∙ rows_in_back said [] good fit

  pub report_back : is_report (report_of said) ≡ is_reading said
  unfolding is_report
  report_back =
      ap (λ (l : List (Outcome Tag)). is_reading l && same (report_of l) (report_of said)) says_back
      ∙ ap (λ (b : Bool). is_reading said && b) (same_refl (report_of said)) ∙ and-true (is_reading said)

-- a report is that of the reading that it says
pub report_means : (report : List ℕ) → is_report report ≡ true → (is_reading (report_says report) ≡ true) × (report_of (report_says report) ≡ report)
unfolding is_report
report_means report e =
    let said = report_says report in
    let p = and_parts (is_reading said) (same (report_of said) report) e in
    (p.0, same-eq (report_of said) report p.1)

pub length-rows_in : (n : ℕ) (bytes : List ℕ) → length (rows_in n bytes) ≡ n
unfolding rows_in
length-rows_in zero bytes = refl
length-rows_in (suc n) bytes = ap suc (length-rows_in n (drop (length (row_bytes (row_in bytes))) bytes))

pub length_says : (report : List ℕ) → length (report_says report) ≡ count_in report
unfolding report_says
length_says report = length-rows_in (count_in report) (drop 2 report)

-- ---- the corner numbers that are read are f32 values

bits_fit : (n : ℕ) → fits binary32 (of_bits binary32 n) ≡ true
bits_fit n = is_true (fits binary32 (of_bits binary32 n)) (of_bits-fits binary32 n)

pub refused_fits : (n : ℕ) → FitRow (refused n)
unfolding all
refused_fits n = simp bits_fit
