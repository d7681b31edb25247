-- A report, row by row: its bytes are those of a reading where each row stands, no id is there twice, and the last row ends with the last byte. Assumes nothing.
use mathlib.Core.Path.{◌≡◌, refl, sym, ap, ap₂, ◌∙◌}
use mathlib.Core.Bool.{Bool, true, false, ◌&&◌, cond, and-true, and-false}
use mathlib.Core.List.{List, [], ◌∷◌, ◌++◌, flat_map}
use Prim.Native.Nat.{ℕ, zero, suc, ◌+◌, ◌-◌, ◌≤◌, ◌<◌}
use native.Mathlib.Omega.{arith}
use borrow.Author.Tests.{eq-eqb, ne_eqb, eqb-true}
use lib.Dec.{eqb}
use lib.ListN.{length, get_or, drop, replicate, length-append, length-drop}
use lib.Seq.{drop-drop}
use Rattle.lists.specs.Tab.{all}
use Rattle.std.proofs.lemmas.Bool.{and_parts}
use Rattle.std.specs.Cmp.{both_ways, first_so}
use Rattle.refusals.specs.Outcome.{Outcome, accepted, refused}
use Rattle.reader.specs.Reading.{Tag}
use Rattle.report.specs.Reading.{good_row, id_of, distinct, is_reading}
use Rattle.report.specs.Bytes.{low_first, row_bytes, report_of}
use Rattle.report.specs.Rows.{same}
use Rattle.report.specs.Report.{row_in, rows_in, count_in, report_says, is_report}
use Rattle.report.specs.Steps.{Candidate, begins_with, bytes_stand, byte_candidates, is_met, meet, placed}
use Rattle.report.proofs.Same.{same_refl, same-append, begins_means}
use Rattle.report.proofs.Report.{length-rows_in, report_means}
use Rattle.report.proofs.Placed.{stands_of, said, Sound, placed_is, placed_more, placed-not, placed_met}
use Rattle.report_reader.specs.Steps.{ends_at}
use Rattle.report_reader.proofs.Pieces.{Stood-number}
use Rattle.report_reader.proofs.Stands.{stands_good}

-- ---- the rows that are looked at

sound : (n : ℕ) (bytes : List ℕ) → Sound (byte_candidates n bytes)
unfolding Sound byte_candidates
sound zero bytes = omega arith
sound (suc n) bytes = (stands_good bytes, sound n (drop (length (row_bytes (row_in bytes))) bytes))

said_is : (n : ℕ) (bytes : List ℕ) → said (byte_candidates n bytes) ≡ rows_in n bytes
unfolding byte_candidates rows_in
said_is zero bytes = refl
said_is (suc n) bytes = ap (λ (l : List (Outcome Tag)). row_in bytes ∷ l) (said_is n (drop (length (row_bytes (row_in bytes))) bytes))

abbrev bytes_of : ℕ → List ℕ → List ℕ
bytes_of n bytes = flat_map row_bytes (rows_in n bytes)

-- ---- good rows in these bytes

none_left : (bytes : List ℕ) → same [] bytes ≡ eqb 0 (length bytes)
unfolding same
none_left [] = refl
none_left (b ∷ l) = sym (ne_eqb 0 (suc (length l)) (λ e. omega arith))

eqb_shift : (k a b n : ℕ) → n ≡ k + b → eqb (k + a) n ≡ eqb a b
eqb_shift k a b n e =
    both_ways (eqb (k + a) n) (eqb a b) (λ h. eq-eqb a b (omega (arith, eqb-true (k + a) n h))) (λ h. eq-eqb (k + a) n (omega (arith, eqb-true a b h)))

-- one row more, x its bytes, g whether it is good; G and A say of the rows behind it what g and both tests say of it
module _ (g G A : Bool) (x F bytes : List ℕ) where
  abbrev rest : List ℕ
  rest = drop (length x) bytes

  begun : (S E : Bool) → G && S ≡ A && E → (g && G) && (true && S) ≡ ((g && true) && A) && E
  begun S E h = go g
    where
      go : (g : Bool) → (g && G) && S ≡ ((g && true) && A) && E
      go true = h
      go false = refl

  not_begun : (S E : Bool) → (g && G) && (false && S) ≡ ((g && false) && A) && E
  not_begun S E = go g G
    where
      go : (g G : Bool) → (g && G) && false ≡ ((g && false) && A) && E
      go true true = refl
      go true false = refl
      go false G = refl

  one_more : G && same F rest ≡ A && eqb (length F) (length rest) → (g && G) && same (x ++ F) bytes ≡ ((g && begins_with x bytes) && A) && eqb (length (x ++ F)) (length bytes)
  one_more h = ap (λ (b : Bool). (g && G) && b) (same-append x F bytes) ∙ go (begins_with x bytes) refl
    where
      go : (b : Bool) → begins_with x bytes ≡ b → (g && G) && (b && same F rest) ≡ ((g && b) && A) && eqb (length (x ++ F)) (length bytes)
      go true e =
          let long : length bytes ≡ length x + length rest = ap length (begins_means x bytes e) ∙ length-append x rest in
          begun (same F rest) (eqb (length F) (length rest)) h
          ∙ ap (λ (b : Bool). ((g && true) && A) && b) (sym (ap (λ (n : ℕ). eqb n (length bytes)) (length-append x F) ∙ eqb_shift (length x) (length F) (length rest) (length bytes) long))
      go false e = not_begun (same F rest) (eqb (length (x ++ F)) (length bytes))

pub stand_same : (n : ℕ) (bytes : List ℕ)
    → all good_row (rows_in n bytes) && same (bytes_of n bytes) bytes ≡ all stands_of (byte_candidates n bytes) && eqb (length (bytes_of n bytes)) (length bytes)
unfolding all rows_in byte_candidates flat_map bytes_stand
stand_same zero bytes = none_left bytes
stand_same (suc n) bytes =
    let behind = drop (length (row_bytes (row_in bytes))) bytes in
    one_more (good_row (row_in bytes)) (all good_row (rows_in n behind)) (all stands_of (byte_candidates n behind)) (row_bytes (row_in bytes)) (bytes_of n behind) bytes (stand_same n behind)

-- ---- the whole report

in_order : (G D S A E : Bool) → G && S ≡ A && E → (G && D) && S ≡ (A && D) && E
in_order G true S A E h = ap (λ (g : Bool). g && S) (and-true G) ∙ h ∙ ap (λ (a : Bool). a && E) (sym (and-true A))
in_order G false S A E h = ap (λ (g : Bool). g && S) (and-false G) ∙ ap (λ (a : Bool). a && E) (sym (and-false A))

ends : (b : Bool) (at n : ℕ) → ends_at n (cond b (accepted at) (refused 20)) ≡ b && eqb at n
ends true at n = refl
ends false at n = refl

module _ (report : List ℕ) (some : 2 ≤ length report) where
  abbrev n : ℕ
  n = count_in report

  abbrev bytes : List ℕ
  bytes = drop 2 report

  abbrev pub rows : List Candidate
  rows = byte_candidates n bytes

  number_begins : ((k : ℕ) → get_or report k 0 < 256) → begins_with (low_first 2 (length (rows_in n bytes))) report ≡ true
  unfolding count_in low_first
  number_begins byte =
      ap (λ (k : ℕ). begins_with (low_first 2 k) report) (length-rows_in n bytes)
      ∙ ap (same (low_first 2 n)) (Stood-number report byte 2 0 some) ∙ same_refl (low_first 2 n)

  pub report_placed : ((k : ℕ) → get_or report k 0 < 256) → is_report report ≡ ends_at (length report) (placed (replicate 1024 false) rows 2)
  unfolding is_report is_reading report_says report_of low_first
  report_placed byte =
      let F = bytes_of n bytes in
      let A = all stands_of rows in
      let D = distinct (flat_map id_of (rows_in n bytes)) in
      let G = all good_row (rows_in n bytes) in
      ap (λ (b : Bool). (G && D) && b) (same-append (low_first 2 (length (rows_in n bytes))) F report ∙ ap (λ (b : Bool). b && same F bytes) (number_begins byte))
      ∙ in_order G D (same F bytes) A (eqb (length F) (length bytes)) (stand_same n bytes)
      ∙ ap (λ (b : Bool). (A && D) && b) (sym (eqb_shift 2 (length F) (length bytes) (length report) (omega (arith, length-drop 2 report))))
      ∙ sym (ap (ends_at (length report)) (placed_is rows 2 (sound n bytes) ∙ ap (λ (l : List (Outcome Tag)). cond (A && distinct (flat_map id_of l)) (accepted (2 + length (flat_map row_bytes l))) (refused 20)) (said_is n bytes))
      ∙ ends (A && D) (2 + length F) (length report))

-- ---- the rows of a report stand

pub report_stands : (report : List ℕ) → is_report report ≡ true → all stands_of (byte_candidates (count_in report) (drop 2 report)) ≡ true
unfolding is_reading report_says report_of low_first
report_stands report h =
    let n = count_in report in
    let bytes = drop 2 report in
    let said = rows_in n bytes in
    let m = report_means report h in
    let good = first_so (all good_row said) (distinct (flat_map id_of said)) m.0 in
    let these : bytes_of n bytes ≡ bytes = ap (drop 2) m.1 in
    let both : all good_row said && same (bytes_of n bytes) bytes ≡ true =
    ap₂ (λ (a : Bool) (b : Bool). a && b) good (ap (λ (l : List ℕ). same l bytes) these ∙ same_refl bytes) in
    first_so (all stands_of (byte_candidates n bytes)) (eqb (length (bytes_of n bytes)) (length bytes)) (sym (stand_same n bytes) ∙ both)

-- ---- the first pass: what is left to be looked at

module _ (report : List ℕ) (n : ℕ) where
  -- the bytes from a place on, and the row there
  abbrev from : ℕ → List ℕ
  from at = drop at report

  abbrev after : ℕ → ℕ
  after at = at + length (row_bytes (row_in (from at)))

  abbrev pub left : ℕ → ℕ → List Candidate
  left q at = byte_candidates (n - q) (from at)

  module _ (q at : ℕ) (h : q < n) where
    one_less : n - q ≡ suc (n - (q + 1))
    one_less = omega arith

    left_next : left q at ≡ record { row = row_in (from at); stands = bytes_stand (from at) } ∷ left (q + 1) (after at)
    unfolding byte_candidates
    left_next =
        ap (λ (k : ℕ). byte_candidates k (from at)) one_less
        ∙ ap (λ (l : List ℕ). record { row = row_in (from at); stands = bytes_stand (from at) } ∷ byte_candidates (n - (q + 1)) l) (drop-drop (length (row_bytes (row_in (from at)))) at report)

    pub rows_next : rows_in (n - q) (from at) ≡ row_in (from at) ∷ rows_in (n - (q + 1)) (from (after at))
    unfolding rows_in
    rows_next =
        ap (λ (k : ℕ). rows_in k (from at)) one_less
        ∙ ap (λ (l : List ℕ). row_in (from at) ∷ rows_in (n - (q + 1)) l) (drop-drop (length (row_bytes (row_in (from at)))) at report)

    -- of rows that all stand, the next one does, and so do those behind it
    pub stands_next : all stands_of (left q at) ≡ true → (bytes_stand (from at) ≡ true) × (all stands_of (left (q + 1) (after at)) ≡ true)
    unfolding all
    stands_next e = and_parts (bytes_stand (from at)) (all stands_of (left (q + 1) (after at))) (ap (all stands_of) (sym left_next) ∙ e)

    module _ (met : List Bool) where
      abbrev candidate : Candidate
      candidate = record { row = row_in (from at); stands = bytes_stand (from at) }

      next : placed met (left q at) at ≡ placed met (candidate ∷ left (q + 1) (after at)) at
      next = ap (λ (l : List Candidate). placed met l at) left_next

      pub fallen : bytes_stand (from at) ≡ false → placed met (left q at) at ≡ refused 20
      fallen e = next ∙ placed-not met candidate (left (q + 1) (after at)) at e

      pub met_before : is_met met (row_in (from at)) ≡ true → placed met (left q at) at ≡ refused 20
      met_before e = next ∙ placed_met met candidate (left (q + 1) (after at)) at e

      pub goes_on : bytes_stand (from at) ≡ true → is_met met (row_in (from at)) ≡ false → placed met (left q at) at ≡ placed (meet met (row_in (from at))) (left (q + 1) (after at)) (after at)
      goes_on e f = next ∙ placed_more met candidate (left (q + 1) (after at)) at e f

  pub none_left_over : (q at : ℕ) (met : List Bool) → n ≤ q → placed met (left q at) at ≡ accepted at
  unfolding placed byte_candidates
  none_left_over q at met h = let z : n - q ≡ 0 = omega arith in ap (λ (k : ℕ). placed met (byte_candidates k (from at)) at) z
