-- The law of reported lists, carried to answers and outputs that equal the definitions. Assumes nothing.
use mathlib.Core.Path.{◌≡◌, refl, sym, ap, ◌∙◌}
use mathlib.Core.Bool.{Bool, true, false, cond}
use mathlib.Core.List.{List}
use Prim.Native.Nat.{ℕ, ◌*◌, ◌≤◌}
use native.Mathlib.Omega.{arith}
use lib.Dec.{ltb}
use lib.Ieee.{Float}
use lib.ListN.{length}
use Rattle.lists.specs.Front.{in_front}
use Rattle.refusals.specs.Outcome.{Outcome, accepted, refused}
use Rattle.refusals.specs.declared.Frame.{Frame}
use Rattle.points.specs.Numbers.{quad_size}
use Rattle.tables.specs.declared.Family.{Family}
use Rattle.reader.specs.Reading.{Tag}
use Rattle.listing.specs.Repeated.{listed}
use Rattle.listing.specs.Listing.{row_size, most_quads, readings, Listing, listing_of}
use Rattle.listing.proofs.Room.{good_list}
use Rattle.report.specs.Bytes.{report_of}
use Rattle.muosleap.specs.Quads.{decode_quads}
use Rattle.muosleap.proofs.ListReading.{Accepted-means, answer_cases}
use Rattle.muosleap_report.specs.Reports.{Writing, writing_of, put_bytes, write_report}
use Rattle.paper.specs.Reports.{rows_left, corners_left}
use Rattle.paper.proofs.Repeated.{refused_not, other_number}
use Rattle.paper.proofs.Reported.{list}
use Rattle.listed_report.specs.Reported.{report_list, ListReported}

-- what is written of the outputs that a list reading left
abbrev pub write_list : List ℕ → Listing → Outcome ℕ → Writing
write_list report result (accepted n) = write_report (rows_left result n) (corners_left result n) report
write_list report result (refused n) = writing_of (refused n) report

-- bytes that are put into an output are refused by 19 alone
put_not_20 : (bytes report : List ℕ) → (put_bytes bytes report).answer ≡ refused 20 → ⊥
put_not_20 bytes report = go (ltb (length report) (length bytes))
  where
    go : (b : Bool) → (cond b (writing_of (refused 19) report) (writing_of (accepted (length bytes)) (in_front bytes report))).answer ≡ refused 20 → ⊥
    go true e = other_number 19 20 (λ z. omega arith) e
    go false e = refused_not 20 (length bytes) ⊥ (sym e)

module _ (plane : List ℕ) (frame : Frame) (family : Family) (codes : List ℕ) (quads : List Float) (rows : List ℕ) (corners : List Float) where
  abbrev result : Listing
  result = decode_quads plane frame family codes quads rows corners

  abbrev said : List (Outcome Tag)
  said = listed (readings plane frame family codes quads)

  -- an accepted list has few quads, and its outputs have room for them
  pub room : (n : ℕ) → result.answer ≡ accepted n → (n ≤ most_quads) × (row_size * n ≤ length rows) × (quad_size * n ≤ length corners)
  room n a =
      let r = Accepted-means plane frame quads rows corners family codes n a in
      let g = good_list r.good_list in
      (omega (arith, g.few, r.count), omega (arith, g.row_room, r.count), omega (arith, g.corner_room, r.count))

  reported_is : (report : List ℕ) → write_list report result result.answer ≡ report_list said report result.answer
  reported_is report = go result.answer refl
    where
      go : (o : Outcome ℕ) → result.answer ≡ o → write_list report result o ≡ report_list said report o
      go (accepted n) a = list plane frame family codes quads rows corners n a report
      go (refused n) a = refl

  never_20 : (report : List ℕ) → (report_list said report result.answer).answer ≡ refused 20 → ⊥
  never_20 report =
      answer_cases plane frame quads rows corners family codes (λ o. (report_list said report o).answer ≡ refused 20 → ⊥)
      (other_number 1 20 (λ z. omega arith)) (other_number 6 20 (λ z. omega arith)) (other_number 16 20 (λ z. omega arith)) (put_not_20 (report_of said) report)

  -- a list reading that answers and leaves what `decode_quads` says, and a writing of what it left
  pub list_reported : (report : List ℕ) (read : Outcome ℕ) (rows' : List ℕ) (corners' : List Float) (answer : Outcome ℕ) (report' : List ℕ)
      → listing_of read rows' corners' ≡ result
      → writing_of answer report' ≡ write_list report (listing_of read rows' corners') read
      → ListReported plane frame family codes quads rows corners report answer rows' corners' report'
  list_reported report read rows' corners' answer report' e w =
      let is : writing_of answer report' ≡ report_list said report result.answer = w ∙ ap (λ (x : Listing). write_list report x x.answer) e ∙ reported_is report in
      record {
        rows_read = ap (λ (x : Listing). x.rows) e;
        corners_read = ap (λ (x : Listing). x.corners) e;
        written = is;
        never_20 = λ a. never_20 report (sym (ap (λ (x : Writing). x.answer) is) ∙ a);
      }
