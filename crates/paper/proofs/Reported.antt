-- Ticket 7 of document 02: every accepted list reading is a reading, so that its report is never refused by 20. Assumes nothing.
use mathlib.Core.Path.{◌≡◌, refl, sym, ap, ap₂, subst, ◌∙◌}
use mathlib.Core.Logic.{⊎_elim}
use mathlib.Core.Bool.{Bool, true, false, false≢true, ◌&&◌, cond}
use mathlib.Core.List.{List, [], ◌∷◌, flat_map}
use Prim.Native.Nat.{ℕ, suc, ◌≤◌, ◌<◌, suc-le-suc}
use native.Mathlib.Nat.{zero-lt-suc}
use native.Mathlib.Omega.{arith}
use borrow.Author.Tests.{le-leb, eq-eqb, eqb-true}
use lib.Dec.{eqb}
use lib.Ieee.{Float}
use lib.ListN.{length, get_or}
use Rattle.lists.proofs.All.{all_of}
use Rattle.std.proofs.lemmas.Bool.{or_cases}
use Rattle.lists.proofs.Flat.{front_left}
use Rattle.refusals.specs.Outcome.{Outcome, accepted, refused}
use Rattle.refusals.specs.declared.Frame.{Frame}
use Rattle.points.specs.Numbers.{quad_size, quad_at}
use Rattle.tables.specs.Table.{bad_table}
use Rattle.tables.specs.declared.Family.{Family}
use Rattle.tables.proofs.Table.{good_table}
use Rattle.tag_families.specs.Families.{family_of, codes_of}
use Rattle.reader.specs.Reading.{Tag}
use Rattle.reader.proofs.Answers.{Answers, reading_answers}
use Rattle.listing.specs.Repeated.{gives_id, given_elsewhere, in_list, listed}
use Rattle.listing.specs.Listing.{row_size, row_of, corners_of, readings, Listing, listing}
use Rattle.listing.proofs.Listing.{read, length-readings, reading_at}
use Rattle.listing.proofs.Repeated.{read_at, length-listed, listed_at, elsewhere_of}
use Rattle.listing.proofs.Room.{good_list}
use Rattle.listing.proofs.Sizes.{row_size_lem, corners_size}
use Rattle.report.specs.Reading.{good_row, id_of, holds, distinct, is_reading}
use Rattle.report.proofs.Good.{tag_good}
use Rattle.muosleap.specs.Quads.{decode_quads, decode_quads_in}
use Rattle.muosleap.proofs.ListReading.{Accepted-means, family_known, in_is}
use Rattle.muosleap_report.specs.Reports.{write_report}
use Rattle.muosleap_report.proofs.Passed.{rows_written}
use Rattle.paper.specs.Reports.{rows_left, corners_left, Reported}

-- ---- rows whose ids are in no two of them

abbrev at : List (Outcome Tag) → ℕ → Outcome Tag
at l p = get_or l p (refused 0)

-- no two rows give the same id
abbrev EachOwn : List (Outcome Tag) → Type 0
EachOwn l = (p q id : ℕ) → p < q → q < length l → gives_id id (at l p) ≡ true → gives_id id (at l q) ≡ true → ⊥

-- an id among those of some rows is given by one of them
giver : (id : ℕ) (l : List (Outcome Tag)) → holds id (flat_map id_of l) ≡ true → (q : ℕ) × (q < length l) × (gives_id id (at l q) ≡ true)
unfolding holds flat_map
giver id [] h = let z : ◌≡◌ {A = ℕ} 0 1 = cc in absurd (omega arith)
giver id (refused n ∷ l) h = let g = giver id l h in (suc g.0, suc-le-suc g.1, g.2)
giver id (accepted tag ∷ l) h =
    ⊎_elim
    (λ e. (0, zero-lt-suc (length l), e))
    (λ e. let g = giver id l e in (suc g.0, suc-le-suc g.1, g.2))
    (or_cases (eqb tag.id id) (holds id (flat_map id_of l)) h)

-- without the first row
rest_own : (row : Outcome Tag) (l : List (Outcome Tag)) → EachOwn (row ∷ l) → EachOwn l
rest_own row l own p q id h k = own (suc p) (suc q) id (suc-le-suc h) (suc-le-suc k)

pub ids_distinct : (l : List (Outcome Tag)) → EachOwn l → distinct (flat_map id_of l) ≡ true
unfolding distinct flat_map
ids_distinct [] own = refl
ids_distinct (refused n ∷ l) own = ids_distinct l (rest_own (refused n) l own)
ids_distinct (accepted tag ∷ l) own = simp (alone (holds tag.id (flat_map id_of l)) refl, ids_distinct l (rest_own (accepted tag) l own))
  where
    alone : (b : Bool) → holds tag.id (flat_map id_of l) ≡ b → holds tag.id (flat_map id_of l) ≡ false
    alone false e = e
    alone true e =
        let g = giver tag.id l e in
        absurd (own 0 (suc g.0) tag.id (zero-lt-suc g.0) (suc-le-suc g.1) (eq-eqb tag.id tag.id refl) g.2)

-- ---- what the rows of a list say

module _ (read : List (Outcome Tag)) where
  -- a row that gives an id is that of a quad which gives it, and no other does
  kept : (q id : ℕ) (o : Outcome Tag) → gives_id id (in_list read q o) ≡ true → (gives_id id o ≡ true) × (given_elsewhere read q id ≡ false)
  kept q id (refused n) g = absurd (false≢true g)
  kept q id (accepted tag) g = go (given_elsewhere read q tag.id) refl g
    where
      go : (b : Bool) → given_elsewhere read q tag.id ≡ b → gives_id id (cond b (refused 18) (accepted tag)) ≡ true → (gives_id id (accepted tag) ≡ true) × (given_elsewhere read q id ≡ false)
      go true e y = absurd (false≢true y)
      go false e y = (y, ap (given_elsewhere read q) (sym (eqb-true tag.id id y)) ∙ e)

  -- so no two rows give the same id: they would both be 18
  listed_own : EachOwn (listed read)
  listed_own p q id h k gp gq =
      let q< : q < length read = omega (arith, length-listed read) in
      let first = kept p id (read_at read p) (ap (gives_id id) (sym (listed_at read p (omega arith))) ∙ gp) in
      let second = kept q id (read_at read q) (ap (gives_id id) (sym (listed_at read q q<)) ∙ gq) in
      false≢true (sym first.1 ∙ elsewhere_of read p id (record { place = q; below = q<; apart = λ e. omega arith; gives = second.0 }))

  -- a good row is one still, or 18
  good_listed : (q : ℕ) (o : Outcome Tag) → good_row o ≡ true → good_row (in_list read q o) ≡ true
  good_listed q (refused n) g = g
  good_listed q (accepted tag) g = go (given_elsewhere read q tag.id)
    where
      go : (b : Bool) → good_row (cond b (refused 18) (accepted tag)) ≡ true
      go true = refl
      go false = g

  listed-is_reading : ((q : ℕ) → q < length read → good_row (read_at read q) ≡ true) → is_reading (listed read) ≡ true
  unfolding is_reading
  listed-is_reading good =
      ap₂ ◌&&◌
      (all_of good_row (listed read) (refused 0) (λ q h. let l : q < length read = omega (arith, length-listed read) in
      ap good_row (listed_at read q l) ∙ good_listed q (read_at read q) (good q l)))
      (ids_distinct (listed read) listed_own)

-- what a quad reads as by itself may stand in a reading
good_row_lem : (codes : List ℕ) → length codes ≤ 1024 → (o : Outcome Tag) → Answers codes o → good_row o ≡ true
good_row_lem codes few (accepted tag) a =
    tag_good tag (record { id_lt = omega arith; turned = omega arith; most = omega arith; corners_pass = a.cornered })
good_row_lem codes few (refused n) a = simp (le-leb 8 n a.0, le-leb n 13 a.1)

pub is_reading_lem : (plane : List ℕ) (frame : Frame) (family : Family) (codes : List ℕ) (quads : List Float) → bad_table family codes ≡ false
    → is_reading (listed (readings plane frame family codes quads)) ≡ true
is_reading_lem plane frame family codes quads t =
    listed-is_reading (readings plane frame family codes quads)
    (λ q h. ap good_row (reading_at plane frame family codes quads q (omega (arith, length-readings plane frame family codes quads)))
    ∙ good_row_lem codes (good_table family codes t).coded.count.most (read plane frame family codes quads q) (reading_answers family codes t (quad_at quads q) plane frame))

-- ---- the report of the rows and the corner numbers that an accepted list reading leaves

pub list : (plane : List ℕ) (frame : Frame) (family : Family) (codes : List ℕ) (quads : List Float) (rows : List ℕ) (corners : List Float) (n : ℕ)
    → let result = decode_quads plane frame family codes quads rows corners in
    result.answer ≡ accepted n → Reported plane frame family codes quads result n
unfolding listing
list plane frame family codes quads rows corners n a report =
    let r = Accepted-means plane frame quads rows corners family codes n a in
    let said = listed (readings plane frame family codes quads) in
    let size : length said ≡ n = length-listed (readings plane frame family codes quads) ∙ length-readings plane frame family codes quads ∙ sym r.count in
    ap₂ (λ (x : List ℕ) (y : List Float). write_report x y report)
    (ap (λ (x : Listing). rows_left x n) r.outcome ∙ front_left row_of row_size row_size_lem said rows n size)
    (ap (λ (x : Listing). corners_left x n) r.outcome ∙ front_left corners_of quad_size corners_size said corners n size)
    ∙ rows_written said (is_reading_lem plane frame family codes quads r.good_table) (omega (arith, (good_list r.good_list).few, r.count)) report

pub list_in : (plane : List ℕ) (frame : Frame) (number : ℕ) (quads : List Float) (rows : List ℕ) (corners : List Float) (n : ℕ)
    → let result = decode_quads_in plane frame number quads rows corners in
    result.answer ≡ accepted n → Reported plane frame (family_of number) (codes_of number) quads result n
list_in plane frame number quads rows corners n a =
    let known = family_known plane frame quads rows corners number n a in
    let lent = in_is plane frame quads rows corners number known in
    subst (λ (x : Listing). Reported plane frame (family_of number) (codes_of number) quads x n) (sym lent)
    (list plane frame (family_of number) (codes_of number) quads rows corners n (ap (λ (x : Listing). x.answer) (sym lent) ∙ a))
