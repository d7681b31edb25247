-- What a good row is, and how many bytes a row has. Assumes nothing.
use mathlib.Core.Path.{◌≡◌, refl}
use mathlib.Core.Logic.{◌⊎◌, inl, inr}
use mathlib.Core.Bool.{true, false, not, ◌&&◌}
use mathlib.Core.List.{◌++◌, flat_map}
use Prim.Native.Nat.{ℕ, zero, suc, ◌+◌, ◌≤◌, ◌<◌}
use native.Mathlib.Omega.{arith}
use borrow.Author.Tests.{ltb-true, leb-true, eqb-true, not-true, lt-ltb, le-leb}
use lib.Dec.{leb, ltb, eqb}
use lib.ListN.{length}
use Rattle.std.proofs.lemmas.Bool.{or_cases}
use Rattle.std.specs.Cmp.{first_so, second_so}
use Rattle.refusals.specs.Outcome.{Outcome, accepted, refused}
use Rattle.places.specs.Corners.{bad_corners}
use Rattle.points.specs.Numbers.{numbers_of}
use Rattle.reader.specs.Reading.{Tag}
use Rattle.report.specs.Reading.{row_refusal, good_row}
use Rattle.report.specs.Bytes.{low_first, unless_zero, one_unless_zero, float_bytes, row_bytes}

pub record GoodTag (tag : Tag) : Type 0 where
  pub id_lt : tag.id < 1024
  pub turned : tag.turn ≤ 3
  pub most : tag.differing ≤ 63
  pub corners_pass : bad_corners tag.corners ≡ false

module _ (tag : Tag) where
  pub good_tag : good_row (accepted tag) ≡ true → GoodTag tag
  good_tag h =
      let id = ltb tag.id 1024 in
      let turn = leb tag.turn 3 in
      let differing = leb tag.differing 63 in
      let corners = not (bad_corners tag.corners) in
      let behind = second_so id (turn && (differing && corners)) h in
      let last = second_so turn (differing && corners) behind in
      record {
        id_lt = ltb-true tag.id 1024 (first_so id (turn && (differing && corners)) h);
        turned = leb-true tag.turn 3 (first_so turn (differing && corners) behind);
        most = leb-true tag.differing 63 (first_so differing corners last);
        corners_pass = not-true (bad_corners tag.corners) (second_so differing corners last);
      }

  pub tag_good : GoodTag tag → good_row (accepted tag) ≡ true
  tag_good g = simp (lt-ltb tag.id 1024 g.id_lt, le-leb tag.turn 3 g.turned, le-leb tag.differing 63 g.most, g.corners_pass)

-- a row's refusal is a byte, and no 0
pub refusal_range : (n : ℕ) → row_refusal n ≡ true → (8 ≤ n) × (n ≤ 18)
refusal_range n h = go (or_cases (leb 8 n && leb n 13) (eqb n 18) h)
  where
    go : (leb 8 n && leb n 13 ≡ true) ⊎ (eqb n 18 ≡ true) → (8 ≤ n) × (n ≤ 18)
    go (inl b) = (leb-true 8 n (first_so (leb 8 n) (leb n 13) b), omega (arith, leb-true n 13 (second_so (leb 8 n) (leb n 13) b)))
    go (inr e) = (omega (arith, eqb-true n 18 e), omega (arith, eqb-true n 18 e))

-- a good row, case by case
abbrev pub Good : Outcome Tag → Type 0
Good (accepted tag) = GoodTag tag
Good (refused n) = (8 ≤ n) × (n ≤ 18)

pub good_row_lem : (row : Outcome Tag) → good_row row ≡ true → Good row
good_row_lem (accepted tag) h = good_tag tag h
good_row_lem (refused n) h = refusal_range n h

-- ---- sizes

pub length-unless_zero : (n : ℕ) → length (unless_zero n) ≡ one_unless_zero n
length-unless_zero zero = refl
length-unless_zero (suc n) = refl

pub one_at_most : (n : ℕ) → one_unless_zero n ≤ 1
one_at_most zero = omega arith
one_at_most (suc n) = omega arith

pub length_tag : (tag : Tag) → length (row_bytes (accepted tag)) ≡ 35 + one_unless_zero tag.turn + one_unless_zero tag.differing
unfolding low_first flat_map
length_tag tag = go tag.turn tag.differing
  where
    go : (turn differing : ℕ) → suc (length (low_first 2 tag.id ++ (unless_zero turn ++ (unless_zero differing ++ flat_map float_bytes (numbers_of tag.corners)))))
        ≡ 35 + one_unless_zero turn + one_unless_zero differing
    go zero zero = refl
    go zero (suc d) = refl
    go (suc t) zero = refl
    go (suc t) (suc d) = refl

-- the size of a row, case by case
abbrev pub row_length : Outcome Tag → ℕ
row_length (accepted tag) = 35 + one_unless_zero tag.turn + one_unless_zero tag.differing
row_length (refused n) = 2

pub length_row : (row : Outcome Tag) → length (row_bytes row) ≡ row_length row
length_row (accepted tag) = length_tag tag
length_row (refused n) = refl

-- a row has two bytes or more, and 37 at the most
pub row_some : (row : Outcome Tag) → 2 ≤ length (row_bytes row)
row_some (accepted tag) = omega (arith, length_tag tag)
row_some (refused n) = omega arith

pub row_most : (row : Outcome Tag) → length (row_bytes row) ≤ 37
row_most (accepted tag) = omega (arith, length_tag tag, one_at_most tag.turn, one_at_most tag.differing)
row_most (refused n) = omega arith
