-- What a reading can answer: a tag with an id that the table has, or a refusal from 8 to 13. Assumes nothing.
use mathlib.Core.Path.{◌≡◌, sym, subst, ◌∙◌}
use mathlib.Core.Logic.{⊎_elim}
use mathlib.Core.Bool.{Bool, true, false, cond}
use mathlib.Core.List.{List}
use Prim.Native.Nat.{ℕ, ◌-◌, ◌≤◌, ◌<◌}
use native.Mathlib.Omega.{arith}
use lib.Dec.{ltb}
use lib.ListN.{length}
use Rattle.std.proofs.lemmas.Bool.{cases_Bool}
use Rattle.refusals.specs.Outcome.{Outcome, accepted, refused}
use Rattle.refusals.specs.declared.Frame.{Frame}
use Rattle.points.specs.declared.Quad.{Quad}
use Rattle.points.proofs.Any.{any_answered}
use Rattle.tables.specs.Table.{bad_table}
use Rattle.tables.specs.declared.Family.{Family}
use Rattle.tables.proofs.Table.{good_table}
use Rattle.places.specs.Corners.{bad_corner, bad_corners}
use Rattle.places.specs.Place.{axes_of}
use Rattle.levels.specs.Levels.{least_of, greatest_of, middle_of, word_of, unsure_of, code_of}
use Rattle.search.specs.Search.{Seen, search}
use Rattle.search.proofs.Search.{Means, search_means}
use Rattle.reader.specs.Reading.{levels_of, Tag, with_corners, tag_of, reading}
use Rattle.reader.proofs.Order.{reading_8, reading_cases}

-- a tag that is read: fewer modules differ than the match threshold, which is at most 64, and refusal 8 lets its corners through
pub record Whole (codes : List ℕ) (tag : Tag) : Type 0 where
  pub known : tag.id < length codes
  pub turned : tag.turn < 4
  pub near : tag.differing < 64
  pub cornered : bad_corners tag.corners ≡ false

abbrev pub Answers : List ℕ → Outcome Tag → Type 0
Answers codes (accepted tag) = Whole codes tag
Answers codes (refused n) = (8 ≤ n) × (n ≤ 13)

-- what is needed of the levels' answer: its refusals, 11 and 12, lie in 8 to 13, and a word asks for nothing
Bits : Outcome ℕ → Type 0
Bits (accepted word) = 0 ≤ word
Bits (refused n) = (8 ≤ n) × (n ≤ 13)

code_answers : (levels : List ℕ) (band allowed : ℕ) → Bits (code_of levels band allowed)
unfolding code_of Bits
code_answers levels band allowed = go (ltb (greatest_of levels - least_of levels) 50) (ltb allowed (unsure_of (middle_of levels) band levels))
  where
    go : (a b : Bool) → Bits (cond a (refused 11) (cond b (refused 12) (accepted (word_of (middle_of levels) levels))))
    go true b = (omega arith, omega arith)
    go false true = (omega arith, omega arith)
    go false false = omega arith

module _ (family : Family) (codes : List ℕ) (table : bad_table family codes ≡ false) (quad : Quad) where
  module _ (good : bad_corners quad ≡ false) where
    -- a word is refused by 13
    seen_answers : (word : ℕ) (o : Outcome Seen) → Means family.hamming_distance codes family.edge 4 0 word o → Answers codes (with_corners quad o)
    seen_answers word (accepted seen) m = record {
      known = m.code.inside;
      turned = omega (arith, m.turned, m.in_time);
      near = omega (arith, m.counted, m.code.near, (good_table family codes table).coded.near.most);
      cornered = any_answered bad_corner seen.turn quad ∙ good;
    }
    seen_answers word (refused n) m = (omega (arith, m.thirteen), omega (arith, m.thirteen))

    tag_answers : (o : Outcome ℕ) → Bits o → Answers codes (tag_of family codes quad o)
    unfolding tag_of Bits
    tag_answers (accepted word) b =
        let near = (good_table family codes table).coded.near.most in
        seen_answers word (search word family.hamming_distance codes family.edge) (search_means family.hamming_distance codes family.edge (omega arith) word)
    tag_answers (refused n) b = b

  pub reading_answers : (plane : List ℕ) (frame : Frame) → Answers codes (reading plane frame family codes quad)
  reading_answers plane frame =
      let levels = levels_of plane frame family (axes_of quad) in
      ⊎_elim
      (λ bad. subst (Answers codes) (sym (reading_8 plane frame family codes quad bad)) (omega arith, omega arith))
      (λ good. reading_cases plane frame family codes quad (Answers codes)
      (omega arith, omega arith) (omega arith, omega arith) (omega arith, omega arith)
      (tag_answers good (code_of levels 10 3) (code_answers levels 10 3)))
      (cases_Bool (bad_corners quad))
