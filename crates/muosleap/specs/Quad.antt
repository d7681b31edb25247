-- The quad reader as an entry: "The quad reader's own are 1, 6 and 8 to 13". Assumes nothing.
use Rattle.std.specs.Prelude.{ℕ, cond, not, List, length, Result}
use Rattle.refusals.specs.Outcome.{Outcome, refused}
use Rattle.refusals.specs.Pixels.{bad_frame}
use Rattle.refusals.specs.declared.Frame.{Frame}
use Rattle.points.specs.declared.Quad.{Quad}
use Rattle.tables.specs.Table.{bad_table}
use Rattle.tables.specs.declared.Family.{Family}
use Rattle.tag_families.specs.Families.{is_family, family_of, codes_of}
use Rattle.reader.specs.Reading.{Tag, reading}
use Rattle.reader.specs.Answer.{paper_reading}
use Rattle.reader.specs.declared.Reading.{Reading}
use Rattle.refusals.specs.Numbers.{outcome_by}
use Rattle.refusals.specs.declared.refusal.Refusal.{Refusal}

-- what was read, or the refusal before it
abbrev pub paper_quad : Result Reading Refusal → Outcome Tag
paper_quad answer = outcome_by paper_reading answer

-- with a lent table
unfoldable pub decode_quad : List ℕ → Frame → Family → List ℕ → Quad → Outcome Tag
unfolding bad_frame bad_table reading
decode_quad plane frame family codes quad =
    cond (bad_frame (length plane) frame) (refused 1)
    (cond (bad_table family codes) (refused 6)
    (reading plane frame family codes quad))

-- by family number
unfoldable pub decode_quad_in : List ℕ → Frame → ℕ → Quad → Outcome Tag
unfolding bad_frame reading
decode_quad_in plane frame number quad =
    cond (bad_frame (length plane) frame) (refused 1)
    (cond (not (is_family number)) (refused 6)
    (reading plane frame (family_of number) (codes_of number) quad))
