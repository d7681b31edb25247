-- Row and corner numbers of refusal 18 where the row is repeated, else nothing. Assumes nothing.
use mathlib.Core.Path.{sym, ap, ◌∙◌}
use mathlib.Core.Bool.{Bool, cond}
use mathlib.Core.List.{List}
use Prim.Native.Nat.{ℕ, ◌*◌}
use lib.Ieee.{Float}
use lib.Seq.{sets}
use Rattle.refusals.specs.Outcome.{refused}
use Rattle.points.specs.Numbers.{quad_size}
use Rattle.reader.specs.Answer.{paper_reading}
use Rattle.reader.specs.declared.Reading.{Reading}
use Rattle.listing.specs.Listing.{row_size, row_of, corners_of}
use Rattle.listing.proofs.refuse_repeated.Goals.{After-is_repeated}
use Rattle.listing.proofs.refuse_repeated.Goals as goal

-- the outputs by what the test says
abbrev row_by : After-is_repeated → Bool → List ℕ
row_by i b = let a = i.args in cond b (sets a.rows.now (row_size * a.q) (row_of (refused 18))) a.rows.now

abbrev corners_by : After-is_repeated → Bool → List Float
corners_by i b = let a = i.args in cond b (sets a.corners.now (quad_size * a.q) (corners_of (refused 18))) a.corners.now

pub returns-then-is_repeated : goal.returns-then-is_repeated
returns-then-is_repeated c =
    let a = c.args in
    let e = sym c.if-is_repeated.true ∙ c.is_repeated.ensures in
    let i = (goal.at.returns-then-is_repeated c).After-is_repeated in
    record {
      row =
          c.put_row.ensures ∙ ap (λ (r : Reading). sets a.rows.now (row_size * a.q) (row_of (paper_reading r))) c.from-repeated.ensures
          ∙ ap (row_by i) e;
      corner =
          c.put_corners.ensures ∙ ap (λ (r : Reading). sets a.corners.now (quad_size * a.q) (corners_of (paper_reading r))) c.from-repeated.ensures
          ∙ ap (corners_by i) e;
    }

pub returns-else-is_repeated : goal.returns-else-is_repeated
returns-else-is_repeated c =
    let e = sym c.if-is_repeated.false ∙ c.is_repeated.ensures in
    record { row = ap (row_by (goal.at.returns-else-is_repeated c).After-is_repeated) e; corner = ap (corners_by (goal.at.returns-else-is_repeated c).After-is_repeated) e }
