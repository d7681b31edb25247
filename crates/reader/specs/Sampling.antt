-- What the loop over the samples is lent, and one sample of it. Assumes nothing.
use Rattle.std.specs.Prelude.{Option, Some, None, cond, List, ℕ}
use Rattle.refusals.specs.Pixels.{level_at}
use Rattle.refusals.specs.declared.Frame.{Frame}
use Rattle.tables.specs.declared.Family.{Family}
use Rattle.places.specs.declared.Axes.{Axes}
use Rattle.places.specs.Bounds.{SmallAxis}
use Rattle.reader.specs.Reading.{column, row, sample_inside}

-- axes of a quad that refusal 8 lets through
pub record SmallAxes (axes : Axes) : Type 0 where
  pub x_small : SmallAxis axes.x
  pub y_small : SmallAxis axes.y

-- the level at sample k, where that lies in the picture
unfoldable pub sample_of : List ℕ → Frame → Family → Axes → ℕ → Option ℕ
sample_of plane frame family axes k =
    cond (sample_inside frame family axes k) (Some (level_at plane frame (column axes family k) (row axes family k))) None
