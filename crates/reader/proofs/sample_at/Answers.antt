-- The two places of the module, tested against the picture's sides.
use Rattle.std.proofs.Common.{◌≡◌, ℕ, ◌+◌, ◌*◌, sym, ap, ◌∙◌, Some, arith}
use Rattle.places.specs.Place.{module_pixel}
use Rattle.reader.specs.Reading.{column, row}
use Rattle.reader.proofs.Samples.{sample_place, outside_x, outside_y, within}
use Rattle.reader.proofs.sample_at.Goals.{After-pixel-y, then-picture-x-via-then-picture-x, then-picture-x-via-else-picture-x+then-picture-y}
use Rattle.reader.proofs.sample_at.Goals as goal

-- when both places are worked out
module _ (q : After-pixel-y) where
  column_is : q.pixel-x.result ≡ column q.args.axes q.args.family (q.args.i * q.args.family.edge + q.args.j)
  column_is =
      let a = q.args in
      q.pixel-x.ensures ∙ ap (λ (side : ℕ). module_pixel a.axes.x side (a.family.border + a.i) (a.family.border + a.j)) q.side_of-side.ensures
      ∙ sym (sample_place a.axes.x a.family.edge a.family.border a.i a.j (omega arith))

  row_is : q.pixel-y.result ≡ row q.args.axes q.args.family (q.args.i * q.args.family.edge + q.args.j)
  row_is =
      let a = q.args in
      q.pixel-y.ensures ∙ ap (λ (side : ℕ). module_pixel a.axes.y side (a.family.border + a.i) (a.family.border + a.j)) q.side_of-side.ensures
      ∙ sym (sample_place a.axes.y a.family.edge a.family.border a.i a.j (omega arith))

pub returns-then-picture-x : goal.returns-then-picture-x
returns-then-picture-x c =
    let a = c.args in
    let q = (goal.at.returns-then-picture-x c).After-pixel-y in
    elim c.then-picture-x.branch [
      | then-picture-x-via-then-picture-x w ↦ outside_x a.picture.now.bytes.now a.picture.now.frame a.family a.axes _ _ _ (column_is q) (row_is q) w.if-picture-x.true
      | then-picture-x-via-else-picture-x+then-picture-y w ↦ outside_y a.picture.now.bytes.now a.picture.now.frame a.family a.axes _ _ _ (column_is q) (row_is q) w.if-picture-y.true
    ]

pub returns : goal.returns
returns c =
    let a = c.args in
    let q = (goal.at.returns c).After-pixel-y in
    ap (λ (v : ℕ). Some v) c.level.ensures ∙ within a.picture.now.bytes.now a.picture.now.frame a.family a.axes _ _ _ (column_is q) (row_is q) c.if-picture-x.false c.if-picture-y.false
