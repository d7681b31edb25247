-- A place's row and column are its digits in the base `edge`. Assumes nothing.
use mathlib.Core.Path.{ap, ◌∙◌}
use native.Mathlib.Nat.{div-add-mod'}
use native.Mathlib.Omega.{arith}
use Rattle.lists.proofs.Grid.{square_row, square_column}
use Rattle.word.specs.Word.{source}
use Rattle.turning_lines.proofs.source_of.Goals as goal

pub source_place-requires : goal.source_place-requires
source_place-requires c =
    let a = c.args in
    (omega arith, square_row a.edge a.k c.requires.2, square_column a.edge a.k c.requires.2)

pub returns : goal.returns
returns c =
    let a = c.args in
    (c.source_place.ensures.0 ∙ ap (source a.edge) (div-add-mod' a.k a.edge), c.source_place.ensures.1)
