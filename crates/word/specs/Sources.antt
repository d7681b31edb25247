-- Turning by table. Assumes nothing.
use Rattle.std.specs.Prelude.{ℕ, ◌*◌, Bool, ◌&&◌, List, leb}
use Rattle.lists.specs.Tab.{tabulate}
use Rattle.word.specs.Word.{source}

-- "For edges 4, 5 and 6 the place of each turned bit should come from a constant table instead of the formula."
abbrev pub has_table : ℕ → Bool
has_table edge = leb 4 edge && leb edge 6

-- "for every turned place from 0 on, the place its bit comes from": the table that the formula gives
abbrev pub sources : ℕ → List ℕ
sources edge = tabulate (edge * edge) (source edge)
