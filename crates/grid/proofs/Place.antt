-- Each position has its own row and column, and they have it. Assumes nothing.
use mathlib.Core.Path.{◌≡◌, ap, ◌∙◌}
use Prim.Native.Nat.{ℕ, zero, suc, ◌+◌, ◌-◌, ◌*◌, ◌/◌, ◌<◌}
use native.Mathlib.Nat.{mul-zero, mul_comm, mod-lt, div-lt_iff_lt-mul, div-add-mod', zero-lt-suc}
use native.Mathlib.Omega.{arith}
use Rattle.std.proofs.lemmas.Nat.{div-mul-add, mod-mul-add}
use Rattle.lists.proofs.Grid.{inside}
use Rattle.grid.specs.Sheet.{position_at}
use Rattle.grid.specs.Quads.{tag_count, position_row, position_column}
use Rattle.grid.specs.declared.Grid.{Grid}

-- a row of some tag has a tag
pub some_columns : (rows columns position : ℕ) → position < rows * columns → 0 < columns
some_columns rows zero position h = absurd (omega (arith, mul-zero rows))
some_columns rows (suc columns) position h = zero-lt-suc columns

module _ (grid : Grid) where
  -- the position of a row and a column
  module _ (row column : ℕ) (r : row < grid.rows) (c : column < grid.columns) where
    pub position_row_lem : position_row grid (position_at grid row column) ≡ row
    position_row_lem = omega (arith, div-mul-add (grid.rows - 1 - row) grid.columns column c)

    pub position_column_lem : position_column grid (position_at grid row column) ≡ column
    position_column_lem = mod-mul-add (grid.rows - 1 - row) grid.columns column c

    pub position_lt : position_at grid row column < tag_count grid
    position_lt =
        let up : grid.rows - 1 - row < grid.rows = omega arith in
        omega (arith, inside grid.columns (grid.rows - 1 - row) column c grid.rows up, mul_comm grid.columns grid.rows)

  -- the row and the column of a position
  module _ (position : ℕ) (h : position < tag_count grid) where
    pub up_lt : position / grid.columns < grid.rows
    up_lt = (div-lt_iff_lt-mul (some_columns grid.rows grid.columns position h)).1 h

    pub row_lt : position_row grid position < grid.rows
    row_lt = omega (arith, up_lt)

    pub column_lt : position_column grid position < grid.columns
    column_lt = mod-lt position (some_columns grid.rows grid.columns position h)

    pub position_back : position_at grid (position_row grid position) (position_column grid position) ≡ position
    position_back =
        let up : grid.rows - 1 - position_row grid position ≡ position / grid.columns = omega (arith, up_lt) in
        ap (λ (n : ℕ). n * grid.columns + position_column grid position) up ∙ div-add-mod' position grid.columns
