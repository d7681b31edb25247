-- Quarter turns of a square's cells, for all sides together: the modules inside the border turn among themselves, so the picture shows the module that
-- is turned as the print is. Assumes nothing.
use mathlib.Core.Path.{◌≡◌, refl, ap, ◌∙◌}
use mathlib.Core.Bool.{Bool, false, ◌&&◌, cond, and_comm}
use Prim.Native.Nat.{ℕ, zero, suc, ◌+◌, ◌-◌, ◌<◌, ◌≤◌}
use native.Mathlib.Omega.{arith}
use lib.Dec.{eqb}
use Rattle.std.specs.Cmp.{both_ways}
use Rattle.tables.specs.Table.{side_of}
use Rattle.painter.specs.Picture.{between}
use Rattle.painter.specs.Tag.{cell_at, quarter, turned_cell, module_bit, is_light, shade_of}
use Rattle.painter.specs.declared.Cell.{Cell}
use Rattle.painter.specs.declared.Print.{Print}
use Rattle.painter.proofs.Runs.{is_within, within}
use Rattle.painter.proofs.Modules.{outside_dark, module_light}

-- a cell of a square
pub record CellIn (side : ℕ) (c : Cell) : Type 0 where
  pub rows : c.row < side
  pub columns : c.column < side

module _ (side : ℕ) where
  pub quarter_in : (c : Cell) → CellIn side c → CellIn side (quarter side c)
  quarter_in c i = record { rows = omega (arith, i.columns); columns = i.rows }

  pub turned_in : (t : ℕ) (c : Cell) → CellIn side c → CellIn side (turned_cell side t c)
  unfolding turned_cell
  turned_in zero c i = i
  turned_in (suc t) c i = quarter_in (turned_cell side t c) (turned_in t c i)

  -- a quarter turn back
  pub quarter_back : (i j : ℕ) → i < side → quarter side (cell_at j (side - 1 - i)) ≡ cell_at i j
  quarter_back i j h = ap (λ (n : ℕ). cell_at n j) (omega arith)

-- ---- the modules inside the border

-- a cell inside the border
pub record Inside (edge border : ℕ) (c : Cell) : Type 0 where
  pub rows : (border ≤ c.row) × (c.row < border + edge)
  pub columns : (border ≤ c.column) × (c.column < border + edge)

module _ (edge border : ℕ) where
  quarter_inside : (c : Cell) → Inside edge border c → Inside edge border (quarter (side_of edge border) c)
  quarter_inside c i = record { rows = (omega (arith, i.columns.1), omega (arith, i.columns.0, i.columns.1)); columns = i.rows }

  -- turned, it is inside again
  pub turned_inside : (t : ℕ) (c : Cell) → Inside edge border c → Inside edge border (turned_cell (side_of edge border) t c)
  unfolding turned_cell
  turned_inside zero c i = i
  turned_inside (suc t) c i = quarter_inside (turned_cell (side_of edge border) t c) (turned_inside t c i)

-- the cell of the whole square that has the module at c
abbrev pub inset : ℕ → Cell → Cell
inset border c = cell_at (border + c.row) (border + c.column)

module _ (edge border : ℕ) where
  quarter-inset : (c : Cell) → CellIn edge c → quarter (side_of edge border) (inset border c) ≡ inset border (quarter edge c)
  quarter-inset c i = ap (λ (n : ℕ). cell_at n (border + c.row)) (omega (arith, i.columns))

  -- they turn among themselves
  pub turned_inset : (t : ℕ) (c : Cell) → CellIn edge c → turned_cell (side_of edge border) t (inset border c) ≡ inset border (turned_cell edge t c)
  unfolding turned_cell
  turned_inset zero c i = refl
  turned_inset (suc t) c i = ap (quarter (side_of edge border)) (turned_inset t c i) ∙ quarter-inset (turned_cell edge t c) (turned_in edge t c i)

  -- the shade of a module of the picture: the print has the module that is turned with it
  pub module_shade : (word : ℕ) (print : Print) (c : Cell) → CellIn edge c → let m = turned_cell edge print.turn c in
      shade_of edge border word print (inset border c) ≡ cond (eqb (module_bit edge word m.row m.column) 1) print.light print.dark
  module_shade word print c i =
      let m = turned_cell edge print.turn c in
      let j = turned_in edge print.turn c i in
      ap (λ (b : Bool). cond b print.light print.dark)
      (ap (is_light edge border word) (turned_inset print.turn c i) ∙ module_light edge border word m.row m.column j.rows j.columns)

-- ---- the border

-- a cell that has a module
abbrev pub is_module : (edge border : ℕ) → Cell → Bool
is_module edge border c = between border edge c.row && between border edge c.column

module _ (edge border : ℕ) where
  abbrev side : ℕ
  side = side_of edge border

  -- the border is as wide on both sides
  mirrored : (n : ℕ) → n < side → between border edge (side - 1 - n) ≡ between border edge n
  mirrored n h =
      both_ways (between border edge (side - 1 - n)) (between border edge n)
      (λ e. let i = is_within border edge (side - 1 - n) e in within border edge n (omega (arith, i.from, i.to)) (omega (arith, i.from, i.to)))
      (λ e. let i = is_within border edge n e in within border edge (side - 1 - n) (omega (arith, i.from, i.to)) (omega (arith, i.from, i.to)))

  quarter_border : (c : Cell) → CellIn side c → is_module edge border (quarter side c) ≡ is_module edge border c
  quarter_border c i =
      ap (λ (t : Bool). t && between border edge c.row) (mirrored c.column i.columns)
      ∙ and_comm (between border edge c.column) (between border edge c.row)

  -- its cells turn among themselves
  turned_border : (t : ℕ) (c : Cell) → CellIn side c → is_module edge border (turned_cell side t c) ≡ is_module edge border c
  unfolding turned_cell
  turned_border zero c i = refl
  turned_border (suc t) c i = quarter_border (turned_cell side t c) (turned_in side t c i) ∙ turned_border t c i

  -- so the picture's border is dark
  pub border_shade : (word : ℕ) (print : Print) (c : Cell) → CellIn side c → is_module edge border c ≡ false → shade_of edge border word print c ≡ print.dark
  border_shade word print c i e =
      ap (λ (b : Bool). cond b print.light print.dark)
      (outside_dark edge border word (turned_cell side print.turn c) (turned_border print.turn c i ∙ e))
