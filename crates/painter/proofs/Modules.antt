-- The module of a print's cell. Assumes nothing.
use mathlib.Core.Path.{◌≡◌, sym, ap, ap₂, ◌∙◌}
use mathlib.Core.Bool.{Bool, true, false, ◌&&◌, and_assoc}
use Prim.Native.Nat.{ℕ, ◌+◌, ◌-◌, ◌<◌}
use native.Mathlib.Omega.{arith}
use lib.Dec.{eqb}
use Rattle.painter.specs.Picture.{between}
use Rattle.painter.specs.Tag.{cell_at, module_bit, is_light}
use Rattle.painter.specs.declared.Cell.{Cell}
use Rattle.painter.proofs.Runs.{within}

module _ (edge border word : ℕ) where
  -- the borders are dark
  pub outside_dark : (c : Cell) → between border edge c.row && between border edge c.column ≡ false → is_light edge border word c ≡ false
  unfolding is_light
  outside_dark c e =
      let bit = eqb (module_bit edge word (c.row - border) (c.column - border)) 1 in
      sym (and_assoc (between border edge c.row) (between border edge c.column) bit) ∙ ap (λ (t : Bool). t && bit) e

  -- and inside them a module is light where its bit is 1
  pub inside_light : (c : Cell) → between border edge c.row ≡ true → between border edge c.column ≡ true
      → is_light edge border word c ≡ eqb (module_bit edge word (c.row - border) (c.column - border)) 1
  unfolding is_light
  inside_light c e f = simp (e, f)

  pub module_light : (i j : ℕ) → i < edge → j < edge → is_light edge border word (cell_at (border + i) (border + j)) ≡ eqb (module_bit edge word i j) 1
  module_light i j hi hj =
      inside_light (cell_at (border + i) (border + j))
      (within border edge (border + i) (omega arith) (omega arith)) (within border edge (border + j) (omega arith) (omega arith))
      ∙ ap₂ (λ (a b : ℕ). eqb (module_bit edge word a b) 1) (omega arith) (omega arith)
