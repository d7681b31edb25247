-- What is worked out of the samples of both pictures. Assumes nothing.
use mathlib.Core.Path.{ap₂, ◌∙◌}
use mathlib.Core.List.{List}
use Prim.Native.Nat.{ℕ}
use Rattle.levels.specs.Levels.{middle_of}
use Rattle.paper.specs.Light.{lit_levels, is_lit}
use Rattle.lit_reading.proofs.is_lit.Goals as goal

pub returns : goal.returns
unfolding is_lit
returns c =
    c.levels_lit.ensures
    ∙ ap₂ (λ (p l : List ℕ). lit_levels (middle_of l) c.args.light p l) c.quad_levels-painted.ensures c.quad_levels-levels.ensures
