-- What the code asks of a place, so that its whole numbers fit. Assumes nothing.
use Rattle.std.specs.Prelude.{ℕ, ◌^◌, ◌<◌, ◌≤◌, nat_abs}
use Rattle.places.specs.declared.Axis.{Axis}

-- S, A and B of four coordinates that refusal 8 lets through, in 1024ths
pub record SmallAxis (axis : Axis) : Type 0 where
  pub s_small : nat_abs axis.s ≤ 2 ^ 26
  pub a_small : nat_abs axis.a ≤ 2 ^ 26
  pub b_small : nat_abs axis.b ≤ 2 ^ 26

-- module (i, j) of a tag whose side, edge + 2 × border, is within what refusal 6 lets through: 8 + 2 × 4
pub record Module (axis : Axis) (side i j : ℕ) : Type 0 where
  pub small : SmallAxis axis
  pub side_le : side ≤ 16
  pub row : i < side
  pub column : j < side
