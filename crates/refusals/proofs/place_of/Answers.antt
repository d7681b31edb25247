-- A place is at most 4096 × 8192 + 4096. Assumes nothing.
use native.Mathlib.Nat.{mul-le-mul}
use native.Mathlib.Omega.{arith}
use Rattle.refusals.proofs.place_of.Goals as goal

pub overflow_mul-result : goal.overflow_mul-result
overflow_mul-result c = let p = c.requires in omega (arith, mul-le-mul p.2 p.0)

pub overflow_add-result : goal.overflow_add-result
overflow_add-result c = let p = c.requires in omega (arith, mul-le-mul p.2 p.0)
