-- The row and the column of a place are its digits in the base `edge`. Assumes nothing.
use mathlib.Core.Path.{sym}
use Prim.Native.Nat.{◌-◌}
use native.Mathlib.Omega.{arith}
use Rattle.word.proofs.Turn.{source_at, place_lt}
use Rattle.word.proofs.source_place.Goals as goal

pub overflow_mul-result : goal.overflow_mul-result
overflow_mul-result c = let a = c.args in omega (arith, place_lt a.edge a.j (a.edge - 1 - a.i) (omega arith) (omega arith) (omega arith))

pub overflow_add-result : goal.overflow_add-result
overflow_add-result c = let a = c.args in omega (arith, place_lt a.edge a.j (a.edge - 1 - a.i) (omega arith) (omega arith) (omega arith))

pub returns : goal.returns
returns c =
    let a = c.args in
    (sym (source_at a.edge a.i a.j (omega arith)), place_lt a.edge a.j (a.edge - 1 - a.i) (omega arith) (omega arith) (omega arith))
