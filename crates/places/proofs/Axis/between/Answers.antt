-- Each operation's result is held (`Whole.antt`).
use mathlib.Core.Path.{◌≡◌}
use Prim.Native.Nat.{◌^◌}
use native.Mathlib.Omega.{arith}
use lib.Dec.{lit<}
use lib.IntN.{ℤ}
use mir.Syntax.{w64}
use mir.Val.{of_z}
use Rattle.std.proofs.lemmas.Int.{ints}
use Rattle.places.specs.Rounding.{in_1024ths}
use Rattle.places.specs.declared.coordinate.Coordinate.{Coordinate}
use Rattle.places.proofs.Small.{coordinate_small}
use Rattle.places.proofs.Whole.{Held, number, plus, minus}
use Rattle.places.proofs.Axis.between.Goals.{After-in_1024ths-q3}
use Rattle.places.proofs.Axis.between.Goals as goal

corner : (r : ℤ) (x : Coordinate) → r ≡ in_1024ths x.value → Held (of_z w64 r) (in_1024ths x.value) (2 ^ 24)
corner r x e = number r (in_1024ths x.value) (2 ^ 24) e (lit< tt) (coordinate_small x.value x.bounded)

q0 : (c : After-in_1024ths-q3) → Held (of_z w64 c.in_1024ths-q0.result) (in_1024ths c.args.x0.value) (2 ^ 24)
q0 c = corner c.in_1024ths-q0.result c.args.x0 c.in_1024ths-q0.ensures.value

q1 : (c : After-in_1024ths-q3) → Held (of_z w64 c.in_1024ths-q1.result) (in_1024ths c.args.x1.value) (2 ^ 24)
q1 c = corner c.in_1024ths-q1.result c.args.x1 c.in_1024ths-q1.ensures.value

q2 : (c : After-in_1024ths-q3) → Held (of_z w64 c.in_1024ths-q2.result) (in_1024ths c.args.x2.value) (2 ^ 24)
q2 c = corner c.in_1024ths-q2.result c.args.x2 c.in_1024ths-q2.ensures.value

q3 : (c : After-in_1024ths-q3) → Held (of_z w64 c.in_1024ths-q3.result) (in_1024ths c.args.x3.value) (2 ^ 24)
q3 c = corner c.in_1024ths-q3.result c.args.x3 c.in_1024ths-q3.ensures.value

pub overflow_sub-result-2 : goal.overflow_sub-result-2
overflow_sub-result-2 c = omega (arith, ints)

pub overflow_sub-result-4 : goal.overflow_sub-result-4
overflow_sub-result-4 c = omega (arith, ints)

pub returns : goal.returns
returns c =
    λ i. record {
      s = (plus (plus (plus (q0 c) (q1 c) (lit< tt)).1 (q2 c) (lit< tt)).1 (q3 c) (lit< tt)).1.is i;
      a = (minus (minus (plus (q2 c) (q3 c) (lit< tt)).1 (q0 c) (lit< tt)).1 (q1 c) (lit< tt)).1.is i;
      b = (minus (minus (plus (q1 c) (q2 c) (lit< tt)).1 (q0 c) (lit< tt)).1 (q3 c) (lit< tt)).1.is i;
    }
