-- Each arm is as many left turns as the rest of the turn by 4 (`turned_rest`).
use native.Mathlib.Omega.{arith}
use Rattle.points.specs.Turned.{turned_left}
use Rattle.points.proofs.Turns.{turned_rest}
use Rattle.points.proofs.rotate_left.Goals as goal

pub returns-in-0 : goal.returns-in-0
unfolding turned_left
returns-in-0 c = let a = c.args in turned_rest a.turn 0 a.quad c.in-0.is

pub returns-in-1 : goal.returns-in-1
unfolding turned_left
returns-in-1 c = let a = c.args in turned_rest a.turn 1 a.quad c.in-1.is

pub returns-in-2 : goal.returns-in-2
unfolding turned_left
returns-in-2 c = let a = c.args in turned_rest a.turn 2 a.quad c.in-2.is

pub returns-in_default : goal.returns-in_default
unfolding turned_left
returns-in_default c =
    let a = c.args in
    turned_rest a.turn 3 a.quad (omega arith)
