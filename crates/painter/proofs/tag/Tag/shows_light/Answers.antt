-- Turned, a cell inside the border is inside it again.
use native.Mathlib.Omega.{arith}
use Rattle.painter.proofs.Turned.{Inside, turned_inside}
use Rattle.painter.proofs.tag.Tag.shows_light.Goals.{After-turned_cell}
use Rattle.painter.proofs.tag.Tag.shows_light.Goals as goal

-- whichever of the two numbers is the row
inside : (c : After-turned_cell) → let s = c.args.self in Inside s.square.edge s.square.border c.turned_cell.result
inside c =
    let s = c.args.self in
    let r = c.requires.rows in
    let k = c.requires.columns in
    rw (c.turned_cell.ensures, c.side.ensures)
    (turned_inside s.square.edge s.square.border s.print.turn _
    (record { rows = (omega (arith, r.0, k.0), omega (arith, r.1, k.1)); columns = (omega (arith, r.0, k.0), omega (arith, r.1, k.1)) }))

pub is_light-requires-clause-rows : goal.is_light-requires-clause-rows
is_light-requires-clause-rows c = (inside c).rows

pub is_light-requires-clause-columns : goal.is_light-requires-clause-columns
is_light-requires-clause-columns c = (inside c).columns
