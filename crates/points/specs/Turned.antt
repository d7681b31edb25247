-- The corners of a quad in another order. Assumes nothing.
use Rattle.std.specs.Prelude.{ℕ, zero, suc, Bool, ◌||◌}
use Rattle.points.specs.declared.Point.{Point}
use Rattle.points.specs.declared.Quad.{Quad}

-- one left turn: the next corner comes first
abbrev pub turned_once : Quad → Quad
turned_once q = record { q0 = q.q1; q1 = q.q2; q2 = q.q3; q3 = q.q0 }

-- "Start s of a quad, 0 to 3, is the quad turned left by s, so that corner qs comes first."
unfoldable pub turned_left : ℕ → Quad → Quad
turned_left zero q = q
turned_left (suc s) q = turned_once (turned_left s q)

abbrev pub reversed : Quad → Quad
reversed q = record { q0 = q.q3; q1 = q.q2; q2 = q.q1; q3 = q.q0 }

-- "Its corners are the quad turned left by the turn, then reversed."
abbrev pub answer_corners : Quad → ℕ → Quad
answer_corners q turn = reversed (turned_left turn q)

-- one of the four corners passes the test
abbrev pub any_corner : (Point → Bool) → Quad → Bool
any_corner test q = test q.q0 || test q.q1 || test q.q2 || test q.q3
