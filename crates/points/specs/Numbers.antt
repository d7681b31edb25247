-- A quad as eight numbers, x0 y0 x1 y1 x2 y2 x3 y3, and a list of quads as such numbers one after the other. Assumes nothing.
use Rattle.std.specs.Prelude.{ℕ, ◌+◌, ◌*◌, List, [], ◌∷◌, Float, get_or, take, drop}
use Rattle.std.specs.Float.{nan}
use Rattle.points.specs.declared.Point.{Point}
use Rattle.points.specs.declared.Quad.{Quad}

-- the numbers of a quad
abbrev pub quad_size : ℕ
quad_size = 8

-- the corner whose x is number k of a list, and its y the next
abbrev pub point_at : List Float → ℕ → Point
point_at numbers k = record { x = get_or numbers k nan; y = get_or numbers (k + 1) nan }

-- quad q of a list
abbrev pub quad_at : List Float → ℕ → Quad
quad_at quads q =
    record {
      q0 = point_at quads (quad_size * q);
      q1 = point_at quads (quad_size * q + 2);
      q2 = point_at quads (quad_size * q + 4);
      q3 = point_at quads (quad_size * q + 6);
    }

-- the numbers of a quad, in the same order
abbrev pub numbers_of : Quad → List Float
numbers_of q = q.q0.x ∷ q.q0.y ∷ q.q1.x ∷ q.q1.y ∷ q.q2.x ∷ q.q2.y ∷ q.q3.x ∷ q.q3.y ∷ []

-- the numbers of quad q in a list
abbrev pub corners_at : List Float → ℕ → List Float
corners_at corners q = take quad_size (drop (quad_size * q) corners)
