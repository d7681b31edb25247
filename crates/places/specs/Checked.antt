-- What checked corners hold: the point and the quad that they were made of. Assumes nothing.
use Rattle.points.specs.declared.Point.{Point}
use Rattle.points.specs.declared.Quad.{Quad}
use Rattle.places.specs.declared.corners.Corner.{Corner}
use Rattle.places.specs.declared.corners.Corners.{Corners}

abbrev pub point_of : Corner → Point
point_of c = record { x = c.x.value; y = c.y.value }

abbrev pub quad_of : Corners → Quad
quad_of c = record { q0 = point_of c.q0; q1 = point_of c.q1; q2 = point_of c.q2; q3 = point_of c.q3 }
