-- The quad reader's refusals 1 and 6 in their order, and the reading after them. Assumes nothing.
use mathlib.Core.Path.{◌≡◌}
use mathlib.Core.Bool.{true, false}
use mathlib.Core.List.{List}
use Prim.Native.Nat.{ℕ, ◌≤◌}
use borrow.Author.Tests.{le-ltb}
use lib.ListN.{length}
use Rattle.refusals.specs.Outcome.{refused}
use Rattle.refusals.specs.Pixels.{bad_frame}
use Rattle.refusals.specs.declared.Frame.{Frame}
use Rattle.points.specs.declared.Quad.{Quad}
use Rattle.tables.specs.Table.{bad_table}
use Rattle.tables.specs.declared.Family.{Family}
use Rattle.reader.specs.Reading.{reading}
use Rattle.muosleap.specs.Quad.{decode_quad, decode_quad_in}

module _ (plane : List ℕ) (frame : Frame) (family : Family) (codes : List ℕ) (quad : Quad) where
  pub quad_1 : bad_frame (length plane) frame ≡ true → decode_quad plane frame family codes quad ≡ refused 1
  unfolding decode_quad
  quad_1 p = simp p

  pub quad_6 : bad_frame (length plane) frame ≡ false → bad_table family codes ≡ true → decode_quad plane frame family codes quad ≡ refused 6
  unfolding decode_quad
  quad_6 p t = simp (p, t)

  pub quad_read : bad_frame (length plane) frame ≡ false → bad_table family codes ≡ false → decode_quad plane frame family codes quad ≡ reading plane frame family codes quad
  unfolding decode_quad
  quad_read p t = simp (p, t)

module _ (plane : List ℕ) (frame : Frame) (n : ℕ) (quad : Quad) where
  pub in_1 : bad_frame (length plane) frame ≡ true → decode_quad_in plane frame n quad ≡ refused 1
  unfolding decode_quad_in
  in_1 p = simp p

  pub in_6 : bad_frame (length plane) frame ≡ false → 5 ≤ n → decode_quad_in plane frame n quad ≡ refused 6
  unfolding decode_quad_in
  in_6 p h = simp (p, le-ltb n 5 h)
