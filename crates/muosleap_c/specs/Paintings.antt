-- What the calls for C that paint return and leave, told by what the entry's own definition says. Assumes nothing.
use Rattle.std.specs.Prelude.{ℕ, ◌≡◌, List, Float}
use Rattle.refusals.specs.Outcome.{number}
use Rattle.points.specs.Numbers.{numbers_of}
use Rattle.muosleap_paint.specs.PaintTag.{Painting}
use Rattle.muosleap_paint.specs.PaintSheet.{SheetPainting}
use Rattle.outputs.specs.Outputs.{Output, Written}

-- a painting: the plane, and the painted tag's corners
pub record PaintsTag (painting : Painting) (r : ℕ) (plane : Output (List ℕ)) (quad : Output (List Float)) : Type 0 where
  pub answered : r ≡ number painting.answer
  pub plane_left : plane.after ≡ painting.plane
  pub quad_written : Written painting.answer numbers_of quad

-- a sheet's painting: the plane, and the output for the quads
pub record PaintsSheet (painting : SheetPainting) (r : ℕ) (plane : Output (List ℕ)) (quads : Output (List Float)) : Type 0 where
  pub answered : r ≡ number painting.answer
  pub plane_left : plane.after ≡ painting.plane
  pub quads_left : quads.after ≡ painting.quads
