-- What the functions that sample a picture ask and give. Assumes nothing.
use Rattle.std.specs.Prelude.{◌≡◌, Bool, true, false, List, ℕ, ◌≤◌, ◌<◌, length}
use Rattle.refusals.specs.Outcome.{Outcome}
use Rattle.refusals.specs.Pixels.{bad_frame, at_pitch}
use Rattle.refusals.specs.declared.Frame.{Frame}
use Rattle.points.specs.declared.Quad.{Quad}
use Rattle.points.specs.Turned.{turned_left}
use Rattle.tables.specs.declared.Family.{Family}
use Rattle.places.specs.Corners.{bad_corners}
use Rattle.places.specs.Place.{axes_of}
use Rattle.reader.specs.Reading.{samples_inside, Tag}
use Rattle.muosleap.specs.Quad.{decode_quad}
use Rattle.lit_reading.specs.Said.{lit_picture}

-- a plane and a family that refusals 1 and 6 let through
pub record Readable (plane : List ℕ) (frame : Frame) (family : Family) : Type 0 where
  pub framed : bad_frame (length plane) frame ≡ false
  pub edge_pos : 0 < family.edge
  pub edge_le : family.edge ≤ 8
  pub border_le : family.border ≤ 4

-- all samples of a quad can be taken on a plane, as those of the painter's quad can
pub record Sampleable (plane : List ℕ) (frame : Frame) (family : Family) (quad : Quad) : Type 0 where
  pub readable : Readable plane frame family
  pub small : bad_corners quad ≡ false
  pub inside : samples_inside frame family (axes_of quad) ≡ true

-- a painted quad is looked at in a picture, and its start s read there
pub record PictureRead (shown : List ℕ) (frame : Frame) (light : ℕ) (family : Family) (codes : List ℕ) (quad : Quad) (picture : List ℕ) (pitch s : ℕ)
    (lit : Bool) (answer : Outcome Tag) : Type 0 where
  pub worked_out : lit ≡ lit_picture shown frame light family quad picture pitch
  pub read : answer ≡ decode_quad picture (at_pitch frame pitch) family codes (turned_left s quad)
