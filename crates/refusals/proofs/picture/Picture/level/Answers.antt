-- A pixel of a picture is a byte of its plane.
use native.Mathlib.Omega.{arith}
use Rattle.refusals.proofs.Pixels.{good_frame, pixel_inside}
use Rattle.refusals.proofs.picture.Picture.level.Goals as goal

pub bounds-self-place_of : goal.bounds-self-place_of
bounds-self-place_of c =
    omega (arith, c.place_of.ensures, pixel_inside (good_frame c.args.self.now.framed) c.args.x c.args.y c.requires.across c.requires.down)

pub place_of-requires : goal.place_of-requires
place_of-requires c =
    let f = good_frame c.args.self.now.framed in
    (f.pitched.at_most, omega (arith, c.requires.across, f.sides.width_le), omega (arith, c.requires.down, f.sides.height_le))
