-- Every row and every quad's corners have their numbers. Assumes nothing.
use mathlib.Core.Path.{◌≡◌, refl}
use lib.ListN.{length}
use Rattle.refusals.specs.Outcome.{Outcome, accepted, refused}
use Rattle.points.specs.Numbers.{quad_size}
use Rattle.reader.specs.Reading.{Tag}
use Rattle.listing.specs.Listing.{row_size, row_of, corners_of}

pub row_size_lem : (o : Outcome Tag) → length (row_of o) ≡ row_size
row_size_lem (accepted tag) = refl
row_size_lem (refused n) = refl

pub corners_size : (o : Outcome Tag) → length (corners_of o) ≡ quad_size
corners_size (accepted tag) = refl
corners_size (refused n) = refl
