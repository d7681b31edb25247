-- Every row of the table holds: both sides compute to the same numbers. Assumes nothing.
use mathlib.Core.Path.{◌≡◌, refl}
use mathlib.Core.List.{map}
use Rattle.word.specs.Word.{turns}
use lib.Ieee.{of_bits, to_bits, add, sub, mul, neg, le, lt, is_nan}
use Rattle.lists.specs.Each.{any}
use Rattle.lists.specs.Tab.{tabulate, all}
use Rattle.levels.specs.Levels.{over_all}
use Rattle.places.specs.Rounding.{in_1024ths}
use Rattle.muosleap.specs.Codes.{turned, best_tag}
use Rattle.muosleap.specs.BitCode.{bit_code}
use Rattle.refusals.specs.Plane.{bad_sides, bad_plane}
use Rattle.clusters.specs.Connected.{beside, reach}
use Rattle.clusters.specs.Clusters.{border, written, seed, clustered, first, rows_of}
use Rattle.muosleap_picture.specs.ImageUtil.{hessian_response}
use Rattle.muosleap_picture.specs.SaddleClusters.{init_saddle_clusters}
use Rattle.paper.specs.Rows.{Row, rows}

pub rows_hold : map (λ (r : Row). r.worked) rows ≡ map (λ (r : Row). r.says) rows
unfolding turns turned best_tag bit_code over_all in_1024ths of_bits to_bits add sub mul neg le lt is_nan tabulate all bad_sides bad_plane hessian_response init_saddle_clusters beside reach border any written seed clustered first rows_of
rows_hold = refl
