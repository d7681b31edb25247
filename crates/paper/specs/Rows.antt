-- The examples that document 01 marks P, in one table: what the definitions work out, and what the paper says.
-- An outcome is written as its numbers: 0 and the values, or the refusal's number alone. Assumes nothing.
use Rattle.std.specs.Prelude.{ℕ, ◌*◌, List, [], ◌∷◌, ◌++◌, map, Float, nat_abs}
use Rattle.std.specs.Float.{binary32}
use Rattle.std.specs.Float.Ieee.{of_bits, to_bits}
use Rattle.refusals.specs.Outcome.{Outcome, accepted, refused}
use Rattle.refusals.specs.declared.Shape.{Shape}
use Rattle.word.specs.Word.{turns}
use Rattle.points.specs.declared.Point.{Point}
use Rattle.points.specs.declared.Quad.{Quad}
use Rattle.tables.specs.Table.{side_of}
use Rattle.places.specs.declared.Axis.{Axis}
use Rattle.places.specs.Place.{axes_of, module_place, module_pixel}
use Rattle.levels.specs.Levels.{middle_of, unsure}
use Rattle.search.specs.Search.{Seen}
use Rattle.tag_families.specs.Families.{family_of, codes_of}
use Rattle.muosleap.specs.Codes.{turned, best_tag}
use Rattle.muosleap.specs.BitCode.{bit_code}
use Rattle.muosleap_picture.specs.ImageUtil.{hessian_response}
use Rattle.muosleap_picture.specs.SaddleClusters.{Call, init_saddle_clusters}

pub record Row : Type 0 where
  pub worked : List ℕ
  pub says : List ℕ

-- id, turn and, since 02's ticket 2, the number of differing modules
abbrev pub tag_numbers : Outcome Seen → List ℕ
tag_numbers (accepted s) = 0 ∷ s.id ∷ s.turn ∷ s.differing ∷ []
tag_numbers (refused n) = n ∷ []

abbrev pub word_numbers : Outcome ℕ → List ℕ
word_numbers (accepted w) = 0 ∷ w ∷ []
word_numbers (refused n) = n ∷ []

-- T16H5 is family 0
abbrev searched : ℕ → List ℕ
searched w = tag_numbers (best_tag w (family_of 0).hamming_distance (codes_of 0) (family_of 0).edge)

abbrev side : ℕ
side = side_of (family_of 0).edge (family_of 0).border

-- the levels that the quad reader takes: band 10, three unsure allowed
abbrev levelled : List ℕ → List ℕ
levelled levels = word_numbers (bit_code levels 10 3)

-- 0.5 and 16.5 as f32
abbrev half : Float
half = of_bits binary32 0x3F00_0000

abbrev sixteen_half : Float
sixteen_half = of_bits binary32 0x4184_0000

abbrev corner : Float → Float → Point
corner x y = record { x = x; y = y }

abbrev square : Quad
square =
    record { q0 = corner half half; q1 = corner sixteen_half half; q2 = corner sixteen_half sixteen_half; q3 = corner half sixteen_half }

-- module (2, 2) of T16H5 on an axis: twice its place in 4096 × side parts of a pixel, and its pixel
abbrev module22 : Axis → List ℕ
module22 axis = 2 * nat_abs (module_place axis side 2 2) ∷ module_pixel axis side 2 2 ∷ []

-- a plane of f32, each sample by its bits: 0, and 1, -1, -2 and -4 as named
abbrev plane : List ℕ → List Float
plane = map (of_bits binary32)

abbrev one : ℕ
one = 0x3F80_0000

abbrev minus_one : ℕ
minus_one = 0xBF80_0000

abbrev minus_two : ℕ
minus_two = 0xC000_0000

abbrev minus_four : ℕ
minus_four = 0xC080_0000

-- the bits of a plane's response
abbrev responded : List ℕ → Shape → List ℕ
responded samples shape = map (to_bits binary32) (hessian_response (plane samples) shape (plane samples)).out

-- the outcome of a search for clusters, and behind it the row slice
abbrev clusters_of : Call → List ℕ
clusters_of call = word_numbers call.answer ++ call.rows

abbrev pub rows : List Row
rows =
    -- "one turn of 231B (hexadecimal, edge 4) is 7D01; two, D8C4; three, 80BE"
    record { worked = word_numbers (turned 0x231B 4); says = 0 ∷ 0x7D01 ∷ [] } ∷
    record { worked = turns 4 2 0x231B ∷ []; says = 0xD8C4 ∷ [] } ∷
    record { worked = turns 4 3 0x231B ∷ []; says = 0x80BE ∷ [] } ∷
    -- "T16H5: 231B gives id 0 turn 0; 7D01 id 0 turn 3; 231A is 13"; in both tags no module differs
    record { worked = searched 0x231B; says = 0 ∷ 0 ∷ 0 ∷ 0 ∷ [] } ∷
    record { worked = searched 0x7D01; says = 0 ∷ 0 ∷ 3 ∷ 0 ∷ [] } ∷
    record { worked = searched 0x231A; says = 13 ∷ [] } ∷
    -- "levels 0 and 50 pass, 0 and 49 give 11; 0 and 51 have middle 26, where 17 and 35 are unsure, 16 and 36 not"
    record { worked = levelled (0 ∷ 50 ∷ []); says = 0 ∷ 1 ∷ [] } ∷
    record { worked = levelled (0 ∷ 49 ∷ []); says = 11 ∷ [] } ∷
    record { worked = middle_of (0 ∷ 51 ∷ []) ∷ []; says = 26 ∷ [] } ∷
    record { worked = unsure 26 10 17 ∷ unsure 26 10 35 ∷ unsure 26 10 16 ∷ unsure 26 10 36 ∷ []; says = 1 ∷ 1 ∷ 0 ∷ 0 ∷ [] } ∷
    -- "T16H5 quad (0.5, 0.5), (16.5, 0.5), (16.5, 16.5), (0.5, 16.5): module (2, 2) at 5.5, 5.5, pixel 6, 6"
    record { worked = module22 (axes_of square).x; says = 11 * (4096 * side) ∷ 6 ∷ [] } ∷
    record { worked = module22 (axes_of square).y; says = 11 * (4096 * side) ∷ 6 ∷ [] } ∷
    -- "3 × 3 plane with 1 left and right of the middle, −1 above and below, else 0: response −4"
    record {
      worked = responded (0 ∷ minus_one ∷ 0 ∷ one ∷ 0 ∷ one ∷ 0 ∷ minus_one ∷ 0 ∷ []) record { width = 3; height = 3 };
      says = 0 ∷ 0 ∷ 0 ∷ 0 ∷ minus_four ∷ 0 ∷ 0 ∷ 0 ∷ 0 ∷ [];
    } ∷
    -- "5 × 3 plane, middle row −2 −2 0 −2 0, else 0, threshold −1: rows 1 2 2 and 3 1 1, total 2"
    record {
      worked = clusters_of
          (init_saddle_clusters
          (plane (0 ∷ 0 ∷ 0 ∷ 0 ∷ 0 ∷ minus_two ∷ minus_two ∷ 0 ∷ minus_two ∷ 0 ∷ 0 ∷ 0 ∷ 0 ∷ 0 ∷ 0 ∷ []))
          record { width = 5; height = 3 }
          (of_bits binary32 minus_one)
          46
          (0 ∷ 0 ∷ 0 ∷ 0 ∷ 0 ∷ 0 ∷ []));
      says = 0 ∷ 2 ∷ 1 ∷ 2 ∷ 2 ∷ 3 ∷ 1 ∷ 1 ∷ [];
    } ∷
    []
