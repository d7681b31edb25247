-- From a coordinate's exact value to whole numbers. Assumes nothing.
-- A finite float `fin s m e` is m × 2^e, which is the fraction m * up e over down e, negative where s is true (`lib.Ieee`).
use Rattle.std.specs.Prelude.{ℕ, ◌+◌, ◌*◌, ◌/◌, Bool, true, false, leb, ℤ, pos, negsuc, neg_ℤ, Float}
use Rattle.std.specs.Float.{nan, inf, fin}
use Rattle.std.specs.Float.Ieee.{up, down}

-- the whole number nearest to n / d, of two the greater
abbrev pub nearest : ℕ → ℕ → ℕ
nearest n d = (2 * n + d) / (2 * d)

-- n, or −n where s is true
abbrev pub signed : Bool → ℕ → ℤ
signed false n = pos n
signed true n = neg_ℤ (pos n)

-- "a corner coordinate is NaN or of magnitude 16,384 or more"
unfoldable pub bad_coordinate : Float → Bool
bad_coordinate nan = true
bad_coordinate (inf s) = true
bad_coordinate (fin s m e) = leb (16384 * down e) (m * up e)

-- z / d to a pixel: "Rounding to a pixel sends halves away from zero and all negatives to 0"
abbrev pub to_pixel : ℤ → ℕ → ℕ
to_pixel (pos n) d = nearest n d
to_pixel (negsuc n) d = 0

-- a coordinate to a pixel (0 where refusal 8 comes first)
unfoldable pub pixel_of : Float → ℕ
pixel_of nan = 0
pixel_of (inf s) = 0
pixel_of (fin s m e) = to_pixel (signed s (m * up e)) (down e)

-- a coordinate in 1024ths: "the nearest 1/1024 pixel, halves away from zero" (0 where refusal 8 comes first)
unfoldable pub in_1024ths : Float → ℤ
in_1024ths nan = pos 0
in_1024ths (inf s) = pos 0
in_1024ths (fin s m e) = signed s (nearest (1024 * (m * up e)) (down e))

-- the magnitude of a coordinate times k, to the nearest whole number, halves away from zero (0 where refusal 8 comes first)
unfoldable pub nearest_times : ℕ → Float → ℕ
nearest_times k nan = 0
nearest_times k (inf s) = 0
nearest_times k (fin s m e) = nearest (k * (m * up e)) (down e)
