-- A painted tag: its corners lie half a pixel before the first and after the last dark pixel, its modules are cells of c pixels
-- each way. Every place is in the middle of its cell. Assumes nothing.
use mathlib.Core.Path.{◌≡◌, sym, ap, ◌∙◌}
use mathlib.Core.Bool.{true, false}
use Prim.Native.Nat.{ℕ, zero, suc, ◌+◌, ◌-◌, ◌*◌, ◌<◌, ◌≤◌}
use native.Mathlib.Omega.{arith}
use borrow.Author.Tests.{lt-leb}
use lib.Dec.{lit<}
use lib.IntN.{ℤ, pos, ◌+ℤ◌, ◌-ℤ◌, ◌*ℤ◌, *ℤ-zero, +ℤ_idr}
use lib.Ieee.{Float}
use lib.Ieee.Exact.{HasValue}
use Rattle.places.specs.declared.Axis.{Axis}
use Rattle.places.specs.Rounding.{nearest, pixel_of, bad_coordinate, in_1024ths}
use Rattle.places.specs.Place.{axis_of, from_middle, module_place}
use Rattle.places.proofs.Diff.{Diff, Diff-pos, Diff-plus, Diff-minus, Diff-times, Diff-same}
use Rattle.places.proofs.Small.{middle}
use Rattle.places.proofs.Value.{value_1024ths, value_pixel, value_bad}

-- half a pixel before pixel n, in 1024ths
abbrev pub half_before : ℕ → ℤ
half_before n = pos (1024 * n) -ℤ pos 512

half : (n : ℕ) → Diff (half_before n) (1024 * n + 0) (0 + 512)
half n = Diff-minus (Diff-pos (1024 * n)) (Diff-pos 512)

-- ---- the axes of a quad that starts upper left, l the tag's length in pixels

module _ (x0 l : ℕ) where
  abbrev lo : ℤ
  lo = half_before x0

  abbrev hi : ℤ
  hi = half_before (x0 + l)

  abbrev total : ℤ
  total = pos (4096 * x0 + 2048 * l) -ℤ pos 2048

  is_total : Diff total (4096 * x0 + 2048 * l + 0) (0 + 2048)
  is_total = Diff-minus (Diff-pos (4096 * x0 + 2048 * l)) (Diff-pos 2048)

  across : axis_of lo hi hi lo ≡ record { s = total; a = pos 0; b = pos (2048 * l) }
  across =
      let h = half (x0 + l) in
      let e : lo +ℤ hi +ℤ hi +ℤ lo ≡ total = Diff-same (Diff-plus (Diff-plus (Diff-plus (half x0) h) h) (half x0)) is_total (omega arith) in
      let f : hi +ℤ lo -ℤ lo -ℤ hi ≡ pos 0 = Diff-same (Diff-minus (Diff-minus (Diff-plus h (half x0)) (half x0)) h) (Diff-pos 0) (omega arith) in
      let g : hi +ℤ hi -ℤ lo -ℤ lo ≡ pos (2048 * l) = Diff-same (Diff-minus (Diff-minus (Diff-plus h h) (half x0)) (half x0)) (Diff-pos (2048 * l)) (omega arith) in
      λ i. record { s = e i; a = f i; b = g i }

  down : axis_of lo lo hi hi ≡ record { s = total; a = pos (2048 * l); b = pos 0 }
  down =
      let h = half (x0 + l) in
      let e : lo +ℤ lo +ℤ hi +ℤ hi ≡ total = Diff-same (Diff-plus (Diff-plus (Diff-plus (half x0) (half x0)) h) h) is_total (omega arith) in
      let f : hi +ℤ hi -ℤ lo -ℤ lo ≡ pos (2048 * l) = Diff-same (Diff-minus (Diff-minus (Diff-plus h h) (half x0)) (half x0)) (Diff-pos (2048 * l)) (omega arith) in
      let g : lo +ℤ hi -ℤ lo -ℤ hi ≡ pos 0 = Diff-same (Diff-minus (Diff-minus (Diff-plus (half x0) h) (half x0)) h) (Diff-pos 0) (omega arith) in
      λ i. record { s = e i; a = f i; b = g i }

-- ---- the places, in side cells of c pixels

module _ (x0 side : ℕ) where
  -- x0 + c × k + (c − 1) / 2, over 4096 × side
  middle_of : (c k : ℕ) → 0 < c → total x0 (side * c) *ℤ pos side +ℤ from_middle side k *ℤ pos (2048 * (side * c)) ≡ pos (2048 * side * (2 * (x0 + c * k) + (c - 1)))
  middle_of zero k C = absurd (omega arith)
  middle_of (suc m) k C =
      let e : suc m - 1 ≡ m = omega arith in
      Diff-same (Diff-plus (Diff-times (is_total x0 (side * suc m)) (Diff-pos side)) (Diff-times (middle side k) (Diff-pos (2048 * (side * suc m)))))
      (Diff-pos (2048 * side * (2 * (x0 + suc m * k) + m))) (omega arith)
      ∙ ap (λ (n : ℕ). pos (2048 * side * (2 * (x0 + suc m * k) + n))) (sym e)

module _ (x0 side c i j : ℕ) (C : 0 < c) where
  -- x of module (i, j) of a tag that starts at column x0: x0 + c × j + (c − 1) / 2
  pub place_across : module_place (axis_of (half_before x0) (half_before (x0 + side * c)) (half_before (x0 + side * c)) (half_before x0)) side i j
      ≡ pos (2048 * side * (2 * (x0 + c * j) + (c - 1)))
  place_across =
      ap (λ (x : Axis). module_place x side i j) (across x0 (side * c))
      ∙ ap (λ (z : ℤ). total x0 (side * c) *ℤ pos side +ℤ z +ℤ from_middle side j *ℤ pos (2048 * (side * c))) (*ℤ-zero (from_middle side i))
      ∙ ap (λ (z : ℤ). z +ℤ from_middle side j *ℤ pos (2048 * (side * c))) (+ℤ_idr (total x0 (side * c) *ℤ pos side))
      ∙ middle_of x0 side c j C

  -- y of it, where the tag starts at row x0: x0 + c × i + (c − 1) / 2
  pub place_down : module_place (axis_of (half_before x0) (half_before x0) (half_before (x0 + side * c)) (half_before (x0 + side * c))) side i j
      ≡ pos (2048 * side * (2 * (x0 + c * i) + (c - 1)))
  place_down =
      ap (λ (x : Axis). module_place x side i j) (down x0 (side * c))
      ∙ ap (λ (z : ℤ). total x0 (side * c) *ℤ pos side +ℤ from_middle side i *ℤ pos (2048 * (side * c)) +ℤ z) (*ℤ-zero (from_middle side j))
      ∙ +ℤ_idr (total x0 (side * c) *ℤ pos side +ℤ from_middle side i *ℤ pos (2048 * (side * c)))
      ∙ middle_of x0 side c i C

-- ---- a float that lies half a pixel before pixel n

abbrev pub HalfBefore : Float → ℕ → Type 0
HalfBefore x zero = HasValue x true 1 2
HalfBefore x (suc m) = HasValue x false (2 * m + 1) 2

pub half_1024ths : (x : Float) (n : ℕ) → HalfBefore x n → in_1024ths x ≡ half_before n
half_1024ths x zero h = value_1024ths x true 1 2 (lit< tt) h
half_1024ths x (suc m) h =
    let e : nearest (1024 * (2 * m + 1)) 2 ≡ 1024 * m + 512 = omega arith in
    value_1024ths x false (2 * m + 1) 2 (lit< tt) h ∙ ap pos e ∙ Diff-same (Diff-pos (1024 * m + 512)) (half (suc m)) (omega arith)

pub half_pixel : (x : Float) (n : ℕ) → HalfBefore x n → pixel_of x ≡ n
half_pixel x zero h = value_pixel x true 1 2 (lit< tt) h
half_pixel x (suc m) h =
    let e : nearest (2 * m + 1) 2 ≡ suc m = omega arith in
    value_pixel x false (2 * m + 1) 2 (lit< tt) h ∙ e

pub half_good : (x : Float) (n : ℕ) → n ≤ 16384 → HalfBefore x n → bad_coordinate x ≡ false
half_good x zero l h = value_bad x true 1 2 (lit< tt) h
half_good x (suc m) l h = value_bad x false (2 * m + 1) 2 (lit< tt) h ∙ lt-leb (16384 * 2) (2 * m + 1) (omega arith)
