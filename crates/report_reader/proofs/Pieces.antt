-- Pieces of some bytes: what stands at a place, one piece after another. Assumes nothing.
use mathlib.Core.Path.{◌≡◌, refl, sym, ap, ap₂, subst, ◌∙◌}
use mathlib.Core.Bool.{false}
use mathlib.Core.List.{List, [], ◌∷◌, ◌++◌, flat_map}
use Prim.Native.Nat.{ℕ, zero, suc, ◌+◌, ◌*◌, ◌/◌, ◌%◌, ◌≤◌, ◌<◌}
use native.Mathlib.Omega.{arith}
use lib.Ieee.{binary32}
use lib.Ieee.Bits.{to_bits-of_bits}
use lib.ListN.{length, get_or, take, drop, length-append, length-drop}
use lib.Seq.{take-add, drop-drop, length-take-le, get_or-drop, drop-cons}
use Rattle.points.specs.Numbers.{numbers_of}
use Rattle.points.proofs.Any.{no_corner}
use Rattle.places.specs.Rounding.{bad_coordinate}
use Rattle.places.specs.Corners.{bad_corner, bad_corners}
use Rattle.places.proofs.Pattern.{not_nan}
use Rattle.places.proofs.Small.{x_good, y_good}
use Rattle.report.specs.Bytes.{low_first, unless_zero, one_unless_zero, float_bytes}
use Rattle.report.specs.Report.{number_of, number_at, float_in, point_in, quad_in, field_in}
use Rattle.report.proofs.LowFirst.{length-low_first}
use Rattle.report_reader.proofs.Numbers.{four}

-- the number of some bytes, in as many bytes, is they
bytes_back : (l : List ℕ) → ((k : ℕ) → get_or l k 0 < 256) → low_first (length l) (number_of l) ≡ l
unfolding low_first number_of
bytes_back [] h = refl
bytes_back (b ∷ l) h =
    let n = number_of l in
    let byte : b < 256 = h 0 in
    let low : (b + 256 * n) % 256 ≡ b = omega arith in
    let rest : (b + 256 * n) / 256 ≡ n = omega arith in
    ap₂ (λ (x : ℕ) (y : List ℕ). x ∷ y) low (ap (low_first (length l)) rest ∙ bytes_back l (λ k. h (suc k)))

module _ (bytes : List ℕ) where
  -- a piece stands at a place
  abbrev pub Stood : ℕ → List ℕ → Type 0
  Stood at piece = take (length piece) (drop at bytes) ≡ piece

  pub Stood-none : (at : ℕ) → Stood at []
  Stood-none at = refl

  pub Stood-more : (at : ℕ) (piece more : List ℕ) → Stood at piece → Stood (at + length piece) more → Stood at (piece ++ more)
  Stood-more at piece more p q =
      ap (λ (n : ℕ). take n (drop at bytes)) (length-append piece more)
      ∙ take-add (length piece) (length more) (drop at bytes)
      ∙ ap₂ (λ (x : List ℕ) (y : List ℕ). x ++ y) p (ap (take (length more)) (drop-drop (length piece) at bytes) ∙ q)

  -- a byte
  pub Stood-byte : (at : ℕ) → at < length bytes → Stood at (get_or bytes at 0 ∷ [])
  Stood-byte at h = ap (take 1) (drop-cons bytes at 0 h)

  -- a field that may be left out, and is where it is 0
  pub Stood-field : (present at : ℕ) → at + present ≤ length bytes → one_unless_zero (field_in present at bytes) ≡ present → Stood at (unless_zero (field_in present at bytes))
  Stood-field zero at h e = refl
  Stood-field (suc n) at h e = go (get_or bytes at 0) refl e
    where
      go : (b : ℕ) → get_or bytes at 0 ≡ b → one_unless_zero b ≡ suc n → Stood at (unless_zero b)
      go zero is one = absurd (omega arith)
      go (suc b) is one = subst (λ (x : ℕ). Stood at (x ∷ [])) is (Stood-byte at (omega arith))

  module _ (byte : (k : ℕ) → get_or bytes k 0 < 256) where
    -- a number of so many bytes
    pub Stood-number : (size at : ℕ) → at + size ≤ length bytes → Stood at (low_first size (number_at size at bytes))
    Stood-number size at h =
        let piece = take size (drop at bytes) in
        let long : length piece ≡ size = length-take-le size (drop at bytes) (omega (arith, length-drop at bytes)) in
        ap (λ (n : ℕ). take n (drop at bytes)) (length-low_first size (number_at size at bytes))
        ∙ sym (bytes_back piece (bytes_of size at))
        ∙ ap (λ (n : ℕ). low_first n (number_of piece)) long
      where
        bytes_of : (size at k : ℕ) → get_or (take size (drop at bytes)) k 0 < 256
        bytes_of zero at k = omega arith
        bytes_of (suc size) at k = go (drop at bytes) (λ j. subst (λ (n : ℕ). n < 256) (sym (get_or-drop at bytes j 0)) (byte (at + j))) (suc size) k
          where
            go : (l : List ℕ) → ((j : ℕ) → get_or l j 0 < 256) → (n k : ℕ) → get_or (take n l) k 0 < 256
            go [] h zero k = omega arith
            go [] h (suc n) k = omega arith
            go (b ∷ l) h zero k = omega arith
            go (b ∷ l) h (suc n) zero = h 0
            go (b ∷ l) h (suc n) (suc k) = go l (λ j. h (suc j)) n k

    pattern_lt : (at : ℕ) → at + 4 ≤ length bytes → number_at 4 at bytes < 4294967296
    pattern_lt at h = omega (arith, four bytes at h, byte at, byte (at + 1), byte (at + 2), byte (at + 3))

    -- a coordinate that refusal 8 lets through
    Stood-float : (at : ℕ) → at + 4 ≤ length bytes → bad_coordinate (float_in at bytes) ≡ false → Stood at (float_bytes (float_in at bytes))
    Stood-float at h good =
        subst (λ (n : ℕ). Stood at (low_first 4 n)) (sym (to_bits-of_bits binary32 (number_at 4 at bytes) (pattern_lt at h) (not_nan (float_in at bytes) good))) (Stood-number 4 at h)

    -- a corner, and what is behind it
    Stood-point : (at : ℕ) (more : List ℕ) → at + 8 ≤ length bytes → bad_corner (point_in at bytes) ≡ false → Stood (at + 8) more
        → Stood at (float_bytes (float_in at bytes) ++ (float_bytes (float_in (at + 4) bytes) ++ more))
    unfolding low_first
    Stood-point at more h good s =
        let p = point_in at bytes in
        Stood-more at (float_bytes p.x) (float_bytes p.y ++ more) (Stood-float at (omega arith) (x_good p good))
        (Stood-more (at + 4) (float_bytes p.y) more (Stood-float (at + 4) (omega arith) (y_good p good))
        (subst (λ (k : ℕ). Stood k more) {x = at + 8} {y = at + 4 + 4} (omega arith) s))

    pub Stood-quad : (at : ℕ) → at + 32 ≤ length bytes → bad_corners (quad_in at bytes) ≡ false → Stood at (flat_map float_bytes (numbers_of (quad_in at bytes)))
    unfolding flat_map
    Stood-quad at h good =
        let q = quad_in at bytes in
        let each = no_corner bad_corner q good in
        Stood-point at _ (omega arith) each.at0
        (Stood-point (at + 8) _ (omega arith) each.at1
        (subst (λ (k : ℕ). Stood k (flat_map float_bytes (q.q2.x ∷ q.q2.y ∷ q.q3.x ∷ q.q3.y ∷ []))) {x = at + 16} {y = at + 8 + 8} (omega arith)
        (Stood-point (at + 16) _ (omega arith) each.at2
        (subst (λ (k : ℕ). Stood k (flat_map float_bytes (q.q3.x ∷ q.q3.y ∷ []))) {x = at + 24} {y = at + 16 + 8} (omega arith)
        (Stood-point (at + 24) [] (omega arith) each.at3 (Stood-none (at + 24 + 8)))))))
