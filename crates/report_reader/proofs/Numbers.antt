-- Numbers of two and four bytes, low byte first. Assumes nothing.
use Rattle.std.proofs.Common.{w16, w32}
use Rattle.std.specs.Int.{from_le_bytes}
use mathlib.Core.Path.{◌≡◌, refl, sym, ap, ◌∙◌}
use mathlib.Core.List.{List, [], ◌∷◌}
use Prim.Native.Nat.{ℕ, suc, ◌+◌, ◌*◌, ◌≤◌, ◌<◌}
use native.Mathlib.Nat.{add-zero}
use native.Mathlib.Numerals.{add-one}
use native.Mathlib.Omega.{arith}
use lib.ListN.{length, get_or, take, drop}
use lib.Seq.{drop-cons}
use Rattle.report.specs.Report.{number_of, number_at}

module _ (l : List ℕ) where
  -- the first byte, and 256 times the others
  number_cons : (bytes at : ℕ) → at < length l → number_at (suc bytes) at l ≡ get_or l at 0 + 256 * number_at bytes (at + 1) l
  unfolding number_of
  number_cons bytes at h =
      ap (λ (x : List ℕ). number_of (take (suc bytes) x)) (drop-cons l at 0 h)
      ∙ ap (λ (k : ℕ). get_or l at 0 + 256 * number_of (take bytes (drop k l))) (sym (add-one at))

  number_none : (at : ℕ) → number_at 0 at l ≡ 0
  unfolding number_of
  number_none at = refl

  pub one : (at : ℕ) → at < length l → number_at 1 at l ≡ get_or l at 0
  one at h = number_cons 0 at h ∙ ap (λ (n : ℕ). get_or l at 0 + 256 * n) (number_none (at + 1)) ∙ add-zero (get_or l at 0)

  pub two : (at : ℕ) → at + 2 ≤ length l → number_at 2 at l ≡ get_or l at 0 + 256 * get_or l (at + 1) 0
  two at h = number_cons 1 at (omega arith) ∙ ap (λ (n : ℕ). get_or l at 0 + 256 * n) (one (at + 1) (omega arith))

  pub four : (at : ℕ) → at + 4 ≤ length l
      → number_at 4 at l ≡ get_or l at 0 + 256 * (get_or l (at + 1) 0 + 256 * (get_or l (at + 2) 0 + 256 * get_or l (at + 3) 0))
  four at h =
      let second : at + 1 + 1 ≡ at + 2 = omega arith in
      let third : at + 2 + 1 ≡ at + 3 = omega arith in
      number_cons 3 at (omega arith)
      ∙ ap (λ (n : ℕ). get_or l at 0 + 256 * n)
      (number_cons 2 (at + 1) (omega arith)
      ∙ ap (λ (n : ℕ). get_or l (at + 1) 0 + 256 * n) (ap (λ (k : ℕ). number_at 2 k l) second ∙ two (at + 2) (omega arith) ∙ ap (λ (k : ℕ). get_or l (at + 2) 0 + 256 * get_or l k 0) third))

-- std's number of two and of four bytes
pub le_two : (a b : ℕ) → from_le_bytes w16 (a ∷ b ∷ []) ≡ a + 256 * b
le_two a b = omega arith

pub le_four : (a b c d : ℕ) → from_le_bytes w32 (a ∷ b ∷ c ∷ d ∷ []) ≡ a + 256 * (b + 256 * (c + 256 * d))
le_four a b c d = omega arith
