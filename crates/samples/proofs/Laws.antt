-- What the proofs of planes rest on: rows lie in their plane, and the tests of a slice in parts are the tests of all its samples.
-- Assumes nothing.
use Rattle.std.proofs.Common.{◌≡◌, refl, sym, ap, ◌∙◌, ℕ, zero, suc, ◌+◌, ◌*◌, ◌<◌, ◌≤◌, Bool, true, false, ◌&&◌, List, [], ◌∷◌, length, get_or, take, drop, arith}
use Rattle.std.specs.Bool.{MatchBool}
use Rattle.std.specs.List.{AllWithin, HoldsAt}
use Rattle.std.specs.Simd.{first_chunks}
use mathlib.Core.Bool.{and_assoc, and-false}
use native.Mathlib.Nat.{mul_comm, suc-mul, zero-mul, mul-le-mul_right, not-suc-le-zero, le_of_suc-le-suc}
use lib.Seq.{drop-drop}
use lib.Ieee.{Float, binary32, of_bits, neg}
use lib.ListN.{replicate}
use Rattle.lists.specs.Tab.{all, tabulate}
use Rattle.samples.specs.Samples.{between, tame}
use Rattle.lists.proofs.All.{all_of}

pub row_within : (len width height y : ℕ) → len ≡ width * height → y < height → y * width + width ≤ len
row_within len width height y whole h =
    let m : suc y * width ≤ height * width = mul-le-mul_right width h in
    omega (arith, m, mul_comm height width, whole)

-- ---- a chain's `all` is the test of a list
module _ {A : Type 0} (ok : A → Bool) (d : A) where
  all_not : (l : List A) (k : ℕ) → k < length l → ok (get_or l k d) ≡ false → all ok l ≡ false
  unfolding all
  all_not [] k h e = absurd (not-suc-le-zero h)
  all_not (v ∷ vs) zero h e = rw e
  all_not (v ∷ vs) (suc k) h e = rw (all_not vs k (le_of_suc-le-suc h) e) (and-false (ok v))

  pub chain : (l : List A) (r : Bool) → MatchBool r (AllWithin (λ v. ok v ≡ true) l 0 (length l)) ((k : ℕ) × (k < length l) × HoldsAt (λ v. ok v ≡ false) l k) → r ≡ all ok l
  chain l true h = sym (all_of ok l d (λ k b. h k d (omega arith) b))
  chain l false (k, b, h) = sym (all_not l k b (h d))

-- ---- blocks of k and the rest
module _ {A : Type 0} (ok : A → Bool) where
  all_parts : (k : ℕ) (l : List A) → all ok l ≡ all ok (take k l) && all ok (drop k l)
  unfolding all
  all_parts zero l = refl
  all_parts (suc k) [] = refl
  all_parts (suc k) (v ∷ vs) = ap (λ (x : Bool). ok v && x) (all_parts k vs) ∙ sym (and_assoc (ok v) (all ok (take k vs)) (all ok (drop k vs)))

  pub all_blocks : (k n : ℕ) (l : List A) → all ok l ≡ all (all ok) (first_chunks k n l) && all ok (drop (n * k) l)
  unfolding all
  all_blocks k zero l = ap (λ (n : ℕ). all ok (drop n l)) (sym (zero-mul k))
  all_blocks k (suc n) l =
      all_parts k l
      ∙ ap (λ (x : Bool). all ok (take k l) && x) (all_blocks k n (drop k l))
      ∙ sym (and_assoc (all ok (take k l)) (all (all ok) (first_chunks k n (drop k l))) (all ok (drop (n * k) (drop k l))))
      ∙ ap (λ (x : List A). (all ok (take k l) && all (all ok) (first_chunks k n (drop k l))) && all ok x) (drop-drop (n * k) k l ∙ ap (λ (m : ℕ). drop m l) (omega (arith, suc-mul n k)))

  -- the k-th block of n
  pub block_is : (n m : ℕ) (l : List A) (k : ℕ) (d : List A) → k < m → get_or (first_chunks n m l) k d ≡ take n (drop (k * n) l)
  block_is n zero l k d h = absurd (not-suc-le-zero h)
  block_is n (suc m) l zero d h = ap (λ (j : ℕ). take n (drop j l)) (sym (zero-mul n))
  block_is n (suc m) l (suc k) d h =
      block_is n m (drop n l) k d (le_of_suc-le-suc h)
      ∙ ap (take n) (drop-drop (k * n) n l ∙ ap (λ (j : ℕ). drop j l) (omega (arith, suc-mul k n)))

  -- it and those behind it
  pub block_next : (n k : ℕ) (l : List A) → all ok (drop (k * n) l) ≡ all ok (take n (drop (k * n) l)) && all ok (drop ((k + 1) * n) l)
  block_next n k l =
      all_parts n (drop (k * n) l)
      ∙ ap (λ (x : List A). all ok (take n (drop (k * n) l)) && all ok x) (drop-drop n (k * n) l ∙ ap (λ (j : ℕ). drop j l) (omega (arith, suc-mul k n)))

-- the bounds of `TAME`, as the code has them
pub tame_is : between (of_bits binary32 0xc780_0000) (of_bits binary32 0x4780_0000) ≡ tame
unfolding neg of_bits
tame_is = refl

-- zeros, as `fill` leaves them
pub zeros : (n : ℕ) (v : Float) → replicate n v ≡ tabulate n (λ x. v)
unfolding tabulate
zeros zero v = refl
zeros (suc n) v = ap (λ (l : List Float). v ∷ l) (zeros n v)
