-- The loops over the levels: what each has after i levels, and how one level more changes it. Assumes nothing.
use mathlib.Core.Path.{◌≡◌, refl, sym, ap, ap₂, ◌∙◌, subst}
use mathlib.Core.Bool.{Bool, true, false, cond}
use mathlib.Core.List.{List, [], ◌∷◌, foldl}
use Prim.Native.Nat.{ℕ, zero, suc, ◌+◌, ◌-◌, ◌*◌, ◌^◌, ◌≤◌, ◌<◌}
use native.Mathlib.Nat.{pow-suc, mul_assoc, add_comm, le_of_suc-le-suc, not-suc-le-zero}
use native.Mathlib.Numerals.{add-one}
use native.Mathlib.Omega.{arith}
use mir.Val.{bool_byte}
use lib.Dec.{ltb}
use lib.ListN.{length, get_or}
use lib.Pow.{pow_mono}
use Rattle.lists.specs.Sum.{sum, one_if}
use Rattle.lists.proofs.Sum.{sum_most, one_if-lt}
use Rattle.word.specs.Word.{word}
use Rattle.levels.specs.Levels.{over_all, above, distance, unsure}
use Rattle.word.proofs.Bits.{word-lt, word_ext}

-- ---- least and greatest: the first level, joined with all

pub over_first : (f : ℕ → ℕ → ℕ) (l : List ℕ) → ((v : ℕ) → f v v ≡ v) → 0 < length l → foldl f (get_or l 0 0) l ≡ over_all f l
unfolding over_all
over_first f [] same h = absurd (not-suc-le-zero h)
over_first f (v ∷ vs) same h = ap (λ (x : ℕ). foldl f x vs) (same v)

-- ---- the number of unsure levels

pub unsure-lt : (middle band level : ℕ) → unsure middle band level < 2
unsure-lt middle band level = one_if-lt (ltb (distance level middle) band)

module _ (middle band : ℕ) (levels : List ℕ) where
  -- among the first i levels
  abbrev pub first_unsure : ℕ → ℕ
  first_unsure i = sum i (λ k. unsure middle band (get_or levels k 0))

  pub unsure-le : (i : ℕ) → first_unsure i ≤ i
  unsure-le i = omega (arith, sum_most i 1 (λ k. unsure middle band (get_or levels k 0)) (λ k l. le_of_suc-le-suc (unsure-lt middle band (get_or levels k 0))))

  pub unsure_more : (i n r : ℕ) → r ≡ unsure middle band (get_or levels i 0) → n ≡ first_unsure i → n + r ≡ first_unsure (i + 1)
  unfolding sum
  unsure_more i n r e inv =
      add_comm n r ∙ ap₂ (λ (x y : ℕ). x + y) e inv ∙ ap (λ (x : ℕ). first_unsure x) (sym (add-one i))

-- ---- the word

-- a word from its lowest bit on
word_low : (n : ℕ) (f : ℕ → ℕ) → word (suc n) f ≡ word n (λ k. f (suc k)) * 2 + f 0
unfolding word
word_low zero f = omega arith
word_low (suc n) f =
    let e : f (suc n) * 2 ^ suc n ≡ f (suc n) * 2 ^ n * 2 = ap (λ (x : ℕ). f (suc n) * x) (pow-suc 2 n) ∙ sym (mul_assoc (f (suc n)) (2 ^ n) 2) in
    omega (arith, word_low n f)

-- a test as a number
pub byte_one : (t : Bool) → bool_byte t ≡ one_if t
byte_one true = refl
byte_one false = refl

pub above-lt : (middle level : ℕ) → above middle level < 2
above-lt middle level = one_if-lt (ltb middle level)

module _ (middle : ℕ) (levels : List ℕ) where
  -- of the first i levels
  abbrev pub first_word : ℕ → ℕ
  first_word i = word i (λ place. above middle (get_or levels (i - 1 - place) 0))

  -- with one level more it fits 64 bits
  pub word_fits : (i bits : ℕ) → i < 64 → bits ≡ first_word i → bits * 2 + 1 < 2 ^ 64
  word_fits i bits h inv =
      let p : bits < 2 ^ i = subst (λ (x : ℕ). x < 2 ^ i) (sym inv) (word-lt i _ (λ place. above-lt middle (get_or levels (i - 1 - place) 0))) in
      let q : 2 ^ suc i ≡ 2 ^ i * 2 = pow-suc 2 i in
      let r : 2 ^ suc i ≤ 2 ^ 64 = pow_mono h in
      omega arith

  pub word_more : (i bits r : ℕ) → r ≡ above middle (get_or levels i 0) → bits ≡ first_word i → bits * 2 + r ≡ first_word (i + 1)
  word_more i bits r e inv =
      let level : ℕ → ℕ = λ k. above middle (get_or levels k 0) in
      ap₂ (λ (x y : ℕ). x * 2 + y)
      (inv ∙ word_ext i (λ place. level (i - 1 - place)) (λ place. level (i + 1 - 1 - suc place)) (λ k l. ap level (omega arith)))
      (e ∙ ap level (omega arith))
      ∙ sym (word_low i (λ place. level (i + 1 - 1 - place)))
      ∙ ap (λ (x : ℕ). word x (λ place. level (i + 1 - 1 - place))) (sym (add-one i))
