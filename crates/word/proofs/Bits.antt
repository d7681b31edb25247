-- Words and their bits. That a bit is below 2, that words with the same bits are equal, and that a word has no bit above its places, are
-- the library's `bit_at-lt`, `same_from_bits_below` and `bit_at_above`. Assumes nothing.
use mathlib.Core.Path.{◌≡◌, refl, sym, ap, ap₂, ◌∙◌, subst}
use mathlib.Core.Logic.{◌⊎◌, inl, inr}
use Prim.Native.Nat.{ℕ, zero, suc, ◌+◌, ◌-◌, ◌*◌, ◌/◌, ◌%◌, ◌^◌, ◌<◌}
use native.Mathlib.Nat.{le_refl, le_trans, zero-lt-suc, not-suc-le-zero, le_of_suc-le-suc, eq-or-lt_of_le, mod-eq_of_lt, mul_comm, pow-suc, sub-add_cancel, mod-one}
use native.Mathlib.Omega.{arith}
use native.Mathlib.Numerals.{one-add, add-one}
use lib.Arith.{digits_lt}
use lib.Pow.{high, low, field, split, shr-shr, mod-mod-pow, mod-pow-add}
use Rattle.word.specs.Word.{bit, word}

pub word-lt : (n : ℕ) (f : ℕ → ℕ) → ((k : ℕ) → f k < 2) → word n f < 2 ^ n
unfolding word
word-lt zero f h = zero-lt-suc 0
word-lt (suc n) f h =
    subst (λ (x : ℕ). f n * 2 ^ n + word n f < x) (mul_comm 2 (2 ^ n) ∙ sym (pow-suc 2 n)) (digits_lt (h n) (word-lt n f h))

-- a word with one place more
pub word_more : (f : ℕ → ℕ) (n x b r : ℕ) → x ≡ f n → b ≡ word n f → r ≡ x * 2 ^ n + b → r ≡ word (n + 1) f
unfolding word
word_more f n x b r ex eb er = er ∙ ap₂ (λ (y c : ℕ). y * 2 ^ n + c) ex eb ∙ ap (λ (m : ℕ). word m f) (sym (add-one n))

-- the bits below n are those of the n low digits
pub bit-mod : (w k n : ℕ) → k < n → bit (w % 2 ^ n) k ≡ bit w k
bit-mod w k n h =
    let e : n - suc k + suc k ≡ n = sub-add_cancel h in
    let p : (v : ℕ) → v % 2 ^ suc k / 2 ^ k ≡ bit v k = λ v. ap (λ (x : ℕ). v % 2 ^ x / 2 ^ k) (sym (one-add k)) ∙ field v 1 k in
    sym (p (w % 2 ^ n))
    ∙ ap (λ (x : ℕ). x / 2 ^ k) (ap (λ (x : ℕ). w % 2 ^ x % 2 ^ suc k) (sym e) ∙ mod-mod-pow w (n - suc k) (suc k))
    ∙ p w

pub bit-word : (n : ℕ) (f : ℕ → ℕ) → ((k : ℕ) → f k < 2) → (k : ℕ) → k < n → bit (word n f) k ≡ f k
unfolding word
bit-word zero f h k l = absurd (not-suc-le-zero l)
bit-word (suc n) f h k l = go (bit-word n f h k) (eq-or-lt_of_le (le_of_suc-le-suc l))
  where
    go : (k < n → bit (word n f) k ≡ f k) → (k ≡ n) ⊎ (k < n) → bit (f n * 2 ^ n + word n f) k ≡ f k
    go ih (inl e) = subst (λ (j : ℕ). bit (f n * 2 ^ n + word n f) j ≡ f j) (sym e)
        (ap (λ (x : ℕ). x % 2) (high (f n) n (word-lt n f h)) ∙ mod-eq_of_lt (h n))
    go ih (inr m) =
        sym (bit-mod (f n * 2 ^ n + word n f) k n m) ∙ ap (λ (x : ℕ). bit x k) (low (f n) n (word-lt n f h)) ∙ ih m

-- a word is the word of its bits
pub word-mod : (n w : ℕ) → word n (bit w) ≡ w % 2 ^ n
unfolding word
word-mod zero w = sym (mod-one w)
word-mod (suc n) w =
    ap (λ (x : ℕ). bit w n * 2 ^ n + x) (word-mod n w) ∙ sym (mod-pow-add w 1 n) ∙ ap (λ (x : ℕ). w % 2 ^ x) (one-add n)

pub word_ext : (n : ℕ) (f g : ℕ → ℕ) → ((k : ℕ) → k < n → f k ≡ g k) → word n f ≡ word n g
unfolding word
word_ext zero f g h = refl
word_ext (suc n) f g h =
    ap₂ (λ (x y : ℕ). x * 2 ^ n + y) (h n (le_refl (suc n))) (word_ext n f g (λ k l. h k (le_trans l (omega arith))))

-- a word without its m low places, from the word without one place more
pub word_lower : (w m : ℕ) → w / 2 ^ (m + 1) * 2 + bit w m ≡ w / 2 ^ m
word_lower w m = ap (λ (x : ℕ). x * 2 + bit w m) (sym (shr-shr w m 1)) ∙ split (w / 2 ^ m) 1
