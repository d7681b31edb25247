-- The number of differing bits: a distance, which a turn keeps. Assumes nothing.
use mathlib.Core.Path.{◌≡◌, refl, sym, ap, ap₂, ◌∙◌}
use mathlib.Core.Logic.{⊎_elim}
use mathlib.Core.Bool.{Bool, true, false}
use Prim.Native.Nat.{ℕ, zero, suc, ◌+◌, ◌-◌, ◌*◌, ◌/◌, ◌%◌, ◌^◌, ◌≤◌, ◌<◌}
use native.Mathlib.Nat.{zero-lt-suc, not-suc-le-zero, le_of_suc-le-suc, mod-eq_of_lt, mul-le-mul, eq-or-lt_of_le}
use native.Mathlib.Omega.{arith}
use borrow.Author.Tests.{leb-true, leb-false}
use lib.Arith.{digits_mod}
use lib.Dec.{leb}
use lib.Bits.{bit_xor, xor_shr, xor_step, xor_lt, differ}
use lib.Count.{ones, ones_cat}
use Rattle.std.proofs.lemmas.Nat.Bits.{bit_at-lt, bit_at_above}
use Rattle.lists.specs.Sum.{sum}
use Rattle.lists.proofs.Sum.{sum_ext, sum-le, sum_plus, sum_most, sum-add, sum_none}
use Rattle.word.specs.Word.{bit, word, source, turn, turns, differing_in, differing}
use Rattle.word.proofs.Bits.{word-lt, word-mod}
use Rattle.word.proofs.Turn.{bit-turn, sum-turn, turns-lt, turns-add, turns_four, turns_past_four}

one_bit : (x : ℕ) → x < 2 → ones x ≡ x
unfolding ones
one_bit zero h = refl
one_bit (suc zero) h = refl
one_bit (suc (suc x)) h = absurd (not-suc-le-zero (le_of_suc-le-suc (le_of_suc-le-suc h)))

ones-word : (n : ℕ) (f : ℕ → ℕ) → ((k : ℕ) → f k < 2) → ones (word n f) ≡ sum n f
unfolding word sum
ones-word zero f h = one_bit 0 (zero-lt-suc 1)
ones-word (suc n) f h = ones_cat n (f n) (word n f) (word-lt n f h) ∙ ap₂ (λ (x y : ℕ). x + y) (one_bit (f n) (h n)) (ones-word n f h)

ones-sum : (n w : ℕ) → w < 2 ^ n → ones w ≡ sum n (bit w)
ones-sum n w h = ap ones (sym (mod-eq_of_lt h) ∙ sym (word-mod n w)) ∙ ones-word n (bit w) (bit_at-lt w)

differ-lt : (x y : ℕ) → x < 2 → y < 2 → differ x y < 2
differ-lt zero y hx hy = hy
differ-lt (suc x) zero hx hy = hx
differ-lt (suc x) (suc y) hx hy = differ-lt x y (omega arith) (omega arith)

xor_bit : (a b k : ℕ) → bit (bit_xor a b) k ≡ differ (bit a k) (bit b k)
xor_bit a b k =
    ap (λ (x : ℕ). x % 2) (xor_shr a b k ∙ xor_step (a / 2 ^ k) (b / 2 ^ k))
    ∙ digits_mod (bit_xor (a / 2 ^ k / 2) (b / 2 ^ k / 2)) (differ-lt (bit a k) (bit b k) (bit_at-lt a k) (bit_at-lt b k))

-- what `u64::count_ones(a ^ b)` counts
pub ones-differing : (n a b : ℕ) → a < 2 ^ n → b < 2 ^ n → ones (bit_xor a b) ≡ differing_in n a b
unfolding differing_in
ones-differing n a b ha hb =
    ones-sum n (bit_xor a b) (xor_lt n a b ha hb) ∙ sum_ext n (bit (bit_xor a b)) (λ k. differ (bit a k) (bit b k)) (λ k l. xor_bit a b k)

-- a word differs from itself nowhere
differ_same : (x : ℕ) → differ x x ≡ 0
differ_same zero = refl
differ_same (suc x) = differ_same x

pub differing_same : (n a : ℕ) → differing_in n a a ≡ 0
unfolding differing_in
differing_same n a = sum_ext n (λ k. differ (bit a k) (bit a k)) (λ k. 0) (λ k l. differ_same (bit a k)) ∙ sum_none n

-- "a turn keeps the number of differing bits": for every edge, and for any two words
pub turn-differing : (e a b : ℕ) → differing_in (e * e) (turn e a) (turn e b) ≡ differing_in (e * e) a b
unfolding differing_in
turn-differing e a b =
    sum_ext (e * e) (λ k. differ (bit (turn e a) k) (bit (turn e b) k)) (λ k. differ (bit a (source e k)) (bit b (source e k)))
    (λ k l. ap₂ differ (bit-turn e a k l) (bit-turn e b k l))
    ∙ sum-turn e (λ k. differ (bit a k) (bit b k))

pub turns-differing : (e q a b : ℕ) → differing_in (e * e) (turns e q a) (turns e q b) ≡ differing_in (e * e) a b
unfolding turns
turns-differing e zero a b = refl
turns-differing e (suc q) a b = turns-differing e q (turn e a) (turn e b) ∙ turn-differing e a b

-- words of n bits differ in no higher place
pub differing_low : (n m a b : ℕ) → n ≤ m → a < 2 ^ n → b < 2 ^ n → differing_in m a b ≡ differing_in n a b
unfolding differing_in
differing_low n m a b l ha hb =
    let e : n + (m - n) ≡ m = omega arith in
    let none = sum_ext (m - n) (λ j. differ (bit a (n + j)) (bit b (n + j))) (λ j. 0) (λ j _. ap₂ differ (bit_at_above a n (n + j) ha (omega arith)) (bit_at_above b n (n + j) hb (omega arith))) ∙ sum_none (m - n) in
    ap (λ (x : ℕ). sum x (λ k. differ (bit a k) (bit b k))) (sym e)
    ∙ sum-add n (m - n) (λ k. differ (bit a k) (bit b k))
    ∙ omega (arith, none)

differ-le-add : (x y : ℕ) → differ x y ≤ x + y
differ-le-add zero y = omega arith
differ-le-add (suc x) zero = omega arith
differ-le-add (suc x) (suc y) = omega (arith, differ-le-add x y)

le-add-differ : (x y : ℕ) → x ≤ y + differ y x
le-add-differ x zero = omega arith
le-add-differ zero (suc y) = omega arith
le-add-differ (suc x) (suc y) = omega (arith, le-add-differ x y)

differ_comm : (x y : ℕ) → differ x y ≡ differ y x
differ_comm zero zero = refl
differ_comm zero (suc y) = refl
differ_comm (suc x) zero = refl
differ_comm (suc x) (suc y) = differ_comm x y

differ_tri : (x y z : ℕ) → differ x z ≤ differ x y + differ y z
differ_tri zero y z = le-add-differ z y
differ_tri (suc x) zero zero = omega arith
differ_tri (suc x) zero (suc z) = omega (arith, differ-le-add x z)
differ_tri (suc x) (suc y) zero = omega (arith, le-add-differ x y, differ_comm x y)
differ_tri (suc x) (suc y) (suc z) = differ_tri x y z

pub triangle : (n a b c : ℕ) → differing_in n a c ≤ differing_in n a b + differing_in n b c
unfolding differing_in
triangle n a b c =
    let s = sum_plus n (λ k. differ (bit a k) (bit b k)) (λ k. differ (bit b k) (bit c k)) in
    let t = sum-le n (λ k. differ (bit a k) (bit c k)) (λ k. differ (bit a k) (bit b k) + differ (bit b k) (bit c k)) (λ k. differ_tri (bit a k) (bit b k) (bit c k)) in
    omega arith

pub differing_comm : (n a b : ℕ) → differing_in n a b ≡ differing_in n b a
unfolding differing_in
differing_comm n a b = sum_ext n (λ k. differ (bit a k) (bit b k)) (λ k. differ (bit b k) (bit a k)) (λ k l. differ_comm (bit a k) (bit b k))

pub differing-le : (n a b : ℕ) → differing_in n a b ≤ n
unfolding differing_in
differing-le n a b =
    omega (arith, sum_most n 1 (λ k. differ (bit a k) (bit b k)) (λ k l. le_of_suc-le-suc (differ-lt (bit a k) (bit b k) (bit_at-lt a k) (bit_at-lt b k))))

-- ---- words of a square with an edge up to 8, in any turns

module _ (e : ℕ) (edge : e ≤ 8) where
  pub places_le : e * e ≤ 64
  places_le = mul-le-mul edge edge

  -- all that differs lies in the square
  pub in_square : (a b : ℕ) → a < 2 ^ (e * e) → b < 2 ^ (e * e) → differing a b ≡ differing_in (e * e) a b
  in_square a b ha hb = differing_low (e * e) 64 a b places_le ha hb

  pub turned_alike : (q a b : ℕ) → a < 2 ^ (e * e) → b < 2 ^ (e * e) → differing (turns e q a) (turns e q b) ≡ differing a b
  turned_alike q a b ha hb =
      in_square (turns e q a) (turns e q b) (turns-lt e q a ha) (turns-lt e q b hb) ∙ turns-differing e q a b ∙ sym (in_square a b ha hb)

  -- a in p turns against b in q turns is a in `by` turns against b
  pub record Aligned (p q : ℕ) : Type 0 where
    pub by : ℕ
    pub by_lt : by < 4
    pub by_pos : (p ≡ q → ⊥) → 0 < by
    pub same : (a b : ℕ) → a < 2 ^ (e * e) → b < 2 ^ (e * e) → differing (turns e p a) (turns e q b) ≡ differing (turns e by a) b

  -- both are turned on until b is as it was
  on : (p q r : ℕ) (a b : ℕ) → q < 4 → a < 2 ^ (e * e) → b < 2 ^ (e * e) → turns e (p + (4 - q)) a ≡ turns e r a → differing (turns e p a) (turns e q b) ≡ differing (turns e r a) b
  on p q r a b hq ha hb h =
      let s : q + (4 - q) ≡ 4 = omega arith in
      sym (turned_alike (4 - q) (turns e p a) (turns e q b) (turns-lt e p a ha) (turns-lt e q b hb))
      ∙ ap₂ differing (sym (turns-add e p (4 - q) a) ∙ h) (sym (turns-add e q (4 - q) b) ∙ ap (λ (n : ℕ). turns e n b) s ∙ turns_four e b hb)

  pub align : (p q : ℕ) → p < 4 → q < 4 → Aligned p q
  align p q hp hq = go (leb q p) refl
    where
      go : (t : Bool) → leb q p ≡ t → Aligned p q
      go true t =
          let l = leb-true q p t in
          let s : p + (4 - q) ≡ 4 + (p - q) = omega arith in
          record {
            by = p - q;
            by_lt = omega arith;
            by_pos = λ ne. ⊎_elim (λ z. absurd (ne (sym z))) (λ m. omega arith) (eq-or-lt_of_le l);
            same = λ a b ha hb. on p q (p - q) a b hq ha hb (ap (λ (n : ℕ). turns e n a) s ∙ turns_past_four e (p - q) a ha);
          }
      go false t =
          let l = leb-false q p t in
          record { by = p + (4 - q); by_lt = omega arith; by_pos = λ ne. omega arith; same = λ a b ha hb. on p q (p + (4 - q)) a b hq ha hb refl }
