-- The quarter turn of a square, for all edges together. Assumes nothing.
use mathlib.Core.Path.{◌≡◌, refl, sym, ap, ap₂, ◌∙◌, subst}
use Prim.Native.Nat.{ℕ, zero, suc, ◌+◌, ◌-◌, ◌*◌, ◌/◌, ◌%◌, ◌^◌, ◌≤◌, ◌<◌}
use native.Mathlib.Nat.{div-add-mod', zero-add, suc-add, lt_of_lt_of_le, le_trans, mul-le-mul_left}
use native.Mathlib.Omega.{arith}
use lib.Arith.{digits_lt, digits_div, digits_mod}
use Rattle.lists.specs.Sum.{sum}
use Rattle.lists.proofs.Grid.{square_row, square_column}
use Rattle.lists.proofs.Sum.{sum_ext, sum_rows, sum_swap, sum_back}
use Rattle.word.specs.Word.{bit, source, turn, turns}
use Rattle.std.proofs.lemmas.Nat.Bits.{bit_at-lt, same_from_bits_below}
use Rattle.word.proofs.Bits.{bit-mod, bit-word, word-lt, word_ext}

module _ (e : ℕ) where
  pub source_at : (i j : ℕ) → j < e → source e (i * e + j) ≡ j * e + (e - 1 - i)
  source_at i j h = ap₂ (λ (x y : ℕ). x * e + (e - 1 - y)) (digits_mod i h) (digits_div i h)

  -- what holds at each row and column holds at each place of the square
  pub by_square : (P : ℕ → Type 0) → ((i j : ℕ) → i < e → j < e → P (i * e + j)) → (k : ℕ) → k < e * e → P k
  by_square P h k l = subst P (div-add-mod' k e) (h (k / e) (k % e) (square_row e k l) (square_column e k l))

  pub source-lt : (k : ℕ) → k < e * e → source e k < e * e
  source-lt = by_square (λ (k : ℕ). source e k < e * e) (λ i j hi hj.
      subst (λ (x : ℕ). x < e * e) (sym (source_at i j hj)) (digits_lt hj (omega arith)))

  pub turn-lt : (w : ℕ) → turn e w < 2 ^ (e * e)
  unfolding turn
  turn-lt w = word-lt (e * e) (λ k. bit w (source e k)) (λ k. bit_at-lt w (source e k))

  pub bit-turn : (w k : ℕ) → k < e * e → bit (turn e w) k ≡ bit w (source e k)
  unfolding turn
  bit-turn w k l = bit-word (e * e) (λ j. bit w (source e j)) (λ j. bit_at-lt w (source e j)) k l

  pub source_four : (k : ℕ) → k < e * e → source e (source e (source e (source e k))) ≡ k
  source_four = by_square (λ (k : ℕ). source e (source e (source e (source e k))) ≡ k) (λ i j hi hj.
      let i' : e - 1 - (e - 1 - i) ≡ i = omega arith in
      let j' : e - 1 - (e - 1 - j) ≡ j = omega arith in
      let li : e - 1 - i < e = omega arith in
      let lj : e - 1 - j < e = omega arith in
      ap (λ (x : ℕ). source e (source e (source e x))) (source_at i j hj)
      ∙ ap (λ (x : ℕ). source e (source e x)) (source_at j (e - 1 - i) li)
      ∙ ap (λ (x : ℕ). source e x) (source_at (e - 1 - i) (e - 1 - j) lj)
      ∙ ap (λ (x : ℕ). source e ((e - 1 - j) * e + x)) i'
      ∙ source_at (e - 1 - j) i hi
      ∙ ap (λ (x : ℕ). i * e + x) j')

  pub turn_four : (w : ℕ) → w < 2 ^ (e * e) → turn e (turn e (turn e (turn e w))) ≡ w
  turn_four w h =
      same_from_bits_below (e * e) (turn e (turn e (turn e (turn e w)))) w (turn-lt (turn e (turn e (turn e w)))) h (λ k l.
      let s = source e in
      let l1 = source-lt k l in
      let l2 = source-lt (source e k) l1 in
      let l3 = source-lt (source e (source e k)) l2 in
      bit-turn (turn e (turn e (turn e w))) k l ∙ bit-turn (turn e (turn e w)) (source e k) l1
      ∙ bit-turn (turn e w) (source e (source e k)) l2 ∙ bit-turn w (source e (source e (source e k))) l3
      ∙ ap (bit w) (source_four k l))

-- a turn takes each place of the square once
pub sum-turn : (e : ℕ) (f : ℕ → ℕ) → sum (e * e) (λ k. f (source e k)) ≡ sum (e * e) f
sum-turn e f =
    sum_rows e e (λ k. f (source e k))
    ∙ sum_ext e (λ i. sum e (λ j. f (source e (i * e + j)))) (λ i. sum e (λ j. f (j * e + (e - 1 - i)))) (λ i hi.
    sum_ext e (λ j. f (source e (i * e + j))) (λ j. f (j * e + (e - 1 - i))) (λ j hj. ap f (source_at e i j hj)))
    ∙ sum_swap e e (λ i j. f (j * e + (e - 1 - i)))
    ∙ sum_ext e (λ j. sum e (λ i. f (j * e + (e - 1 - i)))) (λ j. sum e (λ i. f (j * e + i))) (λ j hj. sum_back e (λ i. f (j * e + i)))
    ∙ sym (sum_rows e e f)

-- the bits above the square are lost
pub turn-mod : (e w : ℕ) → turn e (w % 2 ^ (e * e)) ≡ turn e w
unfolding turn
turn-mod e w =
    word_ext (e * e) (λ k. bit (w % 2 ^ (e * e)) (source e k)) (λ k. bit w (source e k)) (λ k l. bit-mod w (source e k) (e * e) (source-lt e k l))

pub turns-lt : (e q w : ℕ) → w < 2 ^ (e * e) → turns e q w < 2 ^ (e * e)
unfolding turns
turns-lt e zero w h = h
turns-lt e (suc q) w h = turns-lt e q (turn e w) (turn-lt e w)

pub turns-add : (e p q w : ℕ) → turns e (p + q) w ≡ turns e q (turns e p w)
unfolding turns
turns-add e zero q w = ap (λ (n : ℕ). turns e n w) (zero-add q)
turns-add e (suc p) q w = ap (λ (n : ℕ). turns e n w) (suc-add p q) ∙ turns-add e p q (turn e w)

-- a turn after q turns is a turn before them
pub turns-turn : (e q w : ℕ) → turns e q (turn e w) ≡ turn e (turns e q w)
unfolding turns
turns-turn e zero w = refl
turns-turn e (suc q) w = turns-turn e q (turn e w)

-- a row and a column of a square with an edge up to 8 are a place below 64
pub place_lt : (e i j : ℕ) → e ≤ 8 → i < e → j < e → i * e + j < 64
place_lt e i j h hi hj = lt_of_lt_of_le (digits_lt hi hj) (le_trans (mul-le-mul_left e h) (omega arith))

-- "four turns are none on the square"
pub turns_four : (e w : ℕ) → w < 2 ^ (e * e) → turns e 4 w ≡ w
unfolding turns
turns_four e w h = turn_four e w h

pub turns_past_four : (e r w : ℕ) → w < 2 ^ (e * e) → turns e (4 + r) w ≡ turns e r w
turns_past_four e r w h = turns-add e 4 r w ∙ ap (turns e r) (turns_four e w h)
