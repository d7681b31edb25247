-- The tests of one code, in the order in which the code of the check makes them. Assumes nothing.
use mathlib.Core.Path.{◌≡◌, refl, sym, ap, ◌∙◌}
use mathlib.Core.Bool.{Bool, true, false, ◌&&◌, and_comm}
use mathlib.Core.List.{List}
use Prim.Native.Nat.{ℕ, zero, suc, ◌-◌, ◌*◌, ◌%◌, ◌^◌, ◌≤◌, ◌<◌}
use native.Mathlib.Nat.{div-eq_of_lt}
use native.Mathlib.Omega.{arith}
use borrow.Author.Tests.{le-leb, lt-leb}
use lib.Bits.{differ}
use lib.Dec.{leb}
use lib.ListN.{length, get_or, take}
use lib.Pow.{pow_pos}
use native.Mathlib.Numerals.{add-one}
use Rattle.std.specs.List.{list_all, range_with_len}
use Rattle.std.proofs.lemmas.List.{take_all}
use Rattle.std.proofs.lemmas.List.FromFn.{length-range_with_len, get_or-range_with_len}
use Rattle.std.proofs.lemmas.List.Folds.{list_all_more}
use Rattle.lists.specs.Sum.{sum}
use Rattle.lists.proofs.Sum.{sum_ext}
use Rattle.word.specs.Word.{bit, differing, differing_in}
use Rattle.word.proofs.Differing.{in_square, differing-le}
use Rattle.tables.proofs.Table.{Codes}
use Rattle.lists.specs.Each.{each}
use Rattle.likeness.specs.Likeness.{ones, mixed, apart_in_turns, apart_from_itself, passes_at}
use Rattle.likeness.specs.Turned.{four_turns, far_from, far_self}
use Rattle.lists.proofs.Each.{each_ext}
use Rattle.likeness.proofs.Turned.{far_from_is, far_self_is}

differ-zero : (x : ℕ) → differ x 0 ≡ x
differ-zero zero = refl
differ-zero (suc x) = refl

-- against 0 a word differs at its ones
against_zero : (n a : ℕ) → differing_in n a 0 ≡ sum n (bit a)
unfolding differing_in
against_zero n a =
    sum_ext n (λ k. differ (bit a k) (bit 0 k)) (bit a) (λ k l. ap (λ (x : ℕ). differ (bit a k) (x % 2)) (div-eq_of_lt (pow_pos k)) ∙ differ-zero (bit a k))

module _ (e a : ℕ) (edge : e ≤ 8) (small : a < 2 ^ (e * e)) where
  pub ones_is : differing a 0 ≡ ones e a
  unfolding ones
  ones_is = in_square e edge a 0 small (pow_pos (e * e)) ∙ against_zero (e * e) a

  pub ones-le : differing a 0 ≤ e * e
  ones-le = omega (arith, in_square e edge a 0 small (pow_pos (e * e)), differing-le (e * e) a 0)

  pub too_few_ones : (t n : ℕ) → n ≡ differing a 0 → n < t → false ≡ mixed e t a
  unfolding mixed
  too_few_ones t n q h = sym (ap (λ (x : Bool). x && leb t (e * e - ones e a)) (lt-leb t (ones e a) (omega (arith, ones_is))))

  pub enough_ones : (t n : ℕ) → n ≡ differing a 0 → t ≤ n → leb t (e * e - n) ≡ mixed e t a
  unfolding mixed
  enough_ones t n q h =
      ap (λ (x : ℕ). leb t (e * e - x)) (q ∙ ones_is) ∙ sym (ap (λ (x : Bool). x && leb t (e * e - ones e a)) (le-leb t (ones e a) (omega (arith, ones_is))))

-- ---- the code at position n of a table

-- a test of the codes before a position is that of their list
all_before : (ok : ℕ → Bool) (codes : List ℕ) (n : ℕ) → n ≤ length codes → list_all ok (take n codes) ≡ each n (λ j. ok (get_or codes j 0))
unfolding each
all_before ok codes zero h = refl
all_before ok codes (suc n) h =
    ap (λ (k : ℕ). list_all ok (take k codes)) (sym (add-one n)) ∙ list_all_more ok codes n 0 (omega arith)
    ∙ ap (λ (x : Bool). x && ok (get_or codes n 0)) (all_before ok codes n (omega arith)) ∙ and_comm (each n (λ j. ok (get_or codes j 0))) (ok (get_or codes n 0))

-- and a test of a range of numbers is that of each of them
pub all_in_range : (ok : ℕ → Bool) (n : ℕ) → list_all ok (range_with_len 0 n) ≡ each n ok
all_in_range ok n =
    let r = range_with_len 0 n in
    ap (list_all ok) (sym (take_all n r (omega (arith, length-range_with_len 0 n)))) ∙ all_before ok r n (omega (arith, length-range_with_len 0 n))
    ∙ each_ext n (λ j. ok (get_or r j 0)) ok (λ j h. ap ok (get_or-range_with_len 0 n j 0 h ∙ omega arith))

module _ (e t : ℕ) (codes : List ℕ) (n : ℕ) (table : Codes e t codes) (inside : n < length codes) where
  abbrev code : ℕ
  code = get_or codes n 0

  earlier : list_all (far_from (2 * t - 1) (four_turns e code)) (take n codes) ≡ each n (λ j. apart_in_turns e t code (get_or codes j 0))
  earlier =
      all_before (far_from (2 * t - 1) (four_turns e code)) codes n (omega arith)
      ∙ each_ext n (λ j. far_from (2 * t - 1) (four_turns e code) (get_or codes j 0)) (λ j. apart_in_turns e t code (get_or codes j 0)) (λ j l.
      far_from_is e t code table.edges.most (table.small n inside) (get_or codes j 0) (table.small j (omega arith)))

  pub not_mixed : mixed e t code ≡ false → false ≡ passes_at e t codes n
  unfolding passes_at
  not_mixed m = simp m

  module _ (ts : List ℕ) (four : ts ≡ four_turns e code) (m : mixed e t code ≡ true) where
    own : far_self (2 * t - 1) ts ≡ apart_from_itself e t code
    own = rw four (far_self_is e t code table.edges.most (table.small n inside))

    pub near_itself : far_self (2 * t - 1) ts ≡ false → false ≡ passes_at e t codes n
    unfolding passes_at
    near_itself f = simp (m, sym own ∙ f)

    pub tested : (r : Bool) → far_self (2 * t - 1) ts ≡ true → r ≡ list_all (far_from (2 * t - 1) ts) (take n codes) → r ≡ passes_at e t codes n
    unfolding passes_at
    tested r f q = simp (m, sym own ∙ f) (q ∙ rw four earlier)
