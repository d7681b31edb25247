-- The likeness check says what the paper says, of all positions and turns. Assumes nothing.
use mathlib.Core.Path.{◌≡◌, refl, ap₂, subst}
use mathlib.Core.Logic.{⊎_elim}
use mathlib.Core.Bool.{Bool, true, false, ◌&&◌}
use mathlib.Core.List.{List}
use Prim.Native.Nat.{ℕ, ◌-◌, ◌*◌, ◌≤◌, ◌<◌}
use native.Mathlib.Nat.{eq-or-lt_of_le}
use native.Mathlib.Omega.{arith}
use borrow.Author.Tests.{leb-true, leb-false, le-leb}
use lib.Dec.{leb}
use lib.ListN.{length, get_or}
use Rattle.std.specs.Cmp.{first_so, second_so}
use Rattle.word.specs.Word.{turns, differing}
use Rattle.word.proofs.Differing.{differing_comm}
use Rattle.lists.specs.Each.{each}
use Rattle.likeness.specs.Likeness.{ones, mixed, apart_in_turns, apart_from_itself, passes_at, likeness}
use Rattle.lists.proofs.Each.{each_at, each_of}
use Rattle.likeness.proofs.Turned.{in_turns_at, in_turns_of, from_itself_at, from_itself_of}

-- each code has at least t ones and t zeros; two codes in any turns, and one code in two turns, differ in at least 2t − 1 bits
pub record Unlike (e t : ℕ) (codes : List ℕ) : Type 0 where
  pub light : (i : ℕ) → i < length codes → t ≤ ones e (get_or codes i 0)
  pub dark : (i : ℕ) → i < length codes → t ≤ e * e - ones e (get_or codes i 0)
  pub far : (i j p q : ℕ) → i < length codes → j < length codes → p < 4 → q < 4 → (i ≡ j → p ≡ q → ⊥)
      → 2 * t - 1 ≤ differing (turns e p (get_or codes i 0)) (turns e q (get_or codes j 0))

module _ (e t : ℕ) (codes : List ℕ) where
  abbrev code : ℕ → ℕ
  code i = get_or codes i 0

  mixed_at : (i : ℕ) → passes_at e t codes i ≡ true → mixed e t (get_or codes i 0) ≡ true
  unfolding passes_at
  mixed_at i h =
      first_so (mixed e t (code i)) (apart_from_itself e t (code i)) (first_so (mixed e t (code i) && apart_from_itself e t (code i)) (each i (λ j. apart_in_turns e t (code i) (code j))) h)

  itself_at : (i : ℕ) → passes_at e t codes i ≡ true → apart_from_itself e t (get_or codes i 0) ≡ true
  unfolding passes_at
  itself_at i h =
      second_so (mixed e t (code i)) (apart_from_itself e t (code i)) (first_so (mixed e t (code i) && apart_from_itself e t (code i)) (each i (λ j. apart_in_turns e t (code i) (code j))) h)

  earlier_at : (i j : ℕ) → j < i → passes_at e t codes i ≡ true → apart_in_turns e t (get_or codes i 0) (get_or codes j 0) ≡ true
  unfolding passes_at
  earlier_at i j l h =
      each_at i (λ j. apart_in_turns e t (code i) (code j)) (second_so (mixed e t (code i) && apart_from_itself e t (code i)) (each i (λ j. apart_in_turns e t (code i) (code j))) h) j l

  ones_at : (a : ℕ) → mixed e t a ≡ true → (t ≤ ones e a) × (t ≤ e * e - ones e a)
  unfolding mixed
  ones_at a h =
      (leb-true t (ones e a) (first_so (leb t (ones e a)) (leb t (e * e - ones e a)) h), leb-true t (e * e - ones e a) (second_so (leb t (ones e a)) (leb t (e * e - ones e a)) h))

  swapped : (a b : ℕ) → 2 * t - 1 ≤ differing a b → 2 * t - 1 ≤ differing b a
  swapped a b h = subst (λ (d : ℕ). 2 * t - 1 ≤ d) (differing_comm 64 a b) h

  pub unlike : likeness e t codes ≡ true → Unlike e t codes
  unfolding likeness
  unlike h = record {
    light = λ i l. (ones_at (code i) (mixed_at i (at i l))).0;
    dark = λ i l. (ones_at (code i) (mixed_at i (at i l))).1;
    far = λ i j p q hi hj hp hq ne. go i j p q hi hj hp hq ne (leb i j) refl;
  }
    where
      at : (i : ℕ) → i < length codes → passes_at e t codes i ≡ true
      at i l = each_at (length codes) (passes_at e t codes) h i l

      same : (i j p q : ℕ) → i < length codes → p < 4 → q < 4 → (p ≡ q → ⊥) → i ≡ j → 2 * t - 1 ≤ differing (turns e p (code i)) (turns e q (code j))
      same i j p q hi hp hq ne s =
          subst (λ (k : ℕ). 2 * t - 1 ≤ differing (turns e p (code i)) (turns e q (code k))) s (from_itself_at e t (code i) (itself_at i (at i hi)) p q hp hq ne)

      go : (i j p q : ℕ) → i < length codes → j < length codes → p < 4 → q < 4 → (i ≡ j → p ≡ q → ⊥) → (x : Bool) → leb i j ≡ x
          → 2 * t - 1 ≤ differing (turns e p (code i)) (turns e q (code j))
      go i j p q hi hj hp hq ne false x = in_turns_at e t (code i) (code j) (earlier_at i j (leb-false i j x) (at i hi)) p q hp hq
      go i j p q hi hj hp hq ne true x =
          ⊎_elim (λ s. same i j p q hi hp hq (ne s) s)
          (λ l. swapped (turns e q (code j)) (turns e p (code i)) (in_turns_at e t (code j) (code i) (earlier_at j i l (at j hj)) q p hq hp))
          (eq-or-lt_of_le (leb-true i j x))

  -- and the other way
  pub alike : Unlike e t codes → likeness e t codes ≡ true
  unfolding likeness passes_at mixed
  alike u = each_of (length codes) (passes_at e t codes) (λ i l.
      let m : mixed e t (code i) ≡ true = ap₂ ◌&&◌ (le-leb t (ones e (code i)) (u.light i l)) (le-leb t (e * e - ones e (code i)) (u.dark i l)) in
      let s : apart_from_itself e t (code i) ≡ true = from_itself_of e t (code i) (λ p q hp hq ne. u.far i i p q l l hp hq (λ _. ne)) in
      let b : each i (λ j. apart_in_turns e t (code i) (code j)) ≡ true = each_of i (λ j. apart_in_turns e t (code i) (code j)) (λ j k. in_turns_of e t (code i) (code j) (λ p q hp hq. u.far i j p q l (omega arith) hp hq (λ z. absurd (omega arith)))) in
      ap₂ ◌&&◌ (ap₂ ◌&&◌ m s) b)
