-- Levels in another order: the outcome is the same but for the places of the word's bits. Assumes nothing.
use mathlib.Core.Path.{◌≡◌, refl, sym, ap, ap₂, ◌∙◌}
use mathlib.Core.List.{List}
use Prim.Native.Nat.{ℕ, zero, suc, ◌+◌, ◌-◌, ◌/◌, ◌<◌}
use native.Mathlib.Nat.{le_antisymm}
use native.Mathlib.Omega.{arith}
use lib.Dec.{ltb}
use lib.ListN.{length, get_or}
use Rattle.lists.specs.Sum.{sum}
use Rattle.lists.specs.Tab.{tabulate}
use Rattle.lists.proofs.Sum.{sum_ext}
use Rattle.lists.proofs.Tab.{length-tabulate, get_or-tabulate}
use Rattle.word.specs.Word.{bit, word}
use Rattle.levels.specs.Levels.{over_all, least_of, greatest_of, middle_of, above, word_of, unsure, unsure_of, code_of}
use Rattle.levels.proofs.Reorder.{Reorders, reorders_lt, reorders_onto}
use Rattle.levels.proofs.Extremes.{Taken, over_none, least, greatest, part}
use Rattle.levels.proofs.Cases.{outcome, on_accepted, outcome_accepted}
use Rattle.levels.proofs.Places.{bit_level, word_by_levels}

-- the levels, level σ k at index k
abbrev pub reordered : (ℕ → ℕ) → List ℕ → List ℕ
reordered σ levels = tabulate (length levels) (λ k. get_or levels (σ k) 0)

-- a word of n places for levels so reordered
abbrev pub reordered_word : ℕ → (ℕ → ℕ) → ℕ → ℕ
reordered_word n σ w = word n (λ place. bit w (n - 1 - σ (n - 1 - place)))

-- ---- the levels

module _ (l : List ℕ) (σ : ℕ → ℕ) (keeps : Reorders (length l) σ) where
  at : (k : ℕ) → k < length l → get_or (reordered σ l) k 0 ≡ get_or l (σ k) 0
  at k h = get_or-tabulate (length l) (λ j. get_or l (σ j) 0) k 0 h

  long : length (reordered σ l) ≡ length l
  long = length-tabulate (length l) (λ j. get_or l (σ j) 0)

  Taken-reordered : {f : ℕ → ℕ → ℕ} {R : ℕ → ℕ → Type 0} → Taken f R → ((a b : ℕ) → R a b → R b a → a ≡ b) → over_all f (reordered σ l) ≡ over_all f l
  Taken-reordered {f} {R} t both = go (length l) refl
    where
      go : (m : ℕ) → length l ≡ m → over_all f (reordered σ l) ≡ over_all f l
      go zero e = over_none f (reordered σ l) (long ∙ e) ∙ sym (over_none f l e)
      go (suc m) e =
          both (over_all f (reordered σ l)) (over_all f l)
          (part t (reordered σ l) l (omega arith) (λ k h.
          let s = reorders_onto (length l) σ keeps k h in
          record { k = s.k; within = omega (arith, long, s.below); is = at s.k s.below ∙ ap (λ (x : ℕ). get_or l x 0) s.to }))
          (part t l (reordered σ l) (omega (arith, long)) (λ k h.
          let k< : k < length l = omega (arith, long) in
          record { k = σ k; within = reorders_lt (length l) σ keeps k k<; is = sym (at k k<) }))

  pub least_reordered : least_of (reordered σ l) ≡ least_of l
  least_reordered = Taken-reordered least (λ a b p q. le_antisymm p q)

  pub greatest_reordered : greatest_of (reordered σ l) ≡ greatest_of l
  greatest_reordered = Taken-reordered greatest (λ a b p q. le_antisymm q p)

  pub unsure-reordered : (middle band : ℕ) → unsure_of middle band (reordered σ l) ≡ unsure_of middle band l
  unfolding unsure_of
  unsure-reordered middle band =
      ap (λ (x : ℕ). sum x (λ k. unsure middle band (get_or (reordered σ l) k 0))) long
      ∙ sum_ext (length l) (λ k. unsure middle band (get_or (reordered σ l) k 0)) (λ k. unsure middle band (get_or l (σ k) 0))
      (λ k h. ap (unsure middle band) (at k h))
      ∙ keeps (λ k. unsure middle band (get_or l k 0))

  pub word-reordered : (middle : ℕ) → word_of middle (reordered σ l) ≡ reordered_word (length l) σ (word_of middle l)
  word-reordered middle =
      word_by_levels middle (reordered σ l) (λ place. bit (word_of middle l) (length l - 1 - σ (length l - 1 - place))) (λ k h.
      let k< : k < length l = omega (arith, long) in
      let back : k ≡ length l - 1 - (length (reordered σ l) - 1 - k) = omega (arith, long) in
      ap (above middle) (at k k<) ∙ sym (bit_level middle l (σ k) (reorders_lt (length l) σ keeps k k<))
      ∙ ap (λ (x : ℕ). bit (word_of middle l) (length l - 1 - σ x)) back)
      ∙ ap (λ (x : ℕ). word x (λ place. bit (word_of middle l) (length l - 1 - σ (length l - 1 - place)))) long

  -- the same refusal, or both are accepted
  pub code_reordered : (band allowed : ℕ) → code_of (reordered σ l) band allowed ≡ on_accepted (reordered_word (length l) σ) (code_of l band allowed)
  unfolding code_of
  code_reordered band allowed =
      let other = reordered σ l in
      let middle : middle_of other ≡ middle_of l = ap₂ (λ (x y : ℕ). (x + y + 1) / 2) least_reordered greatest_reordered in
      let unsures = ap (λ (x : ℕ). unsure_of x band other) middle ∙ unsure-reordered (middle_of l) band in
      let words = ap (λ (x : ℕ). word_of x other) middle ∙ word-reordered (middle_of l) in
      ap₂ (λ (x y : ℕ). outcome (ltb (y - x) 50) (ltb allowed (unsure_of (middle_of other) band other)) (word_of (middle_of other) other)) least_reordered greatest_reordered
      ∙ ap₂ (λ (x y : ℕ). outcome (ltb (greatest_of l - least_of l) 50) (ltb allowed x) y) unsures words
      ∙ outcome_accepted (reordered_word (length l) σ) (ltb (greatest_of l - least_of l) 50) (ltb allowed (unsure_of (middle_of l) band l)) (word_of (middle_of l) l)
