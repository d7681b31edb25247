-- Levels that keep clear of the middle are read as what they are. Assumes nothing.
use mathlib.Core.Path.{◌≡◌, sym, ap, ◌∙◌}
use mathlib.Core.Logic.{◌⊎◌, inl, inr}
use mathlib.Core.List.{List}
use Prim.Native.Nat.{ℕ, ◌+◌, ◌-◌, ◌≤◌, ◌<◌}
use native.Mathlib.Omega.{arith}
use borrow.Author.Tests.{lt-ltb, le-ltb}
use lib.ListN.{length, get_or}
use Rattle.lists.specs.Sum.{one_if}
use Rattle.lists.proofs.Sum.{sum_ext, sum_none}
use Rattle.refusals.specs.Outcome.{accepted}
use Rattle.word.specs.Word.{word}
use Rattle.levels.specs.Levels.{least_of, greatest_of, middle_of, above, distance, unsure, unsure_of, code_of}
use Rattle.levels.proofs.Cases.{code_word}
use Rattle.levels.proofs.Places.{word_by_levels}

-- a level of the bit b keeps at least gap from the middle: 1 above it, 0 below it
abbrev pub Clear : ℕ → ℕ → ℕ → ℕ → Type 0
Clear middle gap b level = ((b ≡ 1) × (middle + gap ≤ level)) ⊎ ((b ≡ 0) × (level + gap ≤ middle))

module _ (middle gap b level : ℕ) where
  Clear-bit : 0 < gap → Clear middle gap b level → above middle level ≡ b
  Clear-bit h (inl c) = ap one_if (lt-ltb middle level (omega arith)) ∙ sym c.0
  Clear-bit h (inr c) = ap one_if (le-ltb middle level (omega arith)) ∙ sym c.0

  Clear-sure : (band : ℕ) → band ≤ gap → Clear middle gap b level → unsure middle band level ≡ 0
  Clear-sure band h (inl c) = ap one_if (le-ltb (distance level middle) band (omega arith))
  Clear-sure band h (inr c) = ap one_if (le-ltb (distance level middle) band (omega arith))

-- the bits are f's at each place: the word of the bits is read
pub Clear-code : (l : List ℕ) (band allowed gap : ℕ) (f : ℕ → ℕ) → 0 < gap → band ≤ gap → 50 ≤ greatest_of l - least_of l
    → ((k : ℕ) → k < length l → Clear (middle_of l) gap (f (length l - 1 - k)) (get_or l k 0))
    → code_of l band allowed ≡ accepted (word (length l) f)
unfolding unsure_of
Clear-code l band allowed gap f pos wide contrast clear =
    let m = middle_of l in
    let sure : unsure_of m band l ≡ 0 =
    sum_ext (length l) (λ k. unsure m band (get_or l k 0)) (λ k. 0) (λ k h. Clear-sure m gap (f (length l - 1 - k)) (get_or l k 0) band wide (clear k h)) ∙ sum_none (length l) in
    code_word l band allowed contrast (omega arith)
    ∙ ap (λ (x : ℕ). accepted x) (word_by_levels m l f (λ k h. Clear-bit m gap (f (length l - 1 - k)) (get_or l k 0) pos (clear k h)))
