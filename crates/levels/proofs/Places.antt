-- What stands at each place of the word of the levels. Assumes nothing.
use mathlib.Core.Path.{◌≡◌, sym, ap, ◌∙◌, subst}
use mathlib.Core.List.{List}
use Prim.Native.Nat.{ℕ, ◌-◌, ◌^◌, ◌<◌}
use native.Mathlib.Omega.{arith}
use lib.ListN.{length, get_or}
use Rattle.refusals.specs.Outcome.{accepted}
use Rattle.word.specs.Word.{bit, word}
use Rattle.levels.specs.Levels.{middle_of, above, word_of, code_of}
use Rattle.word.proofs.Bits.{word-lt, bit-word, word_ext}
use Rattle.levels.proofs.Cases.{code_accepted}
use Rattle.levels.proofs.Loops.{above-lt}

module _ (middle : ℕ) (levels : List ℕ) where
  pub word_of-lt : word_of middle levels < 2 ^ length levels
  unfolding word_of
  word_of-lt = word-lt (length levels) _ (λ place. above-lt middle (get_or levels (length levels - 1 - place) 0))

  -- at place n - 1 - k of n stands 1 where level k is above the middle, else 0
  pub bit_level : (k : ℕ) → k < length levels → bit (word_of middle levels) (length levels - 1 - k) ≡ above middle (get_or levels k 0)
  unfolding word_of
  bit_level k h =
      let there : length levels - 1 - k < length levels = omega arith in
      let back : length levels - 1 - (length levels - 1 - k) ≡ k = omega arith in
      bit-word (length levels) _ (λ place. above-lt middle (get_or levels (length levels - 1 - place) 0)) (length levels - 1 - k) there
      ∙ ap (λ (x : ℕ). above middle (get_or levels x 0)) back

  -- the word that has the right bit for each level is this one
  pub word_by_levels : (f : ℕ → ℕ) → ((k : ℕ) → k < length levels → above middle (get_or levels k 0) ≡ f (length levels - 1 - k))
      → word_of middle levels ≡ word (length levels) f
  unfolding word_of
  word_by_levels f h = word_ext (length levels) _ f (λ place l.
      let there : length levels - 1 - place < length levels = omega arith in
      let back : length levels - 1 - (length levels - 1 - place) ≡ place = omega arith in
      h (length levels - 1 - place) there ∙ ap f back)

-- an accepted word has as many places as there are levels
pub code_lt : (levels : List ℕ) (band allowed w : ℕ) → code_of levels band allowed ≡ accepted w → w < 2 ^ length levels
code_lt levels band allowed w e = subst (λ (x : ℕ). x < 2 ^ length levels) (sym (code_accepted levels band allowed w e)) (word_of-lt (middle_of levels) levels)
