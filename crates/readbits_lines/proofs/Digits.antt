-- What the digits of a line say of its word. Assumes nothing.
use mathlib.Core.Path.{◌≡◌, refl, sym, ◌∙◌}
use mathlib.Core.Bool.{Bool, true, false, cond, true≢false}
use mathlib.Core.List.{List, [], ◌∷◌}
use Prim.Native.Nat.{ℕ, ◌+◌, ◌*◌, ◌<◌}
use native.Mathlib.Omega.{arith}
use Rattle.std.proofs.Common.{Option, Some, None}
use Rattle.std.proofs.lemmas.Bool.{false_from_ne_true}
use Rattle.std.proofs.lemmas.Option.{cond_some}
use borrow.Author.Tests.{ne_eqb}
use lib.Dec.{eqb}
use lib.ListN.{length, get_or}
use Rattle.lists.specs.Tab.{all}
use Rattle.lists.proofs.All.{all_at}
use Rattle.std.specs.Cmp.{second_so}
use Rattle.readbits_lines.specs.Word.{is_digit, digit_number, is_word, number_from, number_of}

-- what an answer of a test and a number says, where it is no number (`cond_some` says it where it is one)
pub was_bad : (t : Bool) (n : ℕ) {r : Option ℕ} → r ≡ cond t (Some n) None → ((m : ℕ) → r ≡ Some m → ⊥) → t ≡ false
was_bad true n e none = absurd (none n e)
was_bad false n e none = refl

module _ (b : ℕ) {r : Option ℕ} (answer : r ≡ cond (is_digit b) (Some (digit_number b)) None) where
  pub was_digit : (d : ℕ) → r ≡ Some d → (is_digit b ≡ true) × (digit_number b ≡ d)
  was_digit d e = cond_some (is_digit b) (digit_number b) d (sym answer ∙ e)

  pub was_none : r ≡ None → is_digit b ≡ false
  was_none e = was_bad (is_digit b) (digit_number b) answer (λ d s. let z : ◌≡◌ {A = ℕ} 0 1 = cc in absurd (omega arith))

module _ (line : List ℕ) where
  -- a line of another length is no word, and one in which a byte is no digit
  pub other_length : (length line ≡ 4 → ⊥) → is_word line ≡ false
  unfolding is_word
  other_length h = simp (ne_eqb (length line) 4 h)

  pub no_digit : (i : ℕ) → i < length line → is_digit (get_or line i 0) ≡ false → is_word line ≡ false
  unfolding is_word
  no_digit i h n =
      false_from_ne_true (is_word line) (λ e. true≢false (sym (all_at is_digit line i 0 (second_so (eqb (length line) 4) (all is_digit line) e) h) ∙ n))

-- the word of four digits
pub word_of : (line : List ℕ) → length line ≡ 4 → (a b c d : ℕ)
    → (is_digit (get_or line 0 0) ≡ true) × (digit_number (get_or line 0 0) ≡ a) → (is_digit (get_or line 1 0) ≡ true) × (digit_number (get_or line 1 0) ≡ b)
    → (is_digit (get_or line 2 0) ≡ true) × (digit_number (get_or line 2 0) ≡ c) → (is_digit (get_or line 3 0) ≡ true) × (digit_number (get_or line 3 0) ≡ d)
    → (is_word line ≡ true) × (a * 4096 + b * 256 + c * 16 + d ≡ number_of line)
unfolding is_word all number_from
word_of [] h a b c d p q r s = absurd (omega (arith, h))
word_of (x ∷ []) h a b c d p q r s = absurd (omega (arith, h))
word_of (x ∷ y ∷ []) h a b c d p q r s = absurd (omega (arith, h))
word_of (x ∷ y ∷ z ∷ []) h a b c d p q r s = absurd (omega (arith, h))
word_of (x ∷ y ∷ z ∷ w ∷ []) h a b c d p q r s = (simp (p.0, q.0, r.0, s.0), omega (arith, p.1, q.1, r.1, s.1))
word_of (x ∷ y ∷ z ∷ w ∷ v ∷ more) h a b c d p q r s = absurd (omega (arith, h))
