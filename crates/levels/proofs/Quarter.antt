-- Levels sampled from a square that is turned once: the word is turned once. Assumes nothing.
use mathlib.Core.Path.{◌≡◌, sym, ap, ◌∙◌, subst, fun_ext}
use mathlib.Core.List.{List}
use Prim.Native.Nat.{ℕ, ◌+◌, ◌-◌, ◌*◌, ◌<◌}
use native.Mathlib.Nat.{add-mul}
use native.Mathlib.Omega.{arith}
use lib.ListN.{length}
use Rattle.lists.proofs.Grid.{next_row}
use Rattle.word.specs.Word.{bit, source, turn}
use Rattle.word.proofs.Bits.{word_ext}
use Rattle.word.proofs.Turn.{by_square, source_at, sum-turn}
use Rattle.levels.specs.Levels.{code_of}
use Rattle.levels.proofs.Reorder.{Reorders}
use Rattle.levels.proofs.Cases.{on_accepted}
use Rattle.levels.proofs.Order.{reordered, reordered_word, code_reordered}

-- row i and column j from the last place
back_at : (e i j : ℕ) → i < e → j < e → e * e - 1 - (i * e + j) ≡ (e - 1 - i) * e + (e - 1 - j)
back_at e i j hi hj =
    let rest : (i + (e - 1 - i)) * e ≡ i * e + (e - 1 - i) * e = add-mul i (e - 1 - i) e in
    let rows : i + (e - 1 - i) ≡ e - 1 = omega arith in
    let all : (e - 1 + 1) * e ≡ (e - 1) * e + e = sym (next_row e (e - 1)) in
    let whole : e - 1 + 1 ≡ e = omega arith in
    omega (arith, ap (λ (x : ℕ). x * e) rows, ap (λ (x : ℕ). x * e) whole)

-- counted from the last place, a turn is the same turn
source_back : (e k : ℕ) → k < e * e → e * e - 1 - source e (e * e - 1 - k) ≡ source e k
source_back e = by_square e (λ (k : ℕ). e * e - 1 - source e (e * e - 1 - k) ≡ source e k) (λ i j hi hj.
    let i' : e - 1 - i < e = omega arith in
    let j' : e - 1 - j < e = omega arith in
    let i'' : e - 1 - (e - 1 - i) ≡ i = omega arith in
    let j'' : e - 1 - (e - 1 - j) ≡ j = omega arith in
    ap (λ (x : ℕ). e * e - 1 - source e x) (back_at e i j hi hj)
    ∙ ap (λ (x : ℕ). e * e - 1 - x) (source_at e (e - 1 - i) (e - 1 - j) j' ∙ ap (λ (x : ℕ). (e - 1 - j) * e + x) i'')
    ∙ back_at e (e - 1 - j) i j' hi
    ∙ ap (λ (x : ℕ). x * e + (e - 1 - i)) j''
    ∙ sym (source_at e i j hj))

pub reordered-turn : (e w : ℕ) → reordered_word (e * e) (source e) w ≡ turn e w
unfolding turn
reordered-turn e w = word_ext (e * e) _ (λ k. bit w (source e k)) (λ k h. ap (bit w) (source_back e k h))

-- the samples of a square, turned once: the same refusal, or the word turned once
pub turned_code : (e : ℕ) (l : List ℕ) (band allowed : ℕ) → length l ≡ e * e → code_of (reordered (source e) l) band allowed ≡ on_accepted (turn e) (code_of l band allowed)
turned_code e l band allowed n =
    code_reordered l (source e) (subst (λ (x : ℕ). Reorders x (source e)) (sym n) (sum-turn e)) band allowed
    ∙ ap (λ (f : ℕ → ℕ). on_accepted f (code_of l band allowed)) (fun_ext (λ w. ap (λ (x : ℕ). reordered_word x (source e) w) n ∙ reordered-turn e w))
