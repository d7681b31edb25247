-- The tables of turned places. That one is the formula's is computed over the whole of it; what this means at each place, and for the turned word, is said here
-- for all edges together. Assumes nothing.
use mathlib.Core.Path.{◌≡◌, sym, ap, ◌∙◌, subst}
use mathlib.Core.Bool.{true, false}
use mathlib.Core.List.{List}
use Prim.Native.Nat.{ℕ, ◌*◌, ◌≤◌, ◌<◌}
use native.Mathlib.Nat.{lt_of_lt_of_le}
use native.Mathlib.Decide.{dec_lt}
use native.Mathlib.Omega.{arith}
use borrow.Author.Tests.{lt-ltb, lt-leb}
use lib.Dec.{leb, ltb}
use lib.ListN.{length, get_or}
use Rattle.lists.specs.Tab.{all}
use Rattle.lists.proofs.All.{all_of}
use Rattle.std.proofs.lemmas.Bool.{and_left, and_right}
use Rattle.lists.proofs.Grid.{square_le}
use Rattle.lists.proofs.Tab.{length-tabulate, get_or-tabulate}
use Rattle.word.specs.Word.{bit, word, source, turn}
use Rattle.word.specs.Sources.{has_table, sources}
use Rattle.word.specs.Gathered.{gathered}
use Rattle.word.proofs.Bits.{word_ext}
use Rattle.word.proofs.Turn.{source-lt}

-- an edge that is none of the three has no table
pub no_table : (e : ℕ) → (e ≡ 4 → ⊥) → (e ≡ 5 → ⊥) → (e ≡ 6 → ⊥) → has_table e ≡ false
no_table e four five six = elim (dec_lt e 4) [
  | yes l ↦ and_left (leb 4 e) (leb e 6) (lt-leb 4 e l)
  | no g ↦ and_right (leb 4 e) (leb e 6) (lt-leb e 6 (omega (arith, four, five, six)))
]

module _ (e : ℕ) (table : List ℕ) (right : table ≡ sources e) where
  table_length : length table ≡ e * e
  table_length = ap length right ∙ length-tabulate (e * e) (source e)

  pub table_place : (k : ℕ) → k < e * e → get_or table k 0 ≡ source e k
  table_place k l = ap (λ (t : List ℕ). get_or t k 0) right ∙ get_or-tabulate (e * e) (source e) k 0 l

  pub table_turns : (w : ℕ) → gathered table w ≡ turn e w
  unfolding gathered turn
  table_turns w =
      ap (λ (n : ℕ). word n (λ k. bit w (get_or table k 0))) table_length
      ∙ word_ext (e * e) (λ k. bit w (get_or table k 0)) (λ k. bit w (source e k)) (λ k l. ap (bit w) (table_place k l))

  -- what `by_table` asks of a table
  pub table_fits : e ≤ 8 → (length table ≤ 64) × (all (λ place. ltb place 64) table ≡ true)
  table_fits edge =
      let small = square_le e edge in (
        subst (λ (n : ℕ). n ≤ 64) (sym table_length) small,
        all_of (λ place. ltb place 64) table 0 (λ k h.
            let l : k < e * e = subst (λ (n : ℕ). k < n) table_length h in
            lt-ltb (get_or table k 0) 64 (subst (λ (x : ℕ). x < 64) (sym (table_place k l)) (lt_of_lt_of_le (source-lt e k l) small))),
      )
