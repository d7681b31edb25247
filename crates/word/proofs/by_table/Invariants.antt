-- Before place k, `b` is the word of the k places below it. Assumes nothing.
use mathlib.Core.Path.{◌≡◌}
use mathlib.Core.List.{List}
use Prim.Native.Nat.{ℕ}
use lib.ListN.{get_or}
use Rattle.word.specs.Word.{bit, word}
use Rattle.word.proofs.by_table.Given as goal

-- the bit at each place of the word
abbrev pub taken : List ℕ → ℕ → ℕ → ℕ
taken table bits k = bit bits (get_or table k 0)

abbrev pub invariant-loop-k : goal.invariant-loop-k
invariant-loop-k l = l.b ≡ word l.k (taken l.table l.bits)
