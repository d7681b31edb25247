-- Before place k, `b` is the word of the k places below it. Assumes nothing.
use mathlib.Core.Path.{◌≡◌, refl, sym, ap, ◌∙◌, subst}
use Prim.Native.Nat.{ℕ, ◌^◌, ◌<◌}
use native.Mathlib.Omega.{arith}
use borrow.Author.Tests.{ltb-true}
use lib.Dec.{ltb}
use lib.ListN.{length, get_or}
use Rattle.lists.proofs.All.{all_at}
use Rattle.word.specs.Word.{word}
use Rattle.word.specs.Gathered.{gathered}
use Rattle.std.proofs.lemmas.Nat.Bits.{bit_at-lt}
use Rattle.word.proofs.Bits.{word-lt, word_more}
use Rattle.word.proofs.by_table.Invariants.{taken}
use Rattle.word.proofs.by_table.Goals as goal

pub loop-k-init : goal.loop-k-init
unfolding word
loop-k-init c = refl

pub bit_at-requires : goal.bit_at-requires
bit_at-requires c =
    let table = c.args.table.now in
    ltb-true (get_or table c.loop-k.k 0) 64 (all_at (λ place. ltb place 64) table c.loop-k.k 0 c.requires.1 (omega arith))

pub with_bit-b-requires : goal.with_bit-b-requires
with_bit-b-requires c =
    let a = c.args in (
      omega arith,
      subst (λ (x : ℕ). x < 2 ^ c.loop-k.k) (sym c.loop-k.invariant) (word-lt c.loop-k.k (taken a.table.now a.bits) (λ k. bit_at-lt a.bits (get_or a.table.now k 0))),
      subst (λ (x : ℕ). x < 2) (sym c.bit_at.ensures) (bit_at-lt a.bits (get_or a.table.now c.loop-k.k 0)),
    )

pub loop-k-preserved : goal.loop-k-preserved
loop-k-preserved c =
    let a = c.args in
    word_more (taken a.table.now a.bits) c.loop-k.k c.bit_at.result c.loop-k.b c.with_bit-b.result c.bit_at.ensures c.loop-k.invariant c.with_bit-b.ensures

pub returns : goal.returns
unfolding gathered
returns c =
    let k : c.loop-k.k ≡ length c.args.table.now = omega arith in
    c.loop-k.invariant ∙ ap (λ (n : ℕ). word n (taken c.args.table.now c.args.bits)) k
