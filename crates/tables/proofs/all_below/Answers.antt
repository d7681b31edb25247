-- The test of what was gathered, with that of the codes that are left, is the test of all codes. Assumes nothing.
use mathlib.Core.Path.{sym, ap, ◌∙◌}
use mathlib.Core.Bool.{Bool, ◌&&◌}
use Prim.Native.Nat.{ℕ, ◌^◌}
use native.Mathlib.Nat.{one-mul}
use native.Mathlib.Omega.{arith}
use borrow.Author.Tests.{lt-ltb}
use lib.Bits.{bit_or}
use lib.Dec.{ltb}
use lib.ListN.{get_or}
use lib.Pow.{shl_exact, pow_pos}
use Rattle.lists.specs.Tab.{all}
use Rattle.lists.proofs.All.{gather_more, gather_done, or_below}
use Rattle.tables.specs.Table.{below}
use Rattle.tables.proofs.all_below.Goals as goal

pub loop-code-init : goal.loop-code-init
loop-code-init c =
    let a = c.args in sym (ap (λ (t : Bool). t && all (below (2 ^ a.places)) a.codes.now) (lt-ltb 0 (2 ^ a.places) (pow_pos a.places)))

pub loop-code-preserved : goal.loop-code-preserved
loop-code-preserved c =
    let k = c.args.places in
    let codes = c.args.codes.now in
    let l = c.loop-code in
    let code = get_or codes l.code-index 0 in
    gather_more (below (2 ^ k)) codes l.code-index 0 c.loop-code-test.true (below (2 ^ k) l.gathered) (below (2 ^ k) (bit_or l.gathered code)) (or_below k l.gathered code) l.invariant

pub returns : goal.returns
returns c =
    let l = c.loop-code in
    let k = c.args.places in
    ap (λ (n : ℕ). ltb l.gathered n) (shl_exact 1 k 64 (omega arith) (omega (arith, c.requires)) ∙ one-mul (2 ^ k))
    ∙ gather_done (below (2 ^ k)) c.args.codes.now l.code-index c.loop-code-test.false (below (2 ^ k) l.gathered) l.invariant
