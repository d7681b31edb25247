-- At edge 8 a u64 is below 2^64. Assumes nothing.
use mathlib.Core.Path.{◌≡◌, sym, ap, ◌∙◌}
use Prim.Native.Nat.{ℕ, ◌^◌}
use native.Mathlib.Omega.{arith}
use borrow.Author.Tests.{lt-ltb, eq-eqb}
use lib.ListN.{get_or}
use Rattle.lists.proofs.All.{all_of}
use Rattle.tables.specs.Table.{in_square}
use Rattle.tables.proofs.codes_fit.Goals as goal

pub returns-then-edge-eq8 : goal.returns-then-edge-eq8
returns-then-edge-eq8 c =
    let a = c.args in
    let e : a.edge ≡ 8 = omega (arith, c.from-edge.ensures, c.if-edge-eq8.true) in
    eq-eqb c.from-edge.result 8 c.if-edge-eq8.true
    ∙ sym (all_of (in_square a.edge) a.codes.now 0 (λ k h. ap (λ (n : ℕ). in_square n (get_or a.codes.now k 0)) e ∙ lt-ltb (get_or a.codes.now k 0) (2 ^ 64) (omega (arith, c.type_inv.codes k))))
