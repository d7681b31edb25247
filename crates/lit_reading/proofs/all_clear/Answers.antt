-- The test of the pairs, by `all_zipped`. Assumes nothing.
use mathlib.Core.Path.{◌∙◌}
use mathlib.Core.Bool.{Bool}
use Prim.Native.Nat.{ℕ}
use borrow.Author.Rules.{rules}
use borrow.Author.Tests.{tests}
use lib.Dec.{eqb}
use Rattle.std.proofs.lemmas.Iterator.{YieldsList-from_slice, YieldsList-from_zip}
use Rattle.std.proofs.lemmas.Iterator.Search.{all_from_yields_List}
use Rattle.paper.specs.Light.{clears}
use Rattle.lit_reading.proofs.Zipped.{all_zipped}
use Rattle.lit_reading.proofs.all_clear.Goals as goal

pub returns : goal.returns
returns c =
    let a = c.args in
    let test : ℕ × ℕ → Bool = λ p. clears a.middle (eqb p.0 a.light) p.1 in
    all_from_yields_List {s = c.zip.result} test c.all.new.self _ _ c.all.ensures.ran (YieldsList-from_zip (YieldsList-from_slice a.painted.now cc) (YieldsList-from_slice a.levels.now cc)) (λ x b q k. search (rules, tests))
    ∙ all_zipped test a.painted.now a.levels.now c.requires
