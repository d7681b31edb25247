-- Each code's own test, for each of the numbers of the codes. Assumes nothing.
use mathlib.Core.Path.{refl, ◌∙◌}
use native.Mathlib.Nat.{sub-zero}
use borrow.Author.Rules.{rules}
use lib.ListN.{length}
use Rattle.std.proofs.lemmas.Iterator.{YieldsList-from_range}
use Rattle.std.proofs.lemmas.Iterator.Search.{all_from_yields_List}
use Rattle.likeness.specs.Likeness.{passes_at, likeness}
use Rattle.likeness.proofs.Tested.{all_in_range}
use Rattle.likeness.proofs.passes.Goals as goal

pub returns : goal.returns
unfolding likeness
returns c =
    let a = c.args in
    let n = length a.codes.now in
    let test = passes_at a.edge a.threshold a.codes.now in
    all_from_yields_List test c.all.new.self _ _ c.all.ensures.ran (YieldsList-from_range 0 n n refl (sub-zero n)) (λ x b q k. search rules)
    ∙ all_in_range test n
