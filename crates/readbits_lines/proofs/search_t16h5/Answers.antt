-- The family's numbers and its codes are those of the definition. Assumes nothing.
use mathlib.Core.Path.{ap, ap₂, ◌∙◌}
use mathlib.Core.List.{List}
use Prim.Native.Nat.{ℕ}
use native.Mathlib.Omega.{arith}
use Rattle.tables.specs.declared.Family.{Family}
use Rattle.readbits_lines.specs.Readbits.{searched}
use Rattle.search.specs.Search.{search as sought}
use Rattle.readbits_lines.proofs.search_t16h5.Goals as goal

pub best_tag-requires : goal.best_tag-requires
best_tag-requires c =
    let e = c.family-family.ensures in
    let edge = ap (λ (f : Family). f.edge) e in
    let threshold = ap (λ (f : Family). f.hamming_distance) e in
    omega arith

pub returns : goal.returns
unfolding searched
returns c =
    c.best_tag.ensures.answer
    ∙ ap₂ (λ (t : Family) (l : List ℕ). sought c.args.bits t.hamming_distance l t.edge) c.family-family.ensures c.codes_of-codes.ensures
