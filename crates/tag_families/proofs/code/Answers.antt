-- The bound of the code. Assumes nothing.
use mathlib.Core.Path.{ap}
use mathlib.Core.List.{List}
use Prim.Native.Nat.{ℕ}
use lib.ListN.{get_or}
use Rattle.tag_families.proofs.Families.{code_below}
use Rattle.tag_families.proofs.code.Goals as goal

pub returns : goal.returns
returns c =
    let e = ap (λ (l : List ℕ). get_or l c.args.position 0) c.codes_of.ensures in
    (e, rw e (code_below c.args.number c.requires.0 c.args.position c.requires.1))
