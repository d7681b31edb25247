-- The test of what was gathered, with that of the codes that are left, is the test of all codes. Assumes nothing.
use mathlib.Core.Path.{◌≡◌}
use mathlib.Core.Bool.{◌&&◌}
use Prim.Native.Nat.{◌^◌}
use lib.ListN.{drop}
use Rattle.lists.specs.Tab.{all}
use Rattle.tables.specs.Table.{below}
use Rattle.tables.proofs.all_below.Given as goal

abbrev pub invariant-loop-code : goal.invariant-loop-code
invariant-loop-code l =
    all (below (2 ^ l.places)) l.codes ≡ below (2 ^ l.places) l.gathered && all (below (2 ^ l.places)) (drop l.code-index l.codes)
