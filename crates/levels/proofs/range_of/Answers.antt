-- At first the first level is joined with all. The least of them is at most the greatest.
use Rattle.std.proofs.Common.{◌≡◌, min, max, arith}
use Rattle.std.proofs.lemmas.Grind.{common_steps}
use Rattle.levels.specs.Levels.{least_of, greatest_of}
use Rattle.levels.proofs.Extremes.{least_le_greatest}
use Rattle.levels.proofs.Loops.{over_first}
use Rattle.levels.proofs.range_of.Goals as goal

pub loop-level-init : goal.loop-level-init
loop-level-init c =
    let levels = c.args.levels.now in
    record { least = over_first min levels (λ v. omega arith) (omega arith); greatest = over_first max levels (λ v. omega arith) (omega arith) }

pub returns-clause-ordered : goal.returns-clause-ordered
returns-clause-ordered c =
    let least : c.loop-level.least ≡ least_of c.args.levels.now = grind (arith, common_steps) in
    let greatest : c.loop-level.greatest ≡ greatest_of c.args.levels.now = grind (arith, common_steps) in
    omega (arith, least, greatest, least_le_greatest c.args.levels.now (omega arith))
