-- The first sample below the threshold behind the blocks that are passed over.
use Rattle.std.proofs.Common.{◌≡◌, ◌≤◌, ◌<◌, ℕ, Bool, true, false, IfNone, IfSome, rules, tests}
use Rattle.std.proofs.lemmas.Iterator.{first_from_Range}
use Rattle.clusters.specs.Connected.{below}
use Rattle.clusters.specs.Walk.{NoneBelow}
use Rattle.clusters.proofs.Search.{found_behind}
use Rattle.clusters.proofs.first_below.Goals.{After-find}
use Rattle.clusters.proofs.first_below.Goals as goal

module _ (c : After-find) where
  abbrev low : ℕ → Bool
  low = below c.args.threshold c.args.mat.now

  found : IfNone c.find.result (NoneBelow c.args.threshold c.args.mat.now c.args.from c.args.end)
      × IfSome c.find.result (λ i. (c.args.from ≤ i) × (i < c.args.end) × (low i ≡ true) × NoneBelow c.args.threshold c.args.mat.now c.args.from i)
  found =
      found_behind c.args.threshold c.args.mat.now c.args.from c.skip_blocks-start.result c.args.end c.skip_blocks-start.ensures.0 c.skip_blocks-start.ensures.1 c.find.result
      (first_from_Range (record { start = c.skip_blocks-start.result; end = c.args.end }) _ _ c.find.result (λ i. low i ≡ true) (λ i. low i ≡ false) c.find.ensures.ran
      (λ x q k. search (rules, tests))
      (λ x q k. search (rules, tests)))

pub returns-clause-nothing : goal.returns-clause-nothing
returns-clause-nothing c = (found c).0

pub returns-clause-first : goal.returns-clause-first
returns-clause-first c = (found c).1
