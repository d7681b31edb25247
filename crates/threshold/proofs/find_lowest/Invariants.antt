-- The loop keeps: what it has found of the blocks so far and the test of the samples behind them are the test of all, and the lanes have
-- taken the blocks in.
use Rattle.std.proofs.Common.{◌≡◌, ◌*◌, true, ◌&&◌, drop}
use Rattle.lists.specs.Tab.{all}
use Rattle.samples.specs.Samples.{tame}
use Rattle.threshold.proofs.Lanes.{Lanes}
use Rattle.threshold.proofs.find_lowest.Given as goal

abbrev pub invariant-loop-block : goal.invariant-loop-block
invariant-loop-block l = record {
  tested : all tame l.samples ≡ l.tame && all tame (drop (l.block-index * 16) l.samples);
  lowered : all tame l.samples ≡ true → Lanes l.samples 16 (l.block-index * 16) l.lanes;
}
