-- The least so far, joined with the levels that are left, gives the least of all; so does the greatest.
use Rattle.std.proofs.Common.{◌≡◌, min, max, drop}
use mathlib.Core.List.{foldl}
use Rattle.levels.specs.Levels.{least_of, greatest_of}
use Rattle.levels.proofs.range_of.Given as goal

abbrev pub invariant-loop-level : goal.invariant-loop-level
invariant-loop-level l = record {
  least : foldl min l.least (drop l.level-index l.levels) ≡ least_of l.levels;
  greatest : foldl max l.greatest (drop l.level-index l.levels) ≡ greatest_of l.levels;
}
