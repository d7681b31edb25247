-- Before row q, the first q rows that the report says have been put, and the bytes from `at` on say the others. Assumes nothing.
use mathlib.Core.Path.{◌≡◌}
use mathlib.Core.List.{flat_map}
use lib.ListN.{length}
use Rattle.lists.specs.Tab.{tabulate}
use Rattle.lists.specs.Front.{in_front}
use Rattle.listing.specs.Listing.{row_of, corners_of}
use Rattle.report_reader.proofs.Put.{row_at, Behind}
use Rattle.report_reader.proofs.put_rows.Given as goal

abbrev pub invariant-loop-q : goal.invariant-loop-q
invariant-loop-q l =
    Behind l.report l.count l.q l.at
    × (l.rows ≡ in_front (flat_map row_of (tabulate l.q (row_at l.report l.count))) l.initial.rows) × (l.corners ≡ in_front (flat_map corners_of (tabulate l.q (row_at l.report l.count))) l.initial.corners)
    × (length l.rows ≡ length l.initial.rows) × (length l.corners ≡ length l.initial.corners)
