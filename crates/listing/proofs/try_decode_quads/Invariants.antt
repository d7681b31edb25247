-- First pass: before quad q the rows and corner numbers of the quads before it stand in front of the outputs, and their ids are counted. Second
-- pass: before row p the rows before it were looked at again.
use Rattle.std.proofs.Common.{◌≡◌}
use mathlib.Core.List.{flat_map}
use Rattle.lists.specs.Tab.{tabulate}
use Rattle.lists.specs.Front.{in_front}
use Rattle.listing.specs.Listing.{row_of, corners_of}
use Rattle.listing.proofs.Counts.{Counts}
use Rattle.listing.proofs.Again.{Again}
use Rattle.listing.proofs.Listing.{read}
use Rattle.listing.proofs.try_decode_quads.Given as goal

abbrev pub invariant-loop-q : goal.invariant-loop-q
invariant-loop-q l =
    let reads = read l.picture.bytes.now l.picture.frame l.table.family l.table.codes.now l.quads in
    record {
      rows_are : l.rows ≡ in_front (flat_map row_of (tabulate l.q reads)) l.initial.rows;
      corners_are : l.corners ≡ in_front (flat_map corners_of (tabulate l.q reads)) l.initial.corners;
      counts : Counts reads l.q l.counts.times;
    }

abbrev pub invariant-loop-p : goal.invariant-loop-p
invariant-loop-p l = Again l.counts.times l.initial.rows l.initial.corners l.p l.rows l.corners
