-- Looking at the rows that are left finds what looking at all of them finds. Assumes nothing.
use Rattle.std.proofs.Common.{◌≡◌}
use Rattle.std.specs.Slice.Iter.{chunks_exact_rest, chunks_exact_size}
use Rattle.points.specs.Numbers.{quad_size}
use Rattle.listing.specs.Listing.{row_size}
use Rattle.report_writer.proofs.Pass.{Looking}
use Rattle.report_writer.proofs.report_size.Given as goal

abbrev pub invariant-loop-numbers : goal.invariant-loop-numbers
invariant-loop-numbers l = record {
  fours : chunks_exact_size l.numbers-iterator.a ≡ row_size;
  eights : chunks_exact_size l.numbers-iterator.b ≡ quad_size;
  looking : Looking l.rows l.corners (chunks_exact_rest l.numbers-iterator.a) (chunks_exact_rest l.numbers-iterator.b) l.met.ids l.size;
}
