-- The bytes of the rows that are left, behind those that are put, are the bytes of all rows. Assumes nothing.
use Rattle.std.proofs.Common.{◌≡◌}
use Rattle.std.specs.Slice.Iter.{chunks_exact_rest, chunks_exact_size}
use Rattle.points.specs.Numbers.{quad_size}
use Rattle.listing.specs.Listing.{row_size}
use Rattle.report_writer.proofs.Pass.{Whole, Putting, bytes_of}
use Rattle.report_writer.proofs.put_report.Given as goal

abbrev pub invariant-loop-numbers : goal.invariant-loop-numbers
invariant-loop-numbers l = record {
  fours : chunks_exact_size l.numbers-iterator.a ≡ row_size;
  eights : chunks_exact_size l.numbers-iterator.b ≡ quad_size;
  whole : Whole (chunks_exact_rest l.numbers-iterator.a) (chunks_exact_rest l.numbers-iterator.b);
  putting : Putting (bytes_of l.rows l.corners) (chunks_exact_rest l.numbers-iterator.a) (chunks_exact_rest l.numbers-iterator.b) l.initial.output l.output;
}
