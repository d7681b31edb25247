-- A map, two bytes of id, 32 of corners, and the fields that are not 0; or a map and a refusal. Assumes nothing.
use mathlib.Core.Path.{ap}
use native.Mathlib.Omega.{arith}
use Rattle.reader.specs.Answer.{paper_reading}
use Rattle.reader.specs.declared.Reading.{Reading}
use Rattle.report.proofs.Good.{row_length, length_row}
use Rattle.report.proofs.row_size.Goals as goal

pub returns-in-Tag : goal.returns-in-Tag
returns-in-Tag c =
    let row = c.args.row in
    let size = ap (λ (x : Reading). row_length (paper_reading x)) c.in-Tag.is in
    omega (arith, size, length_row (paper_reading row), c.one_unless_zero.ensures, c.one_unless_zero-in-Tag.ensures)

pub returns-in-Refused : goal.returns-in-Refused
returns-in-Refused c =
    let row = c.args.row in
    let size = ap (λ (x : Reading). row_length (paper_reading x)) c.in-Refused.is in
    omega (arith, size, length_row (paper_reading row))
