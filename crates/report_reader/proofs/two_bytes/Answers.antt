-- Two bytes, by `two`. Assumes nothing.
use Rattle.std.proofs.Common.{sym, ◌∙◌, arith}
use Rattle.report_reader.proofs.Numbers.{two, le_two}
use Rattle.report_reader.proofs.two_bytes.Goals as goal

pub returns : goal.returns
returns c = let a = c.args in c.from_le_bytes.ensures ∙ le_two _ _ ∙ sym (two a.bytes.now a.at (omega arith))
