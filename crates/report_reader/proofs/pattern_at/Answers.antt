-- Four bytes, by `four`. Assumes nothing.
use Rattle.std.proofs.Common.{sym, ◌∙◌, arith}
use Rattle.report_reader.proofs.Numbers.{four, le_four}
use Rattle.report_reader.proofs.pattern_at.Goals as goal

pub returns : goal.returns
returns c = let a = c.args in c.from_le_bytes.ensures ∙ le_four _ _ _ _ ∙ sym (four a.bytes.now a.at (omega arith))
