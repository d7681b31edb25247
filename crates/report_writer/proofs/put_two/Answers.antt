-- std's two bytes are the definition's.
use Rattle.std.proofs.Common.{◌∙◌}
use Rattle.text.proofs.Join.{as_text}
use Rattle.report_writer.proofs.Pieces.{le_two}
use Rattle.report_writer.proofs.put_two.Goals as goal

pub returns : goal.returns
returns c = as_text (c.to_le_bytes.ensures ∙ le_two c.args.n) c.put.ensures
