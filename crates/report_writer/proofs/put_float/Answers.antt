-- std's four bytes of the bits are the definition's.
use Rattle.std.proofs.Common.{◌∙◌}
use Rattle.places.proofs.Pattern.{not_nan}
use Rattle.text.proofs.Join.{as_text}
use Rattle.report_writer.proofs.Pieces.{le_four}
use Rattle.report_writer.proofs.put_float.Goals as goal

pub float_to_bits-x : goal.float_to_bits-x
float_to_bits-x c = not_nan c.args.x c.requires.0

pub returns : goal.returns
returns c = as_text (c.to_le_bytes.ensures ∙ le_four _) c.put.ensures
