-- By the exponent's field, `pattern_bad`. Assumes nothing.
use mathlib.Core.Path.{sym}
use Rattle.places.proofs.Pattern.{pattern_bad}
use Rattle.report_reader.proofs.bad_pattern.Goals as goal

pub returns : goal.returns
returns c = sym (pattern_bad c.args.pattern)
