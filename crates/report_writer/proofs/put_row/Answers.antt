-- The bytes of either kind of row.
use mathlib.Core.Path.{◌≡◌, sym, ap, subst}
use mathlib.Core.Bool.{true}
use lib.ListN.{length}
use Rattle.reader.specs.Answer.{paper_reading}
use Rattle.reader.specs.declared.Reading.{Reading}
use Rattle.report.specs.Reading.{good_row}
use Rattle.report.specs.Bytes.{row_bytes}
use Rattle.text.specs.Put.{HasRoom}
use Rattle.text.proofs.Join.{as_text}
use Rattle.report_writer.proofs.put_row.Goals as goal

pub put_tag-requires : goal.put_tag-requires
put_tag-requires c = (
  subst (λ (r : Reading). good_row (paper_reading r) ≡ true) c.in-Tag.is c.requires.0,
  subst (λ (r : Reading). HasRoom c.args.output.now (length (row_bytes (paper_reading r)))) c.in-Tag.is c.requires.1,
)

pub put-requires : goal.put-requires
put-requires c = subst (λ (r : Reading). HasRoom c.args.output.now (length (row_bytes (paper_reading r)))) c.in-Refused.is c.requires.1

pub returns-in-Tag : goal.returns-in-Tag
returns-in-Tag c =
    as_text (sym (ap (λ (r : Reading). row_bytes (paper_reading r)) c.in-Tag.is)) c.put_tag.ensures

pub returns-in-Refused : goal.returns-in-Refused
returns-in-Refused c =
    as_text (sym (ap (λ (r : Reading). row_bytes (paper_reading r)) c.in-Refused.is)) c.put.ensures
