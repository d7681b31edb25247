-- The numbers of a row that stands fit their fields.
use mathlib.Core.Path.{sym, ap, ◌∙◌}
use native.Mathlib.Omega.{arith}
use lib.ListN.{get_or}
use Rattle.report_writer.specs.Steps.{tag_row}
use Rattle.report_writer.proofs.Row.{front_tag_lem, front_refused, tag_good, refusal_good}
use Rattle.report_writer.proofs.reading_of.Goals as goal

pub overflow_cast-result : goal.overflow_cast-result
overflow_cast-result c =
    omega (arith, (refusal_good c.args.rows.now c.args.corners.now c.requires.2 c.if-rows-ne0.true).1)

pub returns-then-rows-ne0 : goal.returns-then-rows-ne0
returns-then-rows-ne0 c =
    sym (front_refused c.args.rows.now c.args.corners.now c.if-rows-ne0.true)

pub overflow_cast-result-2 : goal.overflow_cast-result-2
overflow_cast-result-2 c =
    omega (arith, (tag_good c.args.rows.now c.args.corners.now c.requires.2 c.if-rows-ne0.false).turned)

pub overflow_cast-result-3 : goal.overflow_cast-result-3
overflow_cast-result-3 c =
    omega (arith, (tag_good c.args.rows.now c.args.corners.now c.requires.2 c.if-rows-ne0.false).most)

pub returns : goal.returns
returns c =
    let rows = c.args.rows.now in
    ap (tag_row (get_or rows 1 0) (get_or rows 2 0) (get_or rows 3 0)) c.quad_at.ensures ∙ sym (front_tag_lem rows c.args.corners.now c.if-rows-ne0.false)
