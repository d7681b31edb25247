-- The painter's answer, taken apart; then `painted_then_read`. Assumes nothing.
use mathlib.Core.Path.{sym, ap, ◌∙◌}
use Rattle.std.specs.Prelude.{Result}
use Rattle.refusals.specs.Numbers.{outcome}
use Rattle.refusals.specs.declared.refusal.Refusal.{Refusal}
use Rattle.points.specs.declared.Quad.{Quad}
use Rattle.demand3.specs.Said.{read_print}
use Rattle.demand3.proofs.Said.{painted_then_read}
use Rattle.demand3.proofs.paint_then_read.Goals as goal

pub returns-in-Ok : goal.returns-in-Ok
returns-in-Ok c =
    let a = c.args in
    let left = c.paint_tag.new.plane in
    painted_then_read a.plane.now a.frame a.family a.codes.now a.word a.print a.start (outcome c.paint_tag.result) left _ c.paint_tag.ensures
    (c.read_start.ensures
    ∙ sym (ap (λ (x : Result Quad Refusal). read_print a.frame a.family a.codes.now a.start left (outcome x)) c.in-Ok.is))
