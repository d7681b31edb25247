-- The painter's answer, taken apart; the start is put into a list of one quad; then `start_listed`. Assumes nothing.
use mathlib.Core.Path.{sym, ap, ◌∙◌}
use mathlib.Core.List.{List}
use lib.Ieee.{Float}
use Rattle.std.specs.Prelude.{Result}
use Rattle.refusals.specs.Numbers.{outcome}
use Rattle.refusals.specs.declared.refusal.Refusal.{Refusal}
use Rattle.points.specs.declared.Quad.{Quad}
use Rattle.points.specs.Numbers.{numbers_of}
use Rattle.muosleap.specs.Quads.{decode_quads}
use Rattle.demand3.specs.Said.{list_print}
use Rattle.demand3.proofs.Said.{start_listed}
use Rattle.demand3.proofs.list_start.Goals as goal

pub returns : goal.returns
returns c =
    let a = c.args in
    let left = c.paint_tag.new.plane in
    start_listed a.plane.now a.frame a.family a.codes.now a.word a.print a.start a.rows.now a.corners.now (outcome c.paint_tag.result) left _ c.paint_tag.ensures
    (c.try_decode_quads.ensures
    ∙ ap (λ (x : List Float). decode_quads left a.frame a.family a.codes.now x a.rows.now a.corners.now) (c.put_quad.ensures ∙ ap numbers_of c.rotate_left.ensures)
    ∙ sym (ap (λ (x : Result Quad Refusal). list_print a.frame a.family a.codes.now a.start a.rows.now a.corners.now left (outcome x)) c.in_ok-quad.was))
