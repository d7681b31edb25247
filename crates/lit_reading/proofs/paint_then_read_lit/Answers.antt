-- The painter's answer, taken apart; then `lit_then_read`. Assumes nothing.
use mathlib.Core.Path.{sym, ap, ◌∙◌}
use mathlib.Core.List.{List}
use Prim.Native.Nat.{ℕ}
use Rattle.std.specs.Prelude.{Result}
use Rattle.refusals.specs.Numbers.{outcome}
use Rattle.refusals.specs.declared.refusal.Refusal.{Refusal}
use Rattle.points.specs.declared.Quad.{Quad}
use Rattle.muosleap_paint.specs.PaintTag.{Painting}
use Rattle.lit_reading.specs.Said.{lit_print, read_picture}
use Rattle.lit_reading.specs.Sampleable.{Sampleable}
use Rattle.lit_reading.proofs.Said.{tag_sampleable, lit_then_read}
use Rattle.lit_reading.proofs.paint_then_read_lit.Goals.{In-Ok}
use Rattle.lit_reading.proofs.paint_then_read_lit.Goals as goal

abbrev painting : List ℕ → Result Quad Refusal → Painting
painting left x = record { answer = outcome x; plane = left }

-- the painted quad can be sampled on the plane that was left
sampleable : (t : In-Ok) → Sampleable t.paint_tag.new.plane t.args.frame t.args.family t.in-Ok.quad
sampleable t =
    let a = t.args in
    let left = t.paint_tag.new.plane in
    tag_sampleable a.plane.now a.frame a.family a.word a.print _ left (sym (ap (painting left) t.in-Ok.is) ∙ t.paint_tag.ensures)

pub invariant_of-shown : goal.invariant_of-shown
invariant_of-shown c = record { framed = (sampleable (goal.at.invariant_of-shown c).In-Ok).readable.framed }

pub read_lit-requires : goal.read_lit-requires
read_lit-requires c = sampleable (goal.at.read_lit-requires c).In-Ok

pub returns-in-Ok : goal.returns-in-Ok
returns-in-Ok c =
    let a = c.args in
    let left = c.paint_tag.new.plane in
    let r = c.read_lit.ensures in
    lit_then_read a.plane.now a.frame a.family a.codes.now a.word a.print a.picture.now a.pitch a.start (outcome c.paint_tag.result) left _ _ c.paint_tag.ensures
    (r.worked_out ∙ sym (ap (λ (x : Result Quad Refusal). lit_print a.frame a.family a.print a.picture.now a.pitch left (outcome x)) c.in-Ok.is))
    (r.read ∙ sym (ap (λ (x : Result Quad Refusal). read_picture a.frame a.family a.codes.now a.picture.now a.pitch a.start (outcome x)) c.in-Ok.is))

pub returns-in-Err : goal.returns-in-Err
returns-in-Err c =
    let a = c.args in
    let left = c.paint_tag.new.plane in
    let r = c.unpainted.ensures in
    lit_then_read a.plane.now a.frame a.family a.codes.now a.word a.print a.picture.now a.pitch a.start (outcome c.paint_tag.result) left _ _ c.paint_tag.ensures
    (r.0 ∙ sym (ap (λ (x : Result Quad Refusal). lit_print a.frame a.family a.print a.picture.now a.pitch left (outcome x)) c.in-Err.is))
    (r.1 ∙ sym (ap (λ (x : Result Quad Refusal). read_picture a.frame a.family a.codes.now a.picture.now a.pitch a.start (outcome x)) c.in-Err.is))
