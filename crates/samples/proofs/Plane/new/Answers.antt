-- What refusal 1 lets through has a width, and is as long as its sides say.
use mathlib.Core.Path.{sym, ◌∙◌}
use Rattle.refusals.proofs.Plane.{good_plane}
use Rattle.samples.proofs.Plane.new.Goals as goal

pub invariant_of-result : goal.invariant_of-result
invariant_of-result c =
    let plane = good_plane (sym c.bad_plane.ensures ∙ c.if-bad_plane.false) in
    record { wide = plane.sides.wide; whole = plane.whole }
