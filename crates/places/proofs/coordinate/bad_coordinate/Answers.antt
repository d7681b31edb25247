-- The two comparisons, by `by_tests`.
use mathlib.Core.Path.{◌≡◌, sym, ap, ◌∙◌}
use mathlib.Core.Bool.{Bool, true, false, not, ◌&&◌}
use lib.Ieee.{Float, lt, neg}
use Rattle.places.proofs.Limit.{limit, by_tests}
use Rattle.places.proofs.coordinate.bad_coordinate.Goals as goal
use Rattle.places.proofs.coordinate.bad_coordinate.Goals.{then-x, else-x}

-- with the first comparison said, the second decides
below : (x : Float) (above : Bool) → above ≡ lt (neg limit) x → above && lt x limit ≡ lt (neg limit) x && lt x limit
below x above e = ap (λ (t : Bool). t && lt x limit) e

pub returns : goal.returns
returns c =
    let x = c.args.x in
    let joined : c.if-x.result ≡ lt (neg limit) x && lt x limit =
    elim c.if-x.branch [ then-x w ↦ w.result-is ∙ below x true (sym w.if-x.true) | else-x w ↦ w.result-is ∙ w.if-x.false ∙ below x false (sym w.if-x.false) ] in
    ap not joined ∙ by_tests x
