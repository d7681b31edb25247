-- The place's sign is tested, and what is left fits 32 bits; half the divisor is added before the division.
use mathlib.Core.Path.{◌≡◌, sym, ap, ap₂, ◌∙◌}
use Prim.Native.Nat.{ℕ, ◌+◌, ◌*◌, ◌/◌}
use native.Mathlib.Omega.{arith}
use borrow.Author.Rules.{rules}
use lib.IntN.{nat_abs}
use mir.Syntax.{w64}
use mir.Val.{SFits, to_z, of_z}
use Rattle.std.proofs.lemmas.Int.{to_z-of_z}
use Rattle.places.specs.Rounding.{to_pixel}
use Rattle.places.proofs.Value.{not_below_pixel}
use Rattle.places.proofs.Axis.pixel.Goals as goal

pub returns : goal.returns
returns c =
    let side = c.args.side in
    let place = c.place-place.result in
    let z = to_z w64 (of_z w64 place) in
    let fits : SFits w64 place = search rules in
    let e : 4096 * side ≡ 2 * (2048 * side) = omega arith in
    ap (λ (d : ℕ). (nat_abs z + 2048 * side) / d) e
    ∙ not_below_pixel z (2048 * side) c.if-place-lt0.false
    ∙ ap₂ to_pixel (to_z-of_z w64 place fits ∙ c.place-place.ensures.value) (sym e)
