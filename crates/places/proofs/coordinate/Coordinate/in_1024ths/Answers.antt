-- The rounding of the bits' magnitude, with the sign that the highest bit says (`float_1024ths`).
use mathlib.Core.Path.{◌≡◌, sym, ap₂, ◌∙◌, subst}
use mathlib.Core.Bool.{Bool, true, false}
use Prim.Native.Nat.{◌^◌, ◌≤◌}
use native.Mathlib.Omega.{arith}
use borrow.Author.Rules.{rules}
use borrow.Author.Tests.{le-leb, lt-leb}
use lib.Dec.{T, lit<, lit≤}
use lib.IntN.{ℤ, pos, neg_ℤ, nat_abs, +ℤ_idl}
use lib.Ieee.{Float, to_bits, fits, binary32}
use mir.Syntax.{w64}
use mir.ValLaws.{to_z_pos}
use Rattle.places.specs.Rounding.{bad_coordinate, signed, in_1024ths}
use Rattle.places.proofs.Pattern.{sign, not_nan, near, float_1024ths}
use Rattle.places.proofs.Small.{coordinate_small}
use Rattle.places.proofs.Whole.{Held, natural, minus}
use Rattle.places.proofs.coordinate.Coordinate.in_1024ths.Goals.{After-nearest_times-n, Start}
use Rattle.places.proofs.coordinate.Coordinate.in_1024ths.Goals as goal

held : (c : Start) → T (fits binary32 c.args.self.value)
held c = subst T (sym c.well_formed.0.1.1.0.1) tt

pub float_to_bits-pattern : goal.float_to_bits-pattern
float_to_bits-pattern c = not_nan c.args.self.value c.args.self.bounded

pub nearest_times-n-requires : goal.nearest_times-n-requires
nearest_times-n-requires c = (near c.args.self.value (held (goal.at.nearest_times-n-requires c).Start) c.args.self.bounded, search rules)

zero : Held 0 (pos 0) 0
zero = natural 0 0 (lit< tt) (lit≤ tt)

magnitude : (c : After-nearest_times-n) → Held c.nearest_times-n.result (pos c.nearest_times-n.result) (2 ^ 32)
magnitude c = natural c.nearest_times-n.result (2 ^ 32) (lit< tt) (omega arith)

pub overflow_sub-result : goal.overflow_sub-result
overflow_sub-result c = (minus zero (magnitude (goal.at.overflow_sub-result c).After-nearest_times-n) (lit< tt)).0

-- the number with the sign that the bits have
with_sign : (c : After-nearest_times-n) (s : Bool) → sign (to_bits binary32 c.args.self.value) ≡ s → signed s c.nearest_times-n.result ≡ in_1024ths c.args.self.value
with_sign c s e = ap₂ signed (sym e) c.nearest_times-n.ensures ∙ float_1024ths c.args.self.value (held (goal.at.After-nearest_times-n c).Start) c.args.self.bounded

small : (x : Float) (z : ℤ) → bad_coordinate x ≡ false → z ≡ in_1024ths x → nat_abs z ≤ 2 ^ 24
small x z good e = rw e (coordinate_small x good)

pub returns-then-pattern-ge2147483648 : goal.returns-then-pattern-ge2147483648
returns-then-pattern-ge2147483648 c =
    let a = (goal.at.returns-then-pattern-ge2147483648 c).After-nearest_times-n in
    let value = (minus zero (magnitude a) (lit< tt)).1.is ∙ +ℤ_idl (neg_ℤ (pos c.nearest_times-n.result)) ∙ with_sign a true (le-leb _ _ c.if-pattern-ge2147483648.true) in
    record { value = value; small = small c.args.self.value _ c.args.self.bounded value }

pub returns-else-pattern-ge2147483648 : goal.returns-else-pattern-ge2147483648
returns-else-pattern-ge2147483648 c =
    let a = (goal.at.returns-else-pattern-ge2147483648 c).After-nearest_times-n in
    let value = to_z_pos w64 c.nearest_times-n.result (omega arith) ∙ with_sign a false (lt-leb _ _ c.if-pattern-ge2147483648.false) in
    record { value = value; small = small c.args.self.value _ c.args.self.bounded value }
