-- 0 under a set highest bit, else the rounding of the bits' magnitude (`float_negative`, `float_positive`).
use mathlib.Core.Path.{sym, ◌∙◌, subst}
use borrow.Author.Rules.{rules}
use lib.Dec.{T}
use lib.Ieee.{fits, binary32}
use Rattle.places.proofs.Pattern.{not_nan, near, float_negative, float_positive}
use Rattle.places.proofs.coordinate.Coordinate.pixel.Goals.{Start}
use Rattle.places.proofs.coordinate.Coordinate.pixel.Goals as goal

pub float_to_bits-pattern : goal.float_to_bits-pattern
float_to_bits-pattern c = not_nan c.args.self.value c.args.self.bounded

held : (c : Start) → T (fits binary32 c.args.self.value)
held c = subst T (sym c.well_formed.0.1.1.0.1) tt

pub returns-then-pattern-ge2147483648 : goal.returns-then-pattern-ge2147483648
returns-then-pattern-ge2147483648 c = float_negative c.args.self.value (held (goal.at.returns-then-pattern-ge2147483648 c).Start) c.args.self.bounded c.if-pattern-ge2147483648.true

pub nearest_times-requires : goal.nearest_times-requires
nearest_times-requires c = (near c.args.self.value (held (goal.at.nearest_times-requires c).Start) c.args.self.bounded, search rules)

pub returns : goal.returns
returns c = c.nearest_times.ensures ∙ float_positive c.args.self.value (held (goal.at.returns c).Start) c.args.self.bounded c.if-pattern-ge2147483648.false
