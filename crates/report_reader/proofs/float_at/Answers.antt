-- A pattern that refusal 8 lets through is no NaN's. Assumes nothing.
use mathlib.Core.Path.{sym, ap, ◌∙◌, subst}
use Prim.Native.Nat.{ℕ}
use mathlib.Core.Bool.{Bool, not}
use lib.Dec.{T}
use lib.Ieee.{binary32, of_bits}
use lib.Ieee.Bits.{nan_bits_is}
use Rattle.places.specs.Rounding.{bad_coordinate}
use Rattle.places.proofs.Pattern.{not_nan}
use Rattle.report_reader.proofs.float_at.Goals as goal

pub float_from_bits-result : goal.float_from_bits-result
float_from_bits-result c =
    let pattern = c.pattern_at.result in
    subst (λ (b : Bool). T (not b)) (sym (nan_bits_is binary32 pattern))
    (not_nan (of_bits binary32 pattern) (ap (λ (n : ℕ). bad_coordinate (of_bits binary32 n)) c.pattern_at.ensures ∙ c.requires.1))

pub returns : goal.returns
returns c = ap (of_bits binary32) c.pattern_at.ensures
