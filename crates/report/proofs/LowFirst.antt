-- A number in so many bytes, low byte first, is read as itself. Assumes nothing.
use mathlib.Core.Path.{◌≡◌, refl, ap}
use Prim.Native.Nat.{ℕ, zero, suc, ◌/◌, ◌^◌, ◌<◌}
use native.Mathlib.Omega.{arith}
use lib.ListN.{length}
use Rattle.report.specs.Bytes.{low_first}
use Rattle.report.specs.Report.{number_of}

pub length-low_first : (w n : ℕ) → length (low_first w n) ≡ w
unfolding low_first
length-low_first zero n = refl
length-low_first (suc w) n = ap suc (length-low_first w (n / 256))

pub number_back : (w n : ℕ) → n < 256 ^ w → number_of (low_first w n) ≡ n
unfolding low_first number_of
number_back zero n h = omega arith
number_back (suc w) n h = omega (arith, number_back w (n / 256) (omega arith))
