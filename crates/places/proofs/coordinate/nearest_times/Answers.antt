-- The two answers of `Pattern.antt`, with a shift for the division by a power of two.
use mathlib.Core.Path.{◌≡◌, sym, ap, ◌∙◌}
use Prim.Native.Nat.{ℕ, ◌+◌, ◌-◌, ◌*◌, ◌/◌, ◌%◌, ◌^◌, ◌≤◌}
use native.Mathlib.Nat.{one-mul}
use native.Mathlib.Omega.{arith}
use lib.Dec.{lit<}
use lib.Pow.{shl_exact}
use Rattle.places.proofs.Pattern.{field, pattern_none, pattern_some}
use Rattle.places.proofs.coordinate.nearest_times.Goals as goal

-- the places to be cut
abbrev cut : ℕ → ℕ → ℕ
cut pattern digits = 150 - digits - field pattern

shift : (d : ℕ) → d ≤ 30 → 1 * 2 ^ d % 4294967296 ≡ 2 ^ d
shift d h = shl_exact 1 d 32 (lit< tt) (omega arith) ∙ one-mul (2 ^ d)

pub returns-then-d-gt30 : goal.returns-then-d-gt30
returns-then-d-gt30 c =
    let a = c.args in
    sym (pattern_none a.pattern c.requires.0 a.digits (cut a.pattern a.digits) c.requires.1 (omega arith) c.if-d-gt30.true)

pub returns : goal.returns
returns c =
    let a = c.args in
    let d = cut a.pattern a.digits in
    ap (λ (n : ℕ). (2 * (8388608 + a.pattern % 8388608) + n) / 2 ^ (d + 1)) (shift d c.if-d-gt30.false)
    ∙ sym (pattern_some a.pattern c.requires.0 a.digits d c.requires.1 (omega arith) c.if-d-gt30.false)
