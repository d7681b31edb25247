-- At row i and column j of the turned square, `b` is the turned word without its i * edge + j low places. Assumes nothing.
use mathlib.Core.Path.{◌≡◌, sym, ap, ◌∙◌}
use Prim.Native.Nat.{ℕ, ◌+◌, ◌-◌, ◌*◌, ◌/◌, ◌^◌, ◌≤◌, ◌<◌}
use native.Mathlib.Nat.{zero-mul, suc-mul, div-one, div-eq_of_lt, lt_of_lt_of_le}
use native.Mathlib.Numerals.{add-one}
use native.Mathlib.Omega.{arith}
use lib.Arith.{digits_lt}
use lib.Pow.{pow_mono, shr_le}
use Rattle.lists.proofs.Grid.{square_le}
use Rattle.word.specs.Word.{bit, source, turn}
use Rattle.word.proofs.Bits.{word_lower}
use Rattle.word.proofs.Turn.{turn-lt, bit-turn}
use Rattle.word.proofs.by_formula.Goals.{After-bit_at}
use Rattle.word.proofs.by_formula.Goals as goal

-- one place lower
module _ (e w i j b : ℕ) (some : 1 ≤ j) (so_far : b ≡ turn e w / 2 ^ (i * e + j)) where
  abbrev place : ℕ
  place = i * e + (j - 1)

  lower : b * 2 + bit (turn e w) place ≡ turn e w / 2 ^ place
  lower =
      let s : i * e + j ≡ place + 1 = omega arith in
      ap (λ (x : ℕ). x * 2 + bit (turn e w) place) (so_far ∙ ap (λ (k : ℕ). turn e w / 2 ^ k) s) ∙ word_lower (turn e w) place

  fits : e ≤ 8 → b * 2 + bit (turn e w) place < 2 ^ 64
  fits h =
      let small : turn e w < 2 ^ 64 = lt_of_lt_of_le (turn-lt e w) (pow_mono (square_le e h)) in
      omega (arith, lower, shr_le (turn e w) place)

  -- the bit that the code reads there
  bit_is : i < e → j ≤ e → (from x : ℕ) → from ≡ source e place → x ≡ bit w from → x ≡ bit (turn e w) place
  bit_is hi hj from x ef ex =
      let l : j - 1 < e = omega arith in
      ex ∙ ap (bit w) ef ∙ sym (bit-turn e w place (digits_lt hi l))

pub loop-i-init : goal.loop-i-init
loop-i-init c = sym (div-eq_of_lt (turn-lt c.args.edge c.args.bits))

pub loop-j-init : goal.loop-j-init
loop-j-init c =
    let l = c.loop-i in
    let a = c.args in
    let e = a.edge in
    let r : l.i ≡ l.i - 1 + 1 = omega arith in
    let s = ap (λ (n : ℕ). n * e) (r ∙ add-one (l.i - 1)) ∙ suc-mul (l.i - 1) e in
    l.invariant ∙ ap (λ (k : ℕ). turn e a.bits / 2 ^ k) s

pub loop-i-preserved : goal.loop-i-preserved
loop-i-preserved c =
    let l = c.loop-j in
    let i = c.loop-i.i - 1 in
    let a = c.args in
    let s : i * a.edge + l.j ≡ i * a.edge = omega arith in
    l.invariant ∙ ap (λ (k : ℕ). turn a.edge a.bits / 2 ^ k) s

pub overflow_mul-b : goal.overflow_mul-b
overflow_mul-b c =
    let l = c.loop-j in
    let a = c.args in
    omega (arith, fits a.edge a.bits (c.loop-i.i - 1) l.j l.b (omega arith) l.invariant (omega arith))

-- the bit that is put to `b`
module _ (c : After-bit_at) where
  put : c.bit_at.result ≡ bit (turn c.args.edge c.args.bits) ((c.loop-i.i - 1) * c.args.edge + (c.loop-j.j - 1))
  put =
      let a = c.args in
      let l = c.loop-j in
      bit_is a.edge a.bits (c.loop-i.i - 1) l.j l.b (omega arith) l.invariant (omega arith) (omega arith) c.source_place.result c.bit_at.result c.source_place.ensures.0 c.bit_at.ensures

pub overflow_add-b : goal.overflow_add-b
overflow_add-b c =
    let a = c.args in
    omega (arith, put c, fits a.edge a.bits (c.loop-i.i - 1) c.loop-j.j c.loop-j.b (omega arith) c.loop-j.invariant (omega arith))

pub loop-j-preserved : goal.loop-j-preserved
loop-j-preserved c =
    let a = c.args in
    ap (λ (x : ℕ). c.loop-j.b * 2 + x) (put c) ∙ lower a.edge a.bits (c.loop-i.i - 1) c.loop-j.j c.loop-j.b (omega arith) c.loop-j.invariant

pub returns : goal.returns
returns c =
    let l = c.loop-i in
    let a = c.args in
    let i : l.i ≡ 0 = omega arith in
    l.invariant ∙ ap (λ (n : ℕ). turn a.edge a.bits / 2 ^ n) (ap (λ (n : ℕ). n * a.edge) i ∙ zero-mul a.edge) ∙ div-one (turn a.edge a.bits)

pub bit_at-requires : goal.bit_at-requires
bit_at-requires c = c.source_place.ensures.1
