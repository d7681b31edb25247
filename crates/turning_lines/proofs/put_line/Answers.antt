-- The number of place 0, then each further number behind those before it, then the line feed. Assumes nothing.
use Rattle.std.proofs.Common.{ℕ, ◌*◌, ◌<◌, ◌≡◌, [], ◌∷◌, ◌++◌, length, ap, ◌∙◌, arith}
use native.Mathlib.Nat.{mul-le-mul}
use Rattle.lists.proofs.Grid.{square_le}
use Rattle.text.specs.Text.{line_feed, decimal}
use Rattle.text.proofs.Join.{put_more, as_text}
use Rattle.turning_lines.proofs.Spaced.{front, front_first, front_next, front_line, feed_fits, next_fits}
use Rattle.turning_lines.proofs.put_line.Goals as goal

-- a square has a place
one_place : (e : ℕ) → 0 < e → 0 < e * e
one_place e h = mul-le-mul h h

pub source_of-requires : goal.source_of-requires
source_of-requires c = (omega arith, omega arith, one_place c.args.edge (omega arith))

pub put_decimal-requires : goal.put_decimal-requires
put_decimal-requires c =
    let e = c.args.edge in
    (omega (arith, c.source_of.ensures.1), omega (arith, ap (λ (n : ℕ). length (decimal n)) c.source_of.ensures.0, ap length (front_first e), feed_fits e 1 (one_place e (omega arith)) (one_place e (omega arith))))

pub loop-k-init : goal.loop-k-init
loop-k-init c = as_text (ap decimal c.source_of.ensures.0 ∙ front_first c.args.edge) c.put_decimal.ensures

pub overflow_mul-k-end : goal.overflow_mul-k-end
overflow_mul-k-end c = let e = c.args.edge in omega (arith, square_le e (omega arith))

pub put_number-requires : goal.put_number-requires
put_number-requires c =
    let f = c.source_of-in-loop-k.ensures in
    (omega (arith, f.1), omega (arith, c.loop-k.invariant, next_fits c.args.edge c.loop-k.k (omega arith) (omega arith) (omega (arith, f.0, f.1))))

pub loop-k-preserved : goal.loop-k-preserved
loop-k-preserved c =
    let k = c.loop-k.k in
    put_more (front_next c.args.edge k (omega arith) c.source_of-in-loop-k.ensures.0)
    (omega (arith, feed_fits c.args.edge k (omega arith) (omega arith)))
    c.loop-k.invariant
    c.put_number.ensures

pub put_byte-requires : goal.put_byte-requires
put_byte-requires c =
    let e = c.args.edge in
    let square = one_place e (omega arith) in
    omega (arith, feed_fits e c.loop-k.k (c.loop-k.auto.k-end square) square)

pub returns : goal.returns
returns c =
    let e = c.args.edge in
    let square = one_place e (omega arith) in
    let all : c.loop-k.k ≡ e * e = omega (arith, c.loop-k.auto.k-end square) in
    put_more (ap (λ (k : ℕ). front e k ++ (line_feed ∷ [])) all ∙ front_line e square)
    (omega (arith, feed_fits e c.loop-k.k (omega arith) square))
    c.loop-k.invariant
    c.put_byte.ensures
