-- Off the ends the response is the determinant, and at the ends it is zero.
use Rattle.std.proofs.Common.{◌≡◌, refl, ◌∙◌, subst, ℕ, ◌+◌, ◌-◌, length, arith}
use native.Mathlib.Nat.{add-zero}
use lib.ListN.{set}
use Rattle.samples.specs.Samples.{zero_f}
use Rattle.response.specs.Steps.{row_response}
use Rattle.response.proofs.Border.{last_end, off_end, row_end, row_off}
use Rattle.response.proofs.Pairs.{Pair, Pair-none, Pair-more, Pair-all}
use Rattle.response.proofs.respond_pair.Goals as goal

pub loop-x-init : goal.loop-x-init
loop-x-init c =
    let a = c.args in
    let n = length a.above.now in
    let f = row_response a.above.now a.upper.now a.lower.now n in
    let g = row_response a.upper.now a.lower.now a.below.now n in
    rw (add-zero n) at (Pair-more f g n 0 a.pair.now zero_f zero_f c.requires.0 refl refl (Pair-none f g n a.pair.now c.requires.1))

pub loop-x-preserved : goal.loop-x-preserved
loop-x-preserved c =
    let l = c.loop-x in
    let a = c.args in
    let n = length a.above.now in
    let e = off_end n l.x (omega arith) (omega arith) in
    Pair-more (row_response a.above.now a.upper.now a.lower.now n) (row_response a.upper.now a.lower.now a.below.now n) n l.x l.pair c.determinant_at-first.result c.determinant_at-second.result (omega arith)
    (c.determinant_at-first.ensures ∙ row_off a.above.now a.upper.now a.lower.now n l.x e)
    (c.determinant_at-second.ensures ∙ row_off a.upper.now a.lower.now a.below.now n l.x e)
    l.invariant

pub returns-then-last-gt0 : goal.returns-then-last-gt0
returns-then-last-gt0 c =
    let l = c.loop-x in
    let a = c.args in
    let n = length a.above.now in
    let last = n - 1 in
    let f = row_response a.above.now a.upper.now a.lower.now n in
    let g = row_response a.upper.now a.lower.now a.below.now n in
    let e : l.x ≡ last = omega arith in
    let q = last_end n l.x (omega arith) in
    Pair-all f g n (last + 1) (set (set l.pair last zero_f) (n + last) zero_f) (omega arith)
    (subst (λ (k : ℕ). Pair f g n (k + 1) (set (set l.pair k zero_f) (n + k) zero_f)) e
    (Pair-more f g n l.x l.pair zero_f zero_f (omega arith) (row_end a.above.now a.upper.now a.lower.now n l.x q) (row_end a.upper.now a.lower.now a.below.now n l.x q) l.invariant))

pub returns-else-last-gt0 : goal.returns-else-last-gt0
returns-else-last-gt0 c =
    let l = c.loop-x in
    let a = c.args in
    let n = length a.above.now in
    Pair-all (row_response a.above.now a.upper.now a.lower.now n) (row_response a.upper.now a.lower.now a.below.now n) n l.x l.pair (omega arith) l.invariant
