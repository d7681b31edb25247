-- Off the ends the response is the determinant, and at the ends it is zero.
use Rattle.std.proofs.Common.{◌≡◌, refl, sym, ap, ◌∙◌, subst, ℕ, ◌+◌, ◌-◌, length, arith}
use lib.ListN.{set}
use Rattle.lists.specs.Tab.{tabulate}
use Rattle.lists.proofs.Rows.{Filled, Filled-none, Filled-one, Filled-all}
use Rattle.samples.specs.Samples.{zero_f}
use Rattle.response.specs.Steps.{row_response}
use Rattle.response.proofs.Border.{off_end, last_end, row_end, row_off}
use Rattle.response.proofs.respond_row.Invariants.{f}
use Rattle.response.proofs.respond_row.Goals as goal

pub loop-x-init : goal.loop-x-init
loop-x-init c =
    let a = c.args in
    let n = length a.above.now in
    let g = f a.above.now a.here.now a.below.now in
    Filled-one g n 0 a.row.now zero_f (omega (arith, c.requires.0, c.requires.1)) refl (Filled-none g n a.row.now (sym c.requires.1))

pub loop-x-preserved : goal.loop-x-preserved
loop-x-preserved c =
    let l = c.loop-x in
    let a = c.args in
    let n = length a.above.now in
    Filled-one (f a.above.now a.here.now a.below.now) n l.x l.row c.determinant_at.result (omega (arith, c.requires.1))
    (c.determinant_at.ensures ∙ row_off a.above.now a.here.now a.below.now n l.x (off_end n l.x (omega arith) (omega (arith, c.requires.1))))
    l.invariant

pub returns-then-last-gt0 : goal.returns-then-last-gt0
returns-then-last-gt0 c =
    let l = c.loop-x in
    let a = c.args in
    let n = length a.above.now in
    let last = length a.row.now - 1 in
    let g = f a.above.now a.here.now a.below.now in
    let e : l.x ≡ last = omega arith in
    let q : last + 1 ≡ n = omega (arith, c.requires.0, c.requires.1) in
    Filled-all g n (last + 1) (set l.row last zero_f) (omega arith)
    (subst (λ (k : ℕ). Filled g n (k + 1) (set l.row k zero_f)) e
    (Filled-one g n l.x l.row zero_f (omega arith) (row_end a.above.now a.here.now a.below.now n l.x (last_end n l.x (omega arith))) l.invariant))
    ∙ ap (λ (m : ℕ). tabulate m (row_response a.above.now a.here.now a.below.now m)) c.requires.1

pub returns-else-last-gt0 : goal.returns-else-last-gt0
returns-else-last-gt0 c =
    let l = c.loop-x in
    let a = c.args in
    let n = length a.above.now in
    Filled-all (f a.above.now a.here.now a.below.now) n l.x l.row (omega (arith, c.requires.1)) l.invariant
    ∙ ap (λ (m : ℕ). tabulate m (row_response a.above.now a.here.now a.below.now m)) c.requires.1
