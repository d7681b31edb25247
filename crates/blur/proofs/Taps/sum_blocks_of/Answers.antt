-- One more block of sums is made. The last one ends where the row ends.
use Rattle.std.proofs.Common.{◌≡◌, refl, ◌∙◌, subst, ℕ, ◌+◌, ◌-◌, ◌≤◌, length, arith}
use Rattle.std.specs.Prelude.{min}
use Rattle.lists.proofs.Part.{back}
use Rattle.lists.proofs.Rows.{Filled, Filled-none, Filled-part, Filled-all}
use Rattle.blur.proofs.Lines.{apart_part}
use Rattle.blur.proofs.Taps.sum_blocks_of.Invariants.{at}
use Rattle.blur.proofs.Taps.sum_blocks_of.Goals.{After-sum_block}
use Rattle.blur.proofs.Taps.sum_blocks_of.Goals as goal

-- the sums up to the end of the block are made
up_to : (g : _) (c : After-sum_block g) → let from = c.min-from.result in
    Filled (at c.args.self) (length c.args.row.now) (from + g.row.N) (back c.loop-next.row from (from + g.row.N - from) c.sum_block.new.block)
up_to g c =
    let l = c.loop-next in
    let a = c.args in
    let n = length a.row.now in
    let from = c.min-from.result in
    let m = g.row.N in
    Filled-part (at a.self) n (min l.next n) from (from + m) m l.row c.sum_block.new.block (omega (arith, c.min-from.ensures)) (omega (arith, c.min-from.ensures, c.requires.block)) refl
    (c.sum_block.ensures ∙ apart_part a.self.img.now a.self.weights.now a.self.start a.self.step from m (length a.self.weights.now))
    l.invariant

pub loop-next-init : goal.loop-next-init
loop-next-init g c =
    let a = c.args in
    let e : 0 ≡ min 0 (length a.row.now) = omega arith in
    subst (λ (m : ℕ). Filled (at a.self) (length a.row.now) m a.row.now) e
    (Filled-none (at a.self) (length a.row.now) a.row.now refl)

pub loop-next-preserved : goal.loop-next-preserved
loop-next-preserved g c =
    let l = c.loop-next in
    let a = c.args in
    let n = length a.row.now in
    let from = c.min-from.result in
    let e : from + g.row.N ≡ min (l.next + g.row.N) n = omega (arith, c.min-from.ensures, c.requires.block) in
    subst (λ (m : ℕ). Filled (at a.self) n m (back l.row from (from + g.row.N - from) c.sum_block.new.block)) e
    (up_to g (goal.at.loop-next-preserved g c).After-sum_block)

pub returns-2 : goal.returns-2
returns-2 g c =
    let a = c.args in
    let n = length a.row.now in
    let end : n ≤ c.min-from.result + g.row.N = omega (arith, c.min-from.ensures, c.requires.block) in
    Filled-all (at a.self) n (c.min-from.result + g.row.N) _ end (up_to g (goal.at.returns-2 g c).After-sum_block)
