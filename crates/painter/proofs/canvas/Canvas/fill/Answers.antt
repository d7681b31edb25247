-- A row that is filled is one more row of the block of light pixels, which in the end is the whole picture.
use mathlib.Core.Path.{◌≡◌, refl, ap, ◌∙◌}
use Prim.Native.Nat.{ℕ, ◌+◌, ◌-◌}
use native.Mathlib.Omega.{arith}
use lib.ListN.{length}
use Rattle.std.proofs.lemmas.Grind.{common_steps}
use Rattle.refusals.specs.Pixels.{place_of}
use Rattle.refusals.proofs.Pixels.{good_frame}
use Rattle.painter.specs.Picture.{repainted, block_pixel}
use Rattle.painter.proofs.Block.{block_none, block_more, whole_block, Run, run_of}
use Rattle.painter.proofs.canvas.Canvas.fill.Goals.{In-loop-row}
use Rattle.painter.proofs.canvas.Canvas.fill.Goals as goal

pub loop-row-init : goal.loop-row-init
loop-row-init c =
    let s = c.args.self.now in
    record { painted = block_none s.frame 0 0 s.frame.width (λ i. c.args.light) s.bytes.now; same_frame = refl; same_loan = refl }

-- the row lies in the plane
row : (c : In-loop-row) → let s = c.args.self.now in Run (length c.loop-row.self.bytes.now) s.frame 0 c.loop-row.row s.frame.width
row c = run_of (rw c.loop-row.invariant.same_frame at c.loop-row.self.framed) 0 c.loop-row.row c.args.self.now.frame.width (omega arith) (omega (arith, c.loop-row-test.true))

pub place_of-start-requires : goal.place_of-start-requires
place_of-start-requires c = (row (goal.at.place_of-start-requires c).In-loop-row).begins

pub overflow_add-start : goal.overflow_add-start
overflow_add-start c = omega (arith, c.place_of-start.ensures, (row (goal.at.overflow_add-start c).In-loop-row).small)

pub slice_bounds-fill-end : goal.slice_bounds-fill-end
slice_bounds-fill-end c = omega (arith, c.place_of-start.ensures, (row (goal.at.slice_bounds-fill-end c).In-loop-row).inside)

pub loop-row-preserved : goal.loop-row-preserved
loop-row-preserved c =
    let s = c.args.self.now in
    let w = s.frame.width in
    let i = c.loop-row.invariant in
    let within = (row (goal.at.loop-row-preserved c).In-loop-row).inside in
    let start = c.place_of-start.result in
    let long : length c.fill.new.self ≡ w = grind (arith, common_steps, c.fill.ensures.len, c.place_of-start.ensures, within) in
    let place : start ≡ place_of s.frame 0 (0 + c.loop-row.row) = omega (arith, c.place_of-start.ensures) in
    record {
      painted =
          block_more s.frame 0 0 w (λ i. c.args.light) s.bytes.now c.loop-row.row start (start + w - start) c.loop-row.self.bytes.now c.fill.new.self
          place (omega arith) (omega (arith, c.place_of-start.ensures, within)) long
          (λ k h. c.fill.ensures.clones k 0 (omega (arith, c.fill.ensures.len, long)) refl)
          (omega arith) (good_frame s.framed).pitched.at_least i.painted;
      same_frame = i.same_frame;
      same_loan = i.same_loan;
    }

pub returns-clause-filled : goal.returns-clause-filled
returns-clause-filled c =
    let s = c.args.self.now in
    let row : c.loop-row.row ≡ s.frame.height = omega arith in
    whole_block s.frame c.args.light s.bytes.now c.loop-row.self.bytes.now s.framed
    (c.loop-row.invariant.painted ∙ ap (λ (n : ℕ). repainted s.frame (block_pixel 0 0 s.frame.width n (λ i. c.args.light)) s.bytes.now) row)
