-- A line that is copied is one more row of the block.
use mathlib.Core.Path.{◌≡◌, refl, ap, ◌∙◌}
use mathlib.Core.List.{List}
use Prim.Native.Nat.{ℕ, ◌+◌, ◌-◌}
use native.Mathlib.Omega.{arith}
use lib.ListN.{length, get_or}
use Rattle.refusals.proofs.Pixels.{good_frame}
use Rattle.painter.specs.Picture.{repainted, block_pixel}
use Rattle.painter.proofs.Block.{block_none, block_more, Run, run_of}
use Rattle.painter.proofs.canvas.Canvas.copy_block.Goals.{In-loop-row}
use Rattle.painter.proofs.canvas.Canvas.copy_block.Goals as goal

pub loop-row-init : goal.loop-row-init
loop-row-init c =
    let a = c.args in
    let s = a.self.now in
    record { copied = block_none s.frame a.x a.y (length a.line.now) (λ i. get_or a.line.now i 0) s.bytes.now; same_frame = refl; same_loan = refl }

-- the row lies in the plane
row : (c : In-loop-row) → let a = c.args in Run (length c.loop-row.self.bytes.now) a.self.now.frame a.x (a.y + c.loop-row.row) (length a.line.now)
row c =
    let a = c.args in
    run_of (rw c.loop-row.invariant.same_frame at c.loop-row.self.framed) a.x (a.y + c.loop-row.row) (length a.line.now) c.requires.across
    (omega (arith, c.requires.down, c.loop-row-test.true))

pub place_of-start-requires : goal.place_of-start-requires
place_of-start-requires c = (row (goal.at.place_of-start-requires c).In-loop-row).begins

pub overflow_add-start : goal.overflow_add-start
overflow_add-start c = omega (arith, c.place_of-start.ensures, (row (goal.at.overflow_add-start c).In-loop-row).small)

pub slice_bounds-copy_from_slice-end : goal.slice_bounds-copy_from_slice-end
slice_bounds-copy_from_slice-end c = omega (arith, c.place_of-start.ensures, (row (goal.at.slice_bounds-copy_from_slice-end c).In-loop-row).inside)

pub loop-row-preserved : goal.loop-row-preserved
loop-row-preserved c =
    let a = c.args in
    let s = a.self.now in
    let w = length a.line.now in
    let i = c.loop-row.invariant in
    let start = c.place_of-start.result in
    let line = c.copy_from_slice.ensures.after in
    record {
      copied =
          block_more s.frame a.x a.y w (λ i. get_or a.line.now i 0) s.bytes.now c.loop-row.row start (start + w - start) c.loop-row.self.bytes.now c.copy_from_slice.new.self
          c.place_of-start.ensures (omega arith) (omega (arith, c.place_of-start.ensures, (row (goal.at.loop-row-preserved c).In-loop-row).inside)) (ap length line)
          (λ k h. ap (λ (l : List ℕ). get_or l k 0) line)
          c.requires.across (good_frame s.framed).pitched.at_least i.copied;
      same_frame = i.same_frame;
      same_loan = i.same_loan;
    }

pub returns-clause-copied : goal.returns-clause-copied
returns-clause-copied c =
    let a = c.args in
    let s = a.self.now in
    let row : c.loop-row.row ≡ a.high = omega arith in
    c.loop-row.invariant.copied ∙ ap (λ (n : ℕ). repainted s.frame (block_pixel a.x a.y (length a.line.now) n (λ i. get_or a.line.now i 0)) s.bytes.now) row
