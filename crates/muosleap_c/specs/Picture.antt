-- What the calls for C on planes and clusters return and leave, told by what the entry's own definition says. Assumes nothing.
use Rattle.std.specs.Prelude.{ℕ, ◌≡◌, List, [], ◌∷◌, Float}
use Rattle.points.specs.declared.Point.{Point}
use Rattle.refusals.specs.Outcome.{number}
use Rattle.muosleap_picture.specs.ImageUtil.{AfterBlur, AfterResponse}
use Rattle.muosleap_picture.specs.SaddleClusters.{Call, WorklistKept}
use Rattle.outputs.specs.Outputs.{Output, Written, whole}

-- a blur: the plane between and the output
pub record Blurs (after : AfterBlur) (r : ℕ) (temp out : Output (List Float)) : Type 0 where
  pub answered : r ≡ number after.answer
  pub temp_left : temp.after ≡ after.temp
  pub out_left : out.after ≡ after.out

-- a response: the output
pub record Responds (after : AfterResponse) (r : ℕ) (out : Output (List Float)) : Type 0 where
  pub answered : r ≡ number after.answer
  pub out_left : out.after ≡ after.out

-- clusters: the plane, the worklist, the rows and how many there are
pub record FindsClusters (call : Call) (r : ℕ) (plane : Output (List Float)) (worklist rows : Output (List ℕ)) (total : Output ℕ) : Type 0 where
  pub answered : r ≡ number call.answer
  pub plane_left : plane.after ≡ call.plane
  pub worklist_kept : WorklistKept call.answer worklist.before worklist.after
  pub rows_left : rows.after ≡ call.rows
  pub total_written : Written call.answer whole total

-- the two numbers of a centre
abbrev pub coordinates : Point → List Float
coordinates p = p.x ∷ p.y ∷ []
