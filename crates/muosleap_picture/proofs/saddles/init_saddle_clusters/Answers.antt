-- Each test leads to its refusal, and all passed tests to the core.
use Rattle.std.proofs.Common.{◌≡◌, sym, ap, ◌∙◌, true, false, ◌+◌, ◌*◌, length, arith}
use mathlib.Core.Bool.{not}
use native.Mathlib.Nat.{mul_assoc}
use lib.Ieee.Scale.{finite}
use Rattle.lists.specs.Tab.{all}
use Rattle.refusals.proofs.Plane.{good_plane}
use Rattle.samples.specs.Samples.{tame}
use Rattle.muosleap_picture.proofs.ImageUtil.{wild}
use Rattle.muosleap_picture.proofs.SaddleClusters.{finite_is, refused_3, refused_4, refused_5, passed}
use Rattle.muosleap_picture.proofs.saddles.init_saddle_clusters.Goals.{Else-not-hold, Else-not-is_finite}
use Rattle.muosleap_picture.proofs.saddles.init_saddle_clusters.Goals as goal

pass_3 : (c : Else-not-hold) → not (all tame c.args.h_mat.now) ≡ false
pass_3 c = wild c.args.h_mat.now c.hold.result true c.hold.ensures c.if-not-hold.false

pass_4 : (c : Else-not-is_finite) → finite c.args.threshold ≡ true
pass_4 c = sym (finite_is c.args.threshold) ∙ sym c.is_finite.ensures.value ∙ c.if-not-is_finite.false

-- the length that the worklist is measured by
needed : (c : Else-not-is_finite) → 3 * length c.args.h_mat.now + 1 ≡ 3 * c.args.shape.width * c.args.shape.height + 1
needed c =
    omega (arith, (good_plane c.in_ok-new.ensures.ok.2).whole, mul_assoc 3 c.args.shape.width c.args.shape.height)

pub returns-then-not-hold-clause-rows_after : goal.returns-then-not-hold-clause-rows_after
returns-then-not-hold-clause-rows_after c =
    let a = c.args in
    refused_3 a.h_mat.now a.shape a.threshold (length a.worklist.now) a.rows.now c.in_ok-new.ensures.ok.2 (wild a.h_mat.now c.hold.result false c.hold.ensures c.if-not-hold.true)

pub returns-then-not-is_finite-clause-rows_after : goal.returns-then-not-is_finite-clause-rows_after
returns-then-not-is_finite-clause-rows_after c =
    let a = c.args in
    refused_4 a.h_mat.now a.shape a.threshold (length a.worklist.now) a.rows.now c.in_ok-new.ensures.ok.2 (pass_3 (goal.at.returns-then-not-is_finite-clause-rows_after c).Else-not-hold)
    (ap not (sym (finite_is a.threshold) ∙ sym c.is_finite.ensures.value ∙ c.if-not-is_finite.true))

pub returns-then-worklist-h_mat-clause-rows_after : goal.returns-then-worklist-h_mat-clause-rows_after
returns-then-worklist-h_mat-clause-rows_after c =
    let a = c.args in
    let f = (goal.at.returns-then-worklist-h_mat-clause-rows_after c).Else-not-is_finite in
    refused_5 a.h_mat.now a.shape a.threshold (length a.worklist.now) a.rows.now c.in_ok-new.ensures.ok.2 (pass_3 (goal.at.returns-then-worklist-h_mat-clause-rows_after c).Else-not-hold) (ap not (pass_4 f)) (omega (arith, c.if-worklist-h_mat.true, needed f))

pub init_saddle_clusters-requires-clause-threshold_value : goal.init_saddle_clusters-requires-clause-threshold_value
init_saddle_clusters-requires-clause-threshold_value c =
    (pass_4 (goal.at.init_saddle_clusters-requires-clause-threshold_value c).Else-not-is_finite, c.if-worklist-h_mat.false)

pub returns-clause-rows_after : goal.returns-clause-rows_after
returns-clause-rows_after c =
    let a = c.args in
    let f = (goal.at.returns-clause-rows_after c).Else-not-is_finite in
    passed a.h_mat.now a.shape a.threshold (length a.worklist.now) a.rows.now c.in_ok-new.ensures.ok.2 (pass_3 (goal.at.returns-clause-rows_after c).Else-not-hold) (ap not (pass_4 f)) (omega (arith, c.if-worklist-h_mat.false, needed f))
    (record { plane = c.init_saddle_clusters.new.h_mat; rows = c.init_saddle_clusters.new.rows; total = c.init_saddle_clusters.result })
    c.init_saddle_clusters.ensures
