-- Each test of the code is the definition's, and behind all of them stands the response.
use Rattle.std.proofs.Common.{ap₂, sym, subst, ◌∙◌, ◌<◌, List, true, false}
use lib.Ieee.{Float}
use Rattle.refusals.specs.declared.Shape.{Shape}
use Rattle.refusals.proofs.Plane.{good_plane}
use Rattle.response.specs.Response.{response}
use Rattle.muosleap_picture.proofs.ImageUtil.{same_length, wild, response_samples, response_done}
use Rattle.muosleap_picture.proofs.image_util.hessian_response.Goals as goal

pub returns-then-not-hold : goal.returns-then-not-hold
returns-then-not-hold c =
    let a = c.args in
    response_samples a.img.now a.shape a.out.now c.in_ok-plane.ensures.ok.2 c.in_ok-new.ensures.ok.2 (wild a.img.now c.hold.result false c.hold.ensures c.if-not-hold.true)

pub hessian_response-requires : goal.hessian_response-requires
hessian_response-requires c =
    let a = c.args in
    let plane = c.in_ok-plane.ensures.ok in (
      subst (λ (q : Shape). 0 < q.height) (sym plane.1) (good_plane plane.2).sides.high,
      same_length _ a.img.now a.out.now a.shape plane.0 plane.2 c.in_ok-new.ensures.ok.2,
    )

pub returns : goal.returns
returns c =
    let a = c.args in
    let plane = c.in_ok-plane.ensures.ok in
    response_done a.img.now a.shape a.out.now plane.2 c.in_ok-new.ensures.ok.2 (wild a.img.now c.hold.result true c.hold.ensures c.if-not-hold.false) c.hessian_response.new.out
    (c.hessian_response.ensures ∙ ap₂ (λ (s : List Float) (q : Shape). response s q.width q.height) plane.0 plane.1)
