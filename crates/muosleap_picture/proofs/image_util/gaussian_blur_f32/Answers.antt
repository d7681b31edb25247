-- The three planes are of one length.
use Rattle.std.proofs.Common.{◌∙◌, sym}
use Rattle.muosleap_picture.proofs.ImageUtil.{same_length}
use Rattle.muosleap_picture.proofs.image_util.gaussian_blur_f32.Goals as goal

pub blur_across-requires : goal.blur_across-requires
blur_across-requires c =
    let a = c.args in
    same_length _ a.img.now a.temp.now a.shape c.in_ok-plane.ensures.ok.0 c.in_ok-plane.ensures.ok.2 c.in_ok-new.ensures.ok.2

pub blur_down-requires : goal.blur_down-requires
blur_down-requires c =
    let a = c.args in
    same_length _ a.img.now a.out.now a.shape c.in_ok-plane.ensures.ok.0 c.in_ok-plane.ensures.ok.2 c.in_ok-new-2.ensures.ok.2
    ∙ sym (same_length _ a.img.now a.temp.now a.shape c.in_ok-plane.ensures.ok.0 c.in_ok-plane.ensures.ok.2 c.in_ok-new.ensures.ok.2)
    ∙ sym c.blur_across.auto.temp
