-- A plane that refusal 1 lets through has a sample.
use Rattle.refusals.proofs.Plane.{good_plane}
use Rattle.muosleap_picture.proofs.ImageUtil.{has_samples}
use Rattle.muosleap_picture.proofs.image_util.response_threshold.Goals as goal

pub response_threshold-requires : goal.response_threshold-requires
response_threshold-requires c = has_samples (good_plane c.in_ok-new.ensures.ok.2)
