-- The definitions of the entries on float planes, by the tests that an entry makes one after the other. Assumes nothing.
use Rattle.std.proofs.Common.{◌≡◌, sym, ap, ◌∙◌, Bool, true, false, List, ℕ, ◌<◌, length}
use mathlib.Core.Bool.{not}
use native.Mathlib.Nat.{mul-pos}
use lib.Ieee.{Float, binary32, of_bits}
use Rattle.lists.specs.Tab.{all}
use Rattle.refusals.specs.Outcome.{accepted, refused}
use Rattle.refusals.specs.declared.Shape.{Shape}
use Rattle.refusals.proofs.Plane.{Plane, good_plane}
use Rattle.samples.specs.Samples.{between, tame}
use Rattle.samples.proofs.Laws.{tame_is}
use Rattle.response.specs.Response.{response}
use Rattle.muosleap_picture.specs.ImageUtil.{misshapen, hessian_response}

-- two planes of one shape are of one length
pub same_length : (a b c : List Float) (shape : Shape) → a ≡ b → misshapen shape b ≡ false → misshapen shape c ≡ false → length c ≡ length a
same_length a b c shape e p q = (good_plane q).whole ∙ sym (good_plane p).whole ∙ sym (ap length e)

-- a plane that refusal 1 lets through has a sample
pub has_samples : {len width height : ℕ} → Plane len width height → 0 < len
has_samples p = rw p.whole (mul-pos p.sides.wide p.sides.high)

-- the test of the samples, as the code makes it
pub wild : (l : List Float) (held b : Bool) → held ≡ all (between (of_bits binary32 0xc780_0000) (of_bits binary32 0x4780_0000)) l → held ≡ b → not (all tame l) ≡ not b
wild l held b e h = ap not (sym (ap (λ (p : Float → Bool). all p l) tame_is) ∙ sym e ∙ h)

module _ (img : List Float) (shape : Shape) (out : List Float) (a : misshapen shape img ≡ false) (b : misshapen shape out ≡ false) where
  pub response_samples : not (all tame img) ≡ true → record { answer = refused 3; out = out } ≡ hessian_response img shape out
  unfolding hessian_response
  response_samples c = rw (a, b, c)

  pub response_done : not (all tame img) ≡ false → (o : List Float) → o ≡ response img shape.width shape.height → record { answer = accepted record {}; out = o } ≡ hessian_response img shape out
  unfolding hessian_response
  response_done c o p = rw (a, b, c, p)
