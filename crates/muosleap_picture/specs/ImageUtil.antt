-- What the entries on float planes answer and what they leave in the planes that are lent to them, for all inputs. Assumes nothing.
use Rattle.std.specs.Prelude.{ℕ, Bool, not, ◌||◌, cond, List, length, Float}
use Rattle.lists.specs.Tab.{all}
use Rattle.refusals.specs.Outcome.{Outcome, accepted, refused, Done}
use Rattle.refusals.specs.Plane.{bad_plane}
use Rattle.refusals.specs.declared.Shape.{Shape}
use Rattle.samples.specs.Samples.{in_unit, tame}
use Rattle.blur.specs.Blur.{bad_weights, across, down}
use Rattle.response.specs.Response.{response}
use Rattle.threshold.specs.Threshold.{threshold}

-- refusal 1 for one plane
abbrev pub misshapen : Shape → List Float → Bool
misshapen shape plane = bad_plane (length plane) shape.width shape.height

-- what a blur answers, and what the plane between and the output hold afterwards
pub record AfterBlur : Type 0 where
  pub answer : Outcome Done
  pub temp : List Float
  pub out : List Float

-- Refusals "blur 1, 2, 3", each of which leaves the planes as they were; else "across into a lent plane, then down"
unfoldable pub gaussian_blur : (img : List Float) (shape : Shape) (weights temp out : List Float) → AfterBlur
gaussian_blur img shape weights temp out =
    let refuse : ℕ → AfterBlur = λ n. record { answer = refused n; temp = temp; out = out } in
    let between = across img shape.width shape.height weights in
    cond (misshapen shape img || misshapen shape temp || misshapen shape out) (refuse 1)
    (cond (bad_weights weights) (refuse 2)
    (cond (not (all in_unit img)) (refuse 3)
    record { answer = accepted record {}; temp = between; out = down between shape.width shape.height weights }))

-- what a response answers, and what the output holds afterwards
pub record AfterResponse : Type 0 where
  pub answer : Outcome Done
  pub out : List Float

-- refusals "response and threshold 1, 3"
unfoldable pub hessian_response : (img : List Float) (shape : Shape) (out : List Float) → AfterResponse
hessian_response img shape out =
    let refuse : ℕ → AfterResponse = λ n. record { answer = refused n; out = out } in
    cond (misshapen shape img || misshapen shape out) (refuse 1)
    (cond (not (all tame img)) (refuse 3)
    record { answer = accepted record {}; out = response img shape.width shape.height })

unfoldable pub response_threshold : (samples : List Float) (shape : Shape) → Outcome Float
response_threshold samples shape =
    cond (misshapen shape samples) (refused 1)
    (cond (not (all tame samples)) (refused 3)
    (accepted (threshold samples)))
